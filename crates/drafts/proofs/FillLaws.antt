-- Words of a block written one after the other (`fill_from`); and writes inside a live block leave a heap that passes and is read as before (`written_inside`).
-- Assumes nothing.
use mathlib.Core.Path.{◌≡◌, sym, ap, ◌∙◌, fun_ext}
use mathlib.Core.Logic.{◌≢◌, ◌⊎◌, inl, inr}
use mathlib.Core.Bool.{true}
use mathlib.Core.List.{List, map}
use Prim.Native.Nat.{ℕ, zero, suc, ◌+◌, ◌*◌, ◌/◌, ◌≤◌, ◌<◌}
use native.Mathlib.Decide.{ℕ_discrete}
use native.Mathlib.Omega.{arith}
use lib.ListN.{length}
use Rattle.lists.specs.Lists.{Mem, numbers_from}
use Rattle.record.specs.declared.heap.Heap.{Heap}
use Rattle.region.specs.Words.{word, Store, store, put, written, forward, backward}
use Rattle.region.proofs.WordsLaws.{Fall, fall_so, Off, off, word_same, length_store, length_written}
use Rattle.rules.specs.Shape.{Entry, chunk_end, shape, bin_list}
use Rattle.rules.specs.Kinds.{live, unused, block_of, block_end, block_words}
use Rattle.rules.specs.Check.{Fits, Passes}
use Rattle.rules.specs.Draft.{as_read}
use Rattle.rules.proofs.SpotLaws.{inside, chunks_apart, one_chunk}
use Rattle.rules.proofs.KindsLaws.{live_used, block_starts, block_ends}
use Rattle.rules.proofs.NamedLaws.{flags_free}
use Rattle.rules.proofs.HeadersLaws.{SameHeader, headers_shape, headers_list, headers_pass}

-- all stores are to words of the block of e
abbrev pub Within : Entry → List Store → Type 0
Within e ss = Fall (λ i. (block_of e / 4 ≤ i) × (i < block_end e / 4)) ss

-- the stores of n words, from word i of the block at b on
abbrev pub fill_from : ℕ → ℕ → (ℕ → ℕ) → ℕ → List Store
fill_from b i value n = map (λ j. put b j (value j)) (numbers_from i n)

-- from a block's start on they are inside the block, if it has that many words
pub filled_within : (e : Entry) (value : ℕ → ℕ) (n : ℕ) → n ≤ block_words e → Within e (fill_from (block_of e) 0 value n)
filled_within e value n l = go n 0 (omega arith)
  where
    go : (n i : ℕ) → i + n ≤ block_words e → Within e (fill_from (block_of e) i value n)
    go zero i r = tt
    go (suc n) i r = ((omega arith, omega arith), go n (suc i) (omega arith))

-- no word past them is written
pub fill_off : (value : ℕ → ℕ) (b n i k : ℕ) → i + n ≤ k → Off (b / 4 + k) (fill_from b i value n)
fill_off value b zero i k l = tt
fill_off value b (suc n) i k l = (omega arith, fill_off value b n (suc i) k (omega arith))

-- each word is read back
pub fill_reads : (value : ℕ → ℕ) (b n i : ℕ) (ws : List ℕ) → b / 4 + i + n ≤ length ws → (k : ℕ) → i ≤ k → k < i + n
    → word (written ws (fill_from b i value n)) b k ≡ value k
fill_reads value b zero i ws r k lo hi = absurd (omega arith)
fill_reads value b (suc n) i ws r k lo hi =
    go (ℕ_discrete k i)
    (λ l. fill_reads value b n (suc i) (store ws b i (value i)) (omega (arith, length_store ws b i (value i))) k l (omega arith))
  where
    later : (n j : ℕ) → i < j → Off (b / 4 + i) (fill_from b j value n)
    later zero j l = tt
    later (suc n) j l = (λ q. omega arith, later n (suc j) (omega arith))

    go : Dec (k ≡ i) → let after = written (store ws b i (value i)) (fill_from b (suc i) value n) in
        (suc i ≤ k → word after b k ≡ value k) → word after b k ≡ value k
    go (yes q) f =
        rw q
        (off (fill_from b (suc i) value n) (store ws b i (value i)) b i (later n (suc i) (omega arith))
        ∙ word_same ws b i (value i) (omega arith))
    go (no m) f = f (omega arith)

-- stores inside a block are to no word below it and to none above it
pub below_block : (e : Entry) (ss : List Store) → Within e ss → (i : ℕ) → i < block_of e / 4 → Off i ss
below_block e ss w i l = fall_so (λ k. (block_of e / 4 ≤ k) × (k < block_end e / 4)) (λ k. i ≢ k) (λ k b q. omega arith) ss w

pub above_block : (e : Entry) (ss : List Store) → Within e ss → (i : ℕ) → block_end e / 4 ≤ i → Off i ss
above_block e ss w i l = fall_so (λ k. (block_of e / 4 ≤ k) × (k < block_end e / 4)) (λ k. i ≢ k) (λ k b q. omega arith) ss w

-- the words `after` pass, and are read as the words `before`
pub record ReadAlike (before after : List ℕ) (h : Heap) : Type 0 where
  pub chain : shape after h.bytes ≡ shape before h.bytes
  pub lists : (i : ℕ) → bin_list after h i ≡ bin_list before h i
  pub passes : Passes after h

-- a call begins on them with the same draft
pub alike_read : {before after : List ℕ} {h : Heap} → ReadAlike before after h → as_read after h ≡ as_read before h
unfolding as_read
alike_read r = rw (r.chain, fun_ext r.lists)

-- stores ss into the live block of the chunk e
module _ {ws : List ℕ} {h : Heap} (p : Passes ws h) {e : Entry} (m : Mem e (shape ws h.bytes)) (l : live h e ≡ true)
    (ss : List Store) (w : Within e ss) where
  -- every word of another chunk stays, and the two header words of the block's own chunk
  word_stands : (d : Entry) → Mem d (shape ws h.bytes) → (k : ℕ) → 4 * k + 4 ≤ d.size → (d.place ≡ e.place → k < 2)
      → word ws d.place k ≡ word (written ws ss) d.place k
  word_stands d md k r own = sym (off ss ws d.place k (go (ℕ_discrete d.place e.place)))
    where
      by : (chunk_end d ≤ e.place) ⊎ (chunk_end e ≤ d.place) → Off (d.place / 4 + k) ss
      by (inl q) = let i = inside ws h p d md in let b = block_starts e in below_block e ss w _ (omega arith)
      by (inr q) = let b = block_ends e in above_block e ss w _ (omega arith)

      go : Dec (d.place ≡ e.place) → Off (d.place / 4 + k) ss
      go (yes q) = let s = own q in let b = block_starts e in below_block e ss w _ (omega arith)
      go (no n) = by (chunks_apart ws h p d e md m n)

  headers_stand : (d : Entry) → Mem d (shape ws h.bytes) → SameHeader ws (written ws ss) d
  headers_stand d md =
      let i = inside ws h p d md in
      record {
        links = (word_stands d md forward (omega arith) (λ q. omega arith), word_stands d md backward (omega arith) (λ q. omega arith));
        words = λ f k r.
            let b = (flags_free ws h p d md f).between in
            word_stands d md k (omega arith) (λ q. absurd (in_use_lem f (one_chunk ws h p d e md m q)));
      }
    where
      in_use_lem : d.flags ≡ unused → d ≡ e → ⊥
      in_use_lem f q = let g = ap (λ (x : Entry). x.flags) q in let u = live_used h e l in omega arith

  still_fits : Fits (written ws ss) h
  still_fits =
      let f = p.fits in
      let n = length_written ss ws in
      record { enough = omega arith; not_too_many = omega arith; bytes = rw n f.bytes }

  pub written_inside : ReadAlike ws (written ws ss) h
  written_inside =
      record {
        chain = headers_shape p headers_stand;
        lists = headers_list p headers_stand;
        passes = headers_pass p headers_stand still_fits;
      }
