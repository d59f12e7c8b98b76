-- The check's counts are right (`counting`): all lists together have as many members as there are ordinary chunks,
-- and used + free + 16 = heap bytes. Assumes nothing.
use mathlib.Core.Path.{◌≡◌, refl, sym}
use mathlib.Core.Bool.{true}
use mathlib.Core.List.Memᴰ
use mathlib.Core.List.{List, ◌∷◌}
use Prim.Native.Nat.{ℕ, ◌+◌}
use native.Mathlib.Omega.{arith}
use lib.ListN.{length, length-map}
use Rattle.books.proofs.HeapBooks.{member_entry, lists_apart, ordinary_listed}
use Rattle.lists.specs.Lists.{Mem, keep, total, numbers_from, gathered, Distinct}
use Rattle.lists.proofs.MembersLaws.{kept_from, kept_has}
use Rattle.lists.proofs.CountLaws.{distinct_fits, gathered_length, gathered_from, gathered_has, gathered_once}
use Rattle.record.specs.declared.answers.Answer.TheVariants.{Counted}
use Rattle.record.specs.declared.heap.Heap.{Heap}
use Rattle.rules.specs.Shape.{Entry, shape, bin_list}
use Rattle.rules.specs.Kinds.{ordinary}
use Rattle.rules.specs.Check.{Passes, passes, used_bytes, free_bytes, counts_of}
use Rattle.rules.specs.Merge.{check, checked}
use Rattle.rules.specs.Ask.{places_of}
use Rattle.rules.specs.Calls.{Check, step}
use Rattle.rules.proofs.BytesLaws.{bytes_shared}
use Rattle.rules.proofs.ChainLaws.{places_once, shape_chain}
use Rattle.rules.proofs.CheckLaws.{passes_iff}
use Rattle.rules.proofs.SpotLaws.{inside, bounds}
use Rattle.promises.specs.Ways.{ours}
use Rattle.promises.specs.Counting.{Right, Counting}

module _ (ws : List ℕ) (h : Heap) (p : Passes ws h) where
  abbrev es : List Entry
  es = shape ws h.bytes

  -- the lists of all bins, appended, have the places of the ordinary chunks, each once
  abbrev listed : List ℕ
  listed = gathered (bin_list ws h) (numbers_from 0 h.bins)

  listed_once : Distinct listed
  listed_once =
      gathered_once (bin_list ws h) h.bins 0 (λ i lo hi. (p.bins i (omega arith)).once)
      (λ i j lo l hi c m k. lists_apart ws h p i j (omega arith) (omega arith) (λ q. omega arith) c m k)

  listed_ordinary : (c : ℕ) → Mem c listed → Mem c (places_of (keep (ordinary h) es))
  listed_ordinary c m =
      let (i, (_, inside), member) = gathered_from (bin_list ws h) h.bins 0 m in
      let (e, r) = member_entry ws h p i c (omega arith) member in
      Memᴰ.cast (sym r.place) (Memᴰ.map (λ (e : Entry). e.place) (kept_has (ordinary h) r.member r.kind))

  ordinary_in : (c : ℕ) → Mem c (places_of (keep (ordinary h) es)) → Mem c listed
  ordinary_in c m = each (keep (ordinary h) es) (λ e k. kept_from (ordinary h) es k) m
    where
      each : (ds : List Entry) → ((e : Entry) → Mem e ds → Mem e es × (ordinary h e ≡ true)) → Mem c (places_of ds) → Mem c listed
      each mathlib.Core.List.[] f x'' = elim x'' [ ]
      each (d ∷ ds) f (Memᴰ.head q) =
          let (on, kind) = f d (Memᴰ.head refl) in
          let (i, inside, _, member) = ordinary_listed ws h p d on kind in
          Memᴰ.cast q (gathered_has (bin_list ws h) h.bins 0 i (omega arith) (omega arith) member)
      each (d ∷ ds) f (Memᴰ.tail n) = each ds (λ e k. f e (Memᴰ.tail k)) n

  -- so there are as many members as ordinary chunks
  ordinary_count : length (keep (ordinary h) es) ≡ total (λ i. length (bin_list ws h i)) (numbers_from 0 h.bins)
  ordinary_count =
      let a = distinct_fits listed (places_of (keep (ordinary h) es)) listed_once listed_ordinary in
      let b = distinct_fits (places_of (keep (ordinary h) es)) listed (places_once (ordinary h) 0 es (shape_chain ws h.bytes).rising) ordinary_in in
      omega (arith, length-map (keep (ordinary h) es) (λ (e : Entry). e.place), gathered_length (bin_list ws h) (numbers_from 0 h.bins))

  -- used, free, and 16 bytes for start and end
  sum : used_bytes h es + free_bytes h es + 16 ≡ h.bytes
  sum = let b = bounds ws h p in bytes_shared ws h (omega arith) p.ends.start_size p.chain.reaches_end

  right : Right ws h es (counts_of h es)
  right =
      record {
        chunks = refl;
        ordinary = refl;
        listed = ordinary_count;
        used = refl;
        recorded = sym p.used;
        free = refl;
        sum = sum;
      }

  well : passes ws h ≡ true
  well = (passes_iff ws h).1 p

  checks : (ours Check ws h).answer ≡ Counted (counts_of h es)
  unfolding ours step check checked
  checks = rw well

pub counting : Counting ours
counting ws h p = (counts_of h (shape ws h.bytes), checks ws h p, right ws h p)
