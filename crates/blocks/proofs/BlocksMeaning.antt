-- Clearing a block makes the rules' stores (`clear_is`), and so does copying one to another that it has no word in common with (`copy_is`).
-- Assumes nothing.
use mathlib.Core.Path.{◌≡◌, refl, sym, ap, ◌∙◌}
use mathlib.Core.Logic.{◌≢◌}
use mathlib.Core.List.{List, ◌∷◌, ◌++◌, map, append_assoc}
use Prim.Native.Nat.{ℕ, zero, suc, ◌+◌, ◌*◌, ◌-◌, ◌/◌, ◌%◌, ◌≤◌, ◌<◌}
use native.Mathlib.Nat.{add-zero}
use native.Mathlib.Omega.{arith}
use lib.ListN.{length, get_or, take, drop, set, replicate, length-replicate}
use lib.Seq.{sets, sets-eq, drop-drop}
use borrow.Author.Tests.{le-leb}
use Rattle.lists.specs.Lists.{numbers_from}
use Rattle.region.specs.Words.{word, store, put, written}
use Rattle.region.proofs.WordsLaws.{word_other}
use Rattle.rules.specs.Shape.{Entry}
use Rattle.rules.specs.Kinds.{block_of, block_end, block_words}
use Rattle.rules.specs.Allocate.{cleared}
use Rattle.rules.specs.Reallocate.{copied}
use Rattle.blocks.specs.Blocks.{cleared_m, copied_m}

-- stores to n words of a place, from number i on
puts_set : (v : ℕ → ℕ) (b n i : ℕ) (ws : List ℕ)
    → written ws (map (λ k. put b k (v k)) (numbers_from i n)) ≡ sets ws (b / 4 + i) (map v (numbers_from i n))
unfolding store
puts_set v b zero i ws = refl
puts_set v b (suc n) i ws =
    let e : b / 4 + suc i ≡ suc (b / 4 + i) = omega arith in
    puts_set v b n (suc i) (store ws b i (v i)) ∙ ap (λ (k : ℕ). sets (store ws b i (v i)) k (map v (numbers_from (suc i) n))) e

zeros : (n i : ℕ) → map {B = ℕ} (λ k. 0) (numbers_from i n) ≡ replicate n 0
zeros zero i = refl
zeros (suc n) i = ap (λ (l : List ℕ). 0 ∷ l) (zeros n (suc i))

-- n words from index b on are 0
zeros_set : (ws : List ℕ) (b n : ℕ) → b + n ≤ length ws
    → sets ws (b + 0) (map (λ k. 0) (numbers_from 0 n)) ≡ take b ws ++ (replicate n 0 ++ drop n (drop b ws))
zeros_set ws b n l =
    let k : length (replicate {A = ℕ} n 0) ≡ n = length-replicate n 0 in
    rw (zeros n 0, add-zero b, drop-drop n b ws, ← append_assoc (take b ws) (replicate n 0) (drop (b + n) ws))
    (sets-eq (replicate n 0) ws b (omega arith) ∙ ap (λ (i : ℕ). take b ws ++ replicate n 0 ++ drop (b + i) ws) k)

pub clear_is : (ws : List ℕ) (e : Entry) → e.place % 8 ≡ 0 → e.size % 8 ≡ 0 → 8 ≤ e.size → block_end e ≤ 4 * length ws
    → cleared_m ws (block_of e) (block_end e) ≡ written ws (cleared e)
unfolding cleared_m
clear_is ws e z s l f =
    let m : block_end e / 4 - block_of e / 4 ≡ block_words e = omega arith in
    rw (le-leb (block_of e / 4) (block_end e / 4) (omega arith), le-leb (block_end e / 4) (length ws) (omega arith), m)
    (sym (puts_set (λ k. 0) (block_of e) (block_words e) 0 ws ∙ zeros_set ws (block_of e / 4) (block_words e) (omega arith)))

-- a block's words by its chunk's place
word_of_block : (ws : List ℕ) (c i : ℕ) → word ws c (2 + i) ≡ word ws (c + 8) i
unfolding word
word_of_block ws c i = ap (λ (k : ℕ). get_or ws k 0) (omega arith)

store_of_block : (ws : List ℕ) (c i v : ℕ) → store ws c (2 + i) v ≡ store ws (c + 8) i v
unfolding store
store_of_block ws c i v = ap (λ (k : ℕ). set ws k v) (omega arith)

-- the two blocks have no word in common
module _ (from to : ℕ) where
  abbrev pub Disjoint : ℕ → Type 0
  Disjoint n = (j k : ℕ) → j < n → k < n → (from + 8) / 4 + j ≢ (to + 8) / 4 + k

  -- the words from number i on, which are still as they were in `before`
  copies : (n i : ℕ) (before ws : List ℕ) → Disjoint (i + n) → ((j : ℕ) → i ≤ j → j < i + n → word ws (from + 8) j ≡ word before (from + 8) j)
      → copied_m n ws from to (2 + i) ≡ written ws (map (λ k. put (to + 8) k (word before (from + 8) k)) (numbers_from i n))
  unfolding copied_m
  copies zero i before ws d same = refl
  copies (suc n) i before ws d same =
      let v : ℕ = word before (from + 8) i in
      let w : word ws from (2 + i) ≡ v = word_of_block ws from i ∙ same i (omega arith) (omega arith) in
      let e : suc (2 + i) ≡ 2 + suc i = omega arith in
      rw (w, store_of_block ws to i v, e)
      (copies n (suc i) before (store ws (to + 8) i v) (λ j k a b. d j k (omega arith) (omega arith))
      (λ j a b. word_other ws (to + 8) i v (from + 8) j (d j i (omega arith) (omega arith)) ∙ same j (omega arith) (omega arith)))

-- the block of the chunk `old` is copied to that of `new`; its words in ws are those that it had in `before`
pub copy_is : (before ws : List ℕ) (old new : Entry) → 8 ≤ old.size → Disjoint old.place new.place (block_words old)
    → ((j : ℕ) → j < block_words old → word ws (block_of old) j ≡ word before (block_of old) j)
    → copied_m (old.size / 4 - 2) ws old.place new.place 2 ≡ written ws (copied before old new)
copy_is before ws old new l d same =
    let n : old.size / 4 - 2 ≡ block_words old = omega arith in
    rw n (copies old.place new.place (block_words old) 0 before ws (λ j k a b. d j k (omega arith) (omega arith)) (λ j a b. same j (omega arith)))
