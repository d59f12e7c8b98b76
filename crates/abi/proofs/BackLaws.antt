-- A record's words say that record (`flat_and_back`), and words that say a record are its words (`back_and_flat`). Assumes nothing.
use mathlib.Core.Path.{◌≡◌, refl, sym, ap, ◌∙◌}
use mathlib.Core.Bool.{Bool, true, false, cond}
use mathlib.Core.List.{List, [], ◌∷◌, ◌++◌}
use Prim.Native.Nat.{ℕ, zero, suc, ◌≤◌}
use native.Mathlib.Omega.{arith}
use lib.Dec.{eqb}
use lib.ListN.{length, get_or, take, drop, take-append-drop, drop_of_length-le}
use lib.Seq.{get_or-append-add, take_at, drop_at, drop-cons, drop-drop}
use Rattle.record.specs.declared.heap.Heap.{Heap}
use Rattle.abi.specs.Flat.{merge_place, sizes_from, heads_from, tails_from, patrol_place, record_words, record_in, record_out}

-- the merge word, there and back
merge_back : (on : Bool) → eqb (cond on 1 0) 1 ≡ on
merge_back true = refl
merge_back false = refl

merge_there : (word : ℕ) → word ≤ 1 → cond (eqb word 1) 1 0 ≡ word
merge_there zero l = refl
merge_there (suc zero) l = refl
merge_there (suc (suc word)) l = absurd (omega arith)

-- the second and the third of the bins' arrays, and the word after them
module _ (sizes heads tails : List ℕ) (last : ℕ) (s : length sizes ≡ 32) (h : length heads ≡ 32) (t : length tails ≡ 32) where
  abbrev all : List ℕ
  all = sizes ++ (heads ++ (tails ++ (last ∷ [])))

  heads_back : take 32 (drop 32 all) ≡ heads
  heads_back = rw (drop_at sizes (heads ++ (tails ++ (last ∷ []))) 32 s) (take_at heads (tails ++ (last ∷ [])) 32 h)

  after_heads : drop 64 all ≡ tails ++ (last ∷ [])
  after_heads =
      rw (sym (drop-drop 32 32 all), drop_at sizes (heads ++ (tails ++ (last ∷ []))) 32 s) (drop_at heads (tails ++ (last ∷ [])) 32 h)

  tails_back : take 32 (drop 64 all) ≡ tails
  tails_back = rw after_heads (take_at tails (last ∷ []) 32 t)

  last_back : get_or all 96 0 ≡ last
  last_back =
      (rw s at (get_or-append-add sizes (heads ++ (tails ++ (last ∷ []))) 64 0)) ∙ (rw h at (get_or-append-add heads (tails ++ (last ∷ [])) 32 0))
      ∙ (rw t at (get_or-append-add tails (last ∷ []) 0 0))

-- a record's words say that record
pub flat_and_back : (h : Heap) → length h.sizes ≡ 32 → length h.heads ≡ 32 → length h.tails ≡ 32
    → record_in (record_out h) ≡ h
unfolding record_in record_out
flat_and_back h s e t =
    let c = h.patrol.0 in
    rw (
      merge_back h.merge,
      take_at h.sizes (h.heads ++ (h.tails ++ (c ∷ []))) 32 s,
      heads_back h.sizes h.heads h.tails c s e t,
      tails_back h.sizes h.heads h.tails c s e t,
      last_back h.sizes h.heads h.tails c s e t,
    )
    refl

-- the bins' 96 words and the patrol's place are their four parts
bins_there : (rs : List ℕ) → length rs ≡ record_words
    → take 32 (drop sizes_from rs) ++ (take 32 (drop heads_from rs) ++ (take 32 (drop tails_from rs) ++ (get_or rs patrol_place 0 ∷ []))) ≡ drop sizes_from rs
bins_there rs whole =
    let end : drop patrol_place rs ≡ get_or rs patrol_place 0 ∷ [] =
    drop-cons rs patrol_place 0 (omega arith) ∙ ap (λ (l : List ℕ). get_or rs patrol_place 0 ∷ l) (drop_of_length-le rs {i = suc patrol_place} (omega arith)) in
    rw (
      sym end,
      sym (drop-drop 32 tails_from rs),
      take-append-drop 32 (drop tails_from rs),
      sym (drop-drop 32 heads_from rs),
      take-append-drop 32 (drop heads_from rs),
      sym (drop-drop 32 sizes_from rs),
    )
    (take-append-drop 32 (drop sizes_from rs))

-- words whose merge word is 0 or 1 are the words of the record that they say
pub back_and_flat : (rs : List ℕ) → length rs ≡ record_words → get_or rs merge_place 0 ≤ 1 → record_out (record_in rs) ≡ rs
unfolding record_in record_out
back_and_flat rs whole merge =
    rw (merge_there (get_or rs 4 0) merge, bins_there rs whole, sym (drop-cons rs 5 0 (omega arith)), sym (drop-cons rs 4 0 (omega arith)), sym (drop-cons rs 3 0 (omega arith)), sym (drop-cons rs 2 0 (omega arith)), sym (drop-cons rs 1 0 (omega arith)))
    (sym (drop-cons rs 0 0 (omega arith)))
