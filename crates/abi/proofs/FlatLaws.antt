-- How words are copied, and what the record's copies come to. Assumes nothing.
use mathlib.Core.Path.{◌≡◌, refl, sym, ap, ◌∙◌}
use mathlib.Core.Bool.{Bool, true, false, cond}
use mathlib.Core.List.{List, [], ◌∷◌, ◌++◌, append-nil, append_assoc}
use Prim.Native.Nat.{ℕ, ◌+◌, ◌<◌, ◌≤◌}
use native.Mathlib.Numerals.{add-one}
use native.Mathlib.Omega.{arith}
use lib.ListN.{length, replicate, get_or, set, take, drop, length-drop, drop_of_length-le}
use lib.Seq.{paste, paste-suc, length-paste, take-paste, take_all, take-length, length-take-le}
use mir.Val.{bool_byte}
use Rattle.record.specs.declared.heap.Heap.{Heap}
use Rattle.record.specs.Heap.{places, record_of, summary_of}
use Rattle.abi.specs.Flat.{sizes_from, heads_from, tails_from, patrol_place, record_words, record_in, record_out}

-- one more word
pub puts_one : (to from after : List ℕ) (at i : ℕ) → at + length from ≤ length to → after ≡ paste to at from i → i < length from
    → set after (at + i) (get_or from i 0) ≡ paste to at from (i + 1)
puts_one to from after at i fits e l = rw (e, add-one i) (paste-suc to at from i 0 (omega arith) (omega arith))

-- a part of the flat record
pub part_length : (rs : List ℕ) (n : ℕ) → length rs ≡ record_words → n + 32 ≤ record_words → length (take 32 (drop n rs)) ≡ 32
part_length rs n whole inside = length-take-le 32 (drop n rs) (omega (arith, length-drop n rs))

-- the summary and the three arrays, as they stand in the words, make the record that the words say
pub parts_are : (rs : List ℕ) → record_of (summary_of (record_in rs)) (take places (drop sizes_from rs)) (take places (drop heads_from rs)) (take places (drop tails_from rs)) ≡ record_in rs
unfolding record_in
parts_are rs = refl

-- a copy that fills an array
pub fills_array : (rs : List ℕ) (at : ℕ) → length rs ≡ record_words → at + 32 ≤ record_words
    → let from = take 32 (drop at rs) in
    paste (replicate 32 0) 0 from (length from) ≡ from
fills_array rs at whole inside =
    let from = take 32 (drop at rs) in
    let zeros : List ℕ = replicate 32 0 in
    let f : length from ≡ 32 = part_length rs at whole inside in
    rw (take_all (length from) from (omega arith), drop_of_length-le zeros {i = 0 + length from} (omega arith))
    (append-nil from)

-- so far the flat record begins with what was put there
abbrev BeginsWith : ℕ → List ℕ → List ℕ → Type 0
BeginsWith n there words = (length words ≡ record_words) × (take n words ≡ there)

-- one part more
part_goes_on : (n m : ℕ) (to from there after : List ℕ) → length from ≡ m → n + m ≤ record_words → BeginsWith n there to
    → after ≡ paste to n from (length from) → BeginsWith (n + m) (there ++ from) after
part_goes_on n m to from there after size inside (whole, begins) e =
    let fits : n + length from ≤ length to = omega arith in
    (ap length e ∙ length-paste to n from (length from) fits (omega arith) ∙ whole, rw (e, sym size) (take-paste to n from (length from) (omega arith) (omega arith) ∙ rw (begins, take-length from) refl))

-- a Boolean as the machine's byte, and as the word of the record
merge_word : (on : Bool) → bool_byte on ≡ cond on 1 0
merge_word true = refl
merge_word false = refl

-- the record's five parts, put one after the other; the first is its six words before the bins
module _ (h : Heap) (merge : ℕ) where
  abbrev first : List ℕ
  first = h.bytes ∷ h.bins ∷ h.donor.0 ∷ h.top.0 ∷ merge ∷ h.used ∷ []

  abbrev last : List ℕ
  last = h.patrol.0 ∷ []

  pub packed : (w0 w1 w2 w3 w4 : List ℕ) → merge ≡ bool_byte h.merge → length h.sizes ≡ 32 → length h.heads ≡ 32 → length h.tails ≡ 32
      → w0 ≡ paste (replicate record_words 0) 0 first (length first) → w1 ≡ paste w0 sizes_from h.sizes (length h.sizes)
      → w2 ≡ paste w1 heads_from h.heads (length h.heads) → w3 ≡ paste w2 tails_from h.tails (length h.tails)
      → w4 ≡ paste w3 patrol_place last (length last) → w4 ≡ record_out h
  unfolding record_out
  packed w0 w1 w2 w3 w4 m s d t p0 p1 p2 p3 p4 =
      let b0 = part_goes_on 0 sizes_from (replicate record_words 0) first [] w0 refl (omega arith) (refl, refl) p0 in
      let b1 = part_goes_on sizes_from 32 w0 h.sizes first w1 s (omega arith) b0 p1 in
      let b2 = part_goes_on heads_from 32 w1 h.heads (first ++ h.sizes) w2 d (omega arith) b1 p2 in
      let b3 = part_goes_on tails_from 32 w2 h.tails ((first ++ h.sizes) ++ h.heads) w3 t (omega arith) b2 p3 in
      let (whole, begins) = part_goes_on patrol_place 1 w3 last (((first ++ h.sizes) ++ h.heads) ++ h.tails) w4 refl (omega arith) b3 p4 in
      sym (take_all record_words w4 (omega arith))
      ∙ rw (begins, ← merge_word h.merge, ← m)
      (append_assoc ((first ++ h.sizes) ++ h.heads) h.tails last ∙ append_assoc (first ++ h.sizes) h.heads (h.tails ++ last)
      ∙ append_assoc first h.sizes (h.heads ++ (h.tails ++ last)))
