-- The tests of one chunk behind which the chain goes on: what the look at it finds, from the comparisons that the code makes.
-- Assumes nothing.
use Rattle.std.proofs.Common.{◌≡◌, ℕ, ◌+◌, ◌-◌, ◌%◌, ◌≤◌, Bool, true, false, List, Some, None, arith, eq-eqb, le-leb}
use Rattle.std.specs.Bool.{then_some}
use native.Mathlib.Decide.{ℕ_discrete}
use Rattle.lists.proofs.ListsLaws.{Decides, number_is, at_most, both, not_so}
use Rattle.record.specs.declared.heap.Summary.{Summary}
use Rattle.record.specs.declared.kinds.Kind.TheVariants.{InUse, Ordinary, Donor, Top}
use Rattle.region.specs.Words.{word, size}
use Rattle.rules.specs.Shape.{Entry}
use Rattle.rules.proofs.KindsLaws.{kind_in_use, kind_top, kind_donor, kind_ordinary}
use Rattle.survey.specs.declared.visit.Visit.{Visit}
use Rattle.survey.specs.Chunks.{Followed, entry_of, is_backed_m, is_sized_m, is_donor_m, is_top_m, examine_m}

-- the test of the second word, taken apart
pub backed_iff : (link p c : ℕ) → Decides (is_backed_m link p c) (((c % 8 ≡ 0) × (link % 8 ≤ 1)) × (link - link % 8 ≡ p))
unfolding is_backed_m
backed_iff link p c = both (both (number_is (c % 8) 0) (at_most (link % 8) 1)) (number_is (link - link % 8) p)

-- behind a place on the eights it is one of two numbers
module _ (link p c : ℕ) (eight : c % 8 ≡ 0) (below : p % 8 ≡ 0) where
  pub backed : (f : ℕ) → f ≤ 1 → link ≡ p + f → is_backed_m link p c ≡ true
  backed f l e = (backed_iff link p c).1 ((eight, omega arith), omega arith)

  pub unbacked : (link ≡ p + 1 → ⊥) → (link ≡ p → ⊥) → is_backed_m link p c ≡ false
  unbacked n m = not_so (backed_iff link p c) (λ ((_, flags), back). n (omega arith))

-- the chunk at c behind one at p, its second word `link`, its forward link `next`
module _ (ws : List ℕ) (s : Summary) (v : Visit) (b : Followed ws s v) where
  abbrev e : Entry
  e = entry_of v

  abbrev c : ℕ
  c = v.chunk.0

  abbrev p : ℕ
  p = v.before.0

  -- it is neither start nor end
  some : e.place ≡ 0 → ⊥
  some z = omega (arith, v.behind)

  inner : e.place + 8 ≡ s.bytes → ⊥
  inner q = omega (arith, b.room, b.below)

  room : 24 ≤ v.next - c
  room = omega (arith, b.room)

  pub found_used : v.link ≡ p + 1 → Some InUse ≡ examine_m ws s v
  unfolding examine_m
  found_used h =
      let eight = v.eight_before in
      rw (
        backed v.link p c v.eight eight 1 (omega arith) h,
        ← kind_in_use s.bytes s.donor.0 s.top.0 e some inner (omega arith),
        le-leb 24 (v.next - c) room,
      )

  pub found_unbacked : (v.link ≡ p + 1 → ⊥) → (v.link ≡ p → ⊥) → None ≡ examine_m ws s v
  unfolding examine_m
  found_unbacked n m = rw (unbacked v.link p c v.eight v.eight_before n m)

  module _ (free : v.link ≡ p) where
    even : e.flags % 2 ≡ 1 → ⊥
    even q = omega (arith, v.eight_before)

    is_backed : is_backed_m v.link p c ≡ true
    is_backed = backed v.link p c v.eight v.eight_before 0 (omega arith) (omega arith)

    -- every free chunk has its size
    unsized : (word ws c size ≡ v.next - c → ⊥) → is_sized_m ws c (v.next - c) ≡ false
    unfolding is_sized_m
    unsized n = not_so (both (at_most 24 (v.next - c)) (number_is (word ws c size) (v.next - c))) (λ (_, q). n q)

    pub found_unsized : (word ws c size ≡ v.next - c → ⊥) → None ≡ examine_m ws s v
    unfolding examine_m
    found_unsized n = go (ℕ_discrete c s.top.0) (ℕ_discrete c s.donor.0)
      where
        go : Dec (c ≡ s.top.0) → Dec (c ≡ s.donor.0) → None ≡ examine_m ws s v
        go (yes t) _ = rw (is_backed, ← kind_top s.bytes s.donor.0 s.top.0 e some inner even t, unsized n)
        go (no t) (yes d) = rw (is_backed, ← kind_donor s.bytes s.donor.0 s.top.0 e some inner even t d, unsized n)
        go (no t) (no d) = rw (is_backed, ← kind_ordinary s.bytes s.donor.0 s.top.0 e some inner even t d, unsized n)

    module _ (sized : word ws c size ≡ v.next - c) where
      is_sized : is_sized_m ws c (v.next - c) ≡ true
      unfolding is_sized_m
      is_sized = rw (le-leb 24 (v.next - c) room, eq-eqb (word ws c size) (v.next - c) sized)

      pub found_top : c ≡ s.top.0 → {t : Bool} → t ≡ is_top_m ws s c v.next → then_some t Top ≡ examine_m ws s v
      unfolding examine_m
      found_top h et =
          let next : c + (v.next - c) ≡ v.next = omega (arith, b.room) in
          rw (
            is_backed,
            ← kind_top s.bytes s.donor.0 s.top.0 e some inner even h,
            is_sized,
            next,
            et,
          )

      module _ (other : c ≡ s.top.0 → ⊥) where
        pub found_donor : c ≡ s.donor.0 → {t : Bool} → t ≡ is_donor_m ws s c → then_some t Donor ≡ examine_m ws s v
        unfolding examine_m
        found_donor h et =
            rw (is_backed, ← kind_donor s.bytes s.donor.0 s.top.0 e some inner even other h, is_sized, et)

        pub found_ordinary : (c ≡ s.donor.0 → ⊥) → Some Ordinary ≡ examine_m ws s v
        unfolding examine_m
        found_ordinary n =
            rw (is_backed, ← kind_ordinary s.bytes s.donor.0 s.top.0 e some inner even other n, is_sized)
