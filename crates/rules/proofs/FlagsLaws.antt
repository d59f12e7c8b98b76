-- What the laws rely on of a chunk's flags. They hold for every sort of chunk. As yet no other law cites them. Assumes nothing.
use mathlib.Core.Path.{◌≡◌, refl}
use mathlib.Core.Bool.{Bool, true, false, not, ◌||◌, false≢true}
use Prim.Native.Nat.{ℕ, ◌+◌, ◌%◌, ◌≤◌, ◌<◌}
use native.Mathlib.Omega.{arith}
use borrow.Author.Tests.{eqb-true, eqb-false}
use lib.Dec.{eqb}
use Rattle.record.specs.declared.heap.Heap.{Heap}
use Rattle.rules.specs.Kinds.{unused, used}
use Rattle.rules.proofs.Flags.{permitted_flags, have_size, least_with, lead, trail}

-- the flags that are permitted
pub unused_permitted : permitted_flags unused ≡ true
unfolding permitted_flags
unused_permitted = refl

pub used_permitted : permitted_flags used ≡ true
unfolding permitted_flags
used_permitted = refl

-- they fit three bits; those of a chunk that is not in use are a free chunk's
module _ (f : ℕ) (p : permitted_flags f ≡ true) where
  either : (s t : Bool) → eqb f unused ≡ s → eqb f used ≡ t → (s || t) ≡ true → f ≤ 1
  either true t q r o = let z = eqb-true f unused q in omega arith
  either false true q r o = let z = eqb-true f used r in omega arith
  either false false q r o = absurd (false≢true o)

  one_of_two : f ≤ 1
  unfolding permitted_flags
  one_of_two = either (eqb f unused) (eqb f used) refl refl p

  pub flags_few : f < 8
  flags_few = let l = one_of_two in omega arith

  pub not_used_unused : (f % 2 ≡ 1 → ⊥) → f ≡ 0
  not_used_unused n = go f one_of_two n
    where
      go : (f : ℕ) → f ≤ 1 → (f % 2 ≡ 1 → ⊥) → f ≡ 0
      go f l n = go' (eqb f 1) refl
        where
          go' : (t : Bool) → eqb f 1 ≡ t → f ≡ 0
          go' true q = let z = eqb-true f 1 q in absurd (n (omega arith))
          go' false q = let z = eqb-false f 1 q in omega arith

-- a free chunk has a size word, an end has none
pub unused_sized : have_size unused ≡ true
unfolding have_size
unused_sized = refl

pub used_unsized : have_size used ≡ false
unfolding have_size
used_unsized = refl

module _ (h : Heap) (f : ℕ) where
  -- the least size has room for a free chunk's header, and for a block
  pub least_free : 24 ≤ least_with h f
  unfolding least_with
  least_free = omega arith

  pub least_block : lead h f + trail h f < least_with h f
  unfolding least_with lead trail
  least_block = omega arith

  -- a block starts above the two links, and above the size word if there is one; it starts and ends at multiples of 8
  pub lead_links : 8 ≤ lead h f
  unfolding lead
  lead_links = omega arith

  pub lead_size : have_size f ≡ true → f % 2 ≡ 1 → 12 ≤ lead h f
  unfolding have_size
  lead_size s u = absurd (go (eqb (f % 2) 1) refl s)
    where
      go : (t : Bool) → eqb (f % 2) 1 ≡ t → not t ≡ true → ⊥
      go true q s = false≢true s
      go false q s = eqb-false (f % 2) 1 q u

  pub lead_eights : lead h f % 8 ≡ 0
  unfolding lead
  lead_eights = refl

  pub trail_eights : trail h f % 8 ≡ 0
  unfolding trail
  trail_eights = refl
