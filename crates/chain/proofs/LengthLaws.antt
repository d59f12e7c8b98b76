-- The test of the region's length, test by test, and that it decides what the rules ask of it (`length_iff`). Assumes nothing.
use mathlib.Core.Path.{◌≡◌}
use mathlib.Core.Bool.{true, false}
use mathlib.Core.List.{List}
use Prim.Native.Nat.{ℕ, ◌*◌, ◌/◌, ◌≤◌, ◌<◌}
use native.Mathlib.Omega.{arith}
use lib.Dec.{eqb}
use lib.ListN.{length, take}
use lib.Seq.{length-take-le}
use borrow.Author.Tests.{le-leb, lt-leb}
use Rattle.lists.proofs.ListsLaws.{Decides, number_is, at_most, both, meaning}
use Rattle.record.specs.declared.heap.Heap.{Heap}
use Rattle.rules.specs.Check.{Fits}
use Rattle.chain.specs.Length.{fits_length_m, Lent}

-- the region's length
module _ (words bytes : ℕ) where
  pub too_few : words < 10 → false ≡ fits_length_m words bytes
  unfolding fits_length_m
  too_few h = rw (lt-leb 10 words h)

  module _ (enough : 10 ≤ words) where
    pub too_many : 16384 < words → false ≡ fits_length_m words bytes
    unfolding fits_length_m
    too_many h = rw (le-leb 10 words enough, lt-leb words 16384 h)

    pub by_bytes : words ≤ 16384 → eqb (words / 2 * 8) bytes ≡ fits_length_m words bytes
    unfolding fits_length_m
    by_bytes h = rw (le-leb 10 words enough, le-leb words 16384 h)

-- the test decides what the rules ask
pub length_iff : (ws : List ℕ) (h : Heap) → Decides (fits_length_m (length ws) h.bytes) (Fits ws h)
unfolding fits_length_m
length_iff ws h =
    meaning (both (both (at_most 10 (length ws)) (at_most (length ws) 16384)) (number_is (length ws / 2 * 8) h.bytes))
    (λ ((enough, most), bytes). record { enough = enough; not_too_many = most; bytes = omega (arith, bytes) })
    (λ f. ((f.enough, f.not_too_many), omega (arith, f.bytes)))

-- the words of the heap bytes are there
module _ (words bytes : ℕ) (fits : fits_length_m words bytes ≡ true) where
  fitting : (10 ≤ words) × (words ≤ 16384) × (words / 2 * 8 ≡ bytes)
  unfolding fits_length_m
  fitting =
      let ((enough, most), even) = (both (both (at_most 10 words) (at_most words 16384)) (number_is (words / 2 * 8) bytes)).0 fits in
      (enough, most, even)

  pub lent_words : bytes / 4 ≤ words
  lent_words = let (enough, most, even) = fitting in omega arith

-- and they are what the walks may rely on
pub lent_even : (ws : List ℕ) (bytes : ℕ) → fits_length_m (length ws) bytes ≡ true → Lent (take (bytes / 4) ws) bytes
lent_even ws bytes fits =
    let (enough, most, even) = fitting (length ws) bytes fits in
    let long = length-take-le (bytes / 4) ws (lent_words (length ws) bytes fits) in
    record { words = omega arith; eights = omega arith; enough = omega arith; not_too_many = omega arith }
