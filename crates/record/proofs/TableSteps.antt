-- What the code's tests of a table and of a size come to. Assumes nothing.
use Prim.Native.Nat.{ℕ, suc, ◌+◌, ◌*◌, ◌≤◌, ◌<◌, ◌-◌, ◌/◌, ◌%◌}
use native.Mathlib.Omega.{arith}
use mathlib.Core.Path.{◌≡◌, refl, sym, ◌∙◌}
use mathlib.Core.Bool.{Bool, true, false, ◌&&◌}
use mathlib.Core.List.{List}
use borrow.Author.Tests.{eq-eqb, ne_eqb, lt-ltb, le-ltb, le-leb, lt-leb, ltb-true}
use lib.Dec.{eqb, ltb}
use lib.ListN.{length, get_or, drop, drop_of_length-le}
use lib.Seq.{drop-cons}
use Rattle.lists.proofs.ListsLaws.{less, same_test}
use Rattle.record.specs.Table.{size_at, ValidTable, Takes, small_bins, small, goes_up, valid_table}
use Rattle.record.proofs.TableLaws.{small_bins_is, in_small_iff, division_takes}

-- the sizes from number i on go up: one more is tested, and none is left
module _ (t : List ℕ) (i before : ℕ) where
  pub up_goes : i < length t → (right : Bool)
      → (((right && eqb (get_or t i 0 % 8) 0) && ltb before (get_or t i 0)) && goes_up (get_or t i 0) (drop (suc i) t)) ≡ (right && goes_up before (drop i t))
  up_goes h true = rw (drop-cons t i 0 h)
  up_goes h false = refl

  pub up_ends : length t ≤ i → goes_up before (drop i t) ≡ true
  up_ends h = rw (drop_of_length-le t h)

-- which part of the test refuses a table, and what is left where the first three pass
module _ (t : List ℕ) where
  pub valid_none : length t ≡ 0 → valid_table t ≡ false
  unfolding valid_table
  valid_none e = rw (lt-leb 1 (length t) (omega arith))

  module _ (some : 1 ≤ length t) where
    pub valid_long : 32 < length t → valid_table t ≡ false
    unfolding valid_table
    valid_long h = rw (le-leb 1 (length t) some, lt-leb (length t) 32 h)

    module _ (few : length t ≤ 32) where
      pub valid_first : (get_or t 0 0 ≡ 24 → ⊥) → valid_table t ≡ false
      unfolding valid_table
      valid_first ne = rw (le-leb 1 (length t) some, le-leb (length t) 32 few, ne_eqb (get_or t 0 0) 24 ne)

      pub valid_rest : get_or t 0 0 ≡ 24 → valid_table t ≡ goes_up 24 (drop 1 t)
      unfolding valid_table
      valid_rest e = rw (le-leb 1 (length t) some, le-leb (length t) 32 few, eq-eqb (get_or t 0 0) 24 e)

-- whether bin i is one of the small array's, by the size of the next bin
module _ (t : List ℕ) (v : ValidTable t) (i : ℕ) where
  pub last_not_small : length t - 1 ≤ i → false ≡ ltb i (small_bins t)
  last_not_small h = let m = small_bins_is t v in sym (le-ltb i (small_bins t) (omega (arith, m.below)))

  pub small_by_next : suc i < length t → {next size : ℕ} → next ≡ suc i → size ≡ 24 + 8 * suc i
      → eqb (size_at t next) size ≡ ltb i (small_bins t)
  small_by_next h is size_is =
      let there = rw (lt-ltb (suc i) (length t) h) at (in_small_iff t v i) in
      rw (is, size_is) (same_test there (less i (small_bins t)) (λ l. l) (λ l. l))

-- a small size from 24 on has the bin that the division gives
pub by_division : (t : List ℕ) → ValidTable t → (s : ℕ) → 24 ≤ s → {answer : Bool} → answer ≡ small t s → answer ≡ true → {i : ℕ}
    → i ≡ s / 8 - 3 → Takes t s i
by_division t v s h is so e = rw e (division_takes t v s h (ltb-true s _ (sym is ∙ so)))

-- a size is below 24 + 8m just where its eights, less three, are below m
pub small_eights : (s m : ℕ) → 3 ≤ s / 8 → {i : ℕ} → i ≡ s / 8 - 3 → ltb i m ≡ ltb s (24 + 8 * m)
small_eights s m h {i} e = same_test (less i m) (less s (24 + 8 * m)) (λ l. omega arith) (λ l. omega arith)

pub small_low : (s m : ℕ) → s / 8 < 3 → ltb s (24 + 8 * m) ≡ true
small_low s m h = lt-ltb s (24 + 8 * m) (omega arith)
