-- Sums over a list: bounds, when a sum is above 0, and sums over the members that a test keeps. Assumes nothing.
use mathlib.Core.Path.{◌≡◌, refl}
use mathlib.Core.Bool.{Bool, true, false, cond}
use mathlib.Core.List.Memᴰ
use mathlib.Core.List.{List, [], ◌∷◌, ◌++◌}
use Prim.Native.Nat.{ℕ, ◌+◌, ◌≤◌, ◌<◌}
use native.Mathlib.Decide.{dec_lt}
use native.Mathlib.Omega.{arith}
use lib.ListN.{length}
use Rattle.lists.specs.Lists.{Mem, keep, total}

-- bounds of the summands bound the sum
pub total_le : {A : Type 0} (f g : A → ℕ) → ((x : A) → f x ≤ g x) → (xs : List A) → total f xs ≤ total g xs
total_le f g h [] = omega arith
total_le f g h (x ∷ xs) = let a = h x in let r = total_le f g h xs in omega arith

pub total_ones : {A : Type 0} (xs : List A) → total (λ x. 1) xs ≡ length xs
total_ones [] = refl
total_ones (x ∷ xs) = let r = total_ones xs in omega arith

pub total_one : {A : Type 0} (f : A → ℕ) → ((x : A) → f x ≤ 1) → (xs : List A) → total f xs ≤ length xs
total_one f h xs = let a = total_le f (λ x. 1) h xs in let b = total_ones xs in omega arith

-- the sum over two parts of a list
pub total_both : {A : Type 0} (f : A → ℕ) (xs ys : List A) → total f (xs ++ ys) ≡ total f xs + total f ys
total_both f [] ys = omega arith
total_both f (x ∷ xs) ys = let r = total_both f xs ys in omega arith

-- a sum is above 0 exactly if one of its summands is
pub some_of_total : {A : Type 0} (f : A → ℕ) (xs : List A) → 0 < total f xs → (x : A) × Mem x xs × (0 < f x)
some_of_total f [] h = absurd (omega arith)
some_of_total f (x ∷ xs) h =
    elim (dec_lt 0 (f x)) [
      | yes l ↦ (x, Memᴰ.head refl, l)
      | no n ↦ let r = some_of_total f xs (omega arith) in (r.0, Memᴰ.tail r.1, r.2)
    ]

pub total_of_some : {A : Type 0} (f : A → ℕ) {x : A} {xs : List A} → Mem x xs → 0 < f x → 0 < total f xs
total_of_some f (Memᴰ.head e) h = let g : 0 < f _ = rw e at h in omega arith
total_of_some f (Memᴰ.tail m) h = let r = total_of_some f m h in omega arith

-- a sum whose other summands are 0 is the sum over the members that a test keeps
pub total_kept : {A : Type 0} (f g : A → ℕ) (p : A → Bool) → ((x : A) → f x ≡ cond (p x) (g x) 0)
    → (xs : List A) → total f xs ≡ total g (keep p xs)
total_kept f g p s [] = refl
total_kept f g p s (x ∷ xs) = go (p x) (s x) (total_kept f g p s xs)
  where
    go : (t : Bool) → f x ≡ cond t (g x) 0 → total f xs ≡ total g (keep p xs)
        → f x + total f xs ≡ total g (cond t (x ∷ keep p xs) (keep p xs))
    go true e r = omega arith
    go false e r = omega arith
