-- The list functions that the rules are written in. Nothing here speaks of a heap.
use Rattle.std.specs.Prelude.{◌≡◌, ◌⊎◌, Bool, true, false, not, ◌&&◌, ◌||◌, cond, ℕ, zero, suc, ◌+◌, ◌≤◌, eqb, leb}
use mathlib.Core.List.{List, [], ◌∷◌, ◌++◌, Memᴰ}

module _ {A : Type 0} where
  abbrev pub Mem : A → List A → Type 0
  Mem x xs = Memᴰ x xs

  -- the first and the last member; d for an empty list
  abbrev pub head_or : A → List A → A
  head_or d [] = d
  head_or d (x ∷ xs) = x

  abbrev pub last_or : A → List A → A
  last_or d [] = d
  last_or d (x ∷ xs) = last_or x xs

  -- all but the last
  abbrev pub but_last : List A → List A
  but_last [] = []
  but_last (x ∷ []) = []
  but_last (x ∷ y ∷ ys) = x ∷ but_last (y ∷ ys)

  abbrev pub every : (A → Bool) → List A → Bool
  every p [] = true
  every p (x ∷ xs) = p x && every p xs

  abbrev pub any : (A → Bool) → List A → Bool
  any p [] = false
  any p (x ∷ xs) = p x || any p xs

  -- the members for which the test holds, in order
  abbrev pub keep : (A → Bool) → List A → List A
  keep p [] = []
  keep p (x ∷ xs) = cond (p x) (x ∷ keep p xs) (keep p xs)

  -- the sum of f over a list
  abbrev pub total : (A → ℕ) → List A → ℕ
  total f [] = 0
  total f (x ∷ xs) = f x + total f xs

  -- the members before, and those after, the first for which the test holds
  abbrev pub up_to : (A → Bool) → List A → List A
  up_to p [] = []
  up_to p (x ∷ xs) = cond (p x) [] (x ∷ up_to p xs)

  abbrev pub past : (A → Bool) → List A → List A
  past p [] = []
  past p (x ∷ xs) = cond (p x) xs (past p xs)

  -- the first for which the test holds, and those after it
  abbrev pub on_from : (A → Bool) → List A → List A
  on_from p [] = []
  on_from p (x ∷ xs) = cond (p x) (x ∷ xs) (on_from p xs)

  -- x stands before y
  abbrev pub Before : A → A → List A → Type 0
  Before x y [] = ⊥
  Before x y (z ∷ zs) = ((x ≡ z) × Mem y zs) ⊎ Before x y zs

  -- in non-descending order of f: no member has more than one behind it
  abbrev pub Ascending : (A → ℕ) → List A → Type 0
  Ascending f [] = Unit {0}
  Ascending f (x ∷ xs) = ((y : A) → Mem y xs → f x ≤ f y) × Ascending f xs

  abbrev pub ascending : (A → ℕ) → List A → Bool
  ascending f [] = true
  ascending f (x ∷ xs) = every (λ y. leb (f x) (f y)) xs && ascending f xs

  -- no member occurs twice
  abbrev pub Distinct : List A → Type 0
  Distinct [] = Unit {0}
  Distinct (x ∷ xs) = (Mem x xs → ⊥) × Distinct xs

abbrev pub distinct : List ℕ → Bool
distinct [] = true
distinct (x ∷ xs) = not (any (eqb x) xs) && distinct xs

-- the n numbers from i on
abbrev pub numbers_from : ℕ → ℕ → List ℕ
numbers_from i zero = []
numbers_from i (suc n) = i ∷ numbers_from (suc i) n

-- the lists numbered by `is`, appended in order
abbrev pub gathered : (ℕ → List ℕ) → List ℕ → List ℕ
gathered lists [] = []
gathered lists (i ∷ is) = lists i ++ gathered lists is
