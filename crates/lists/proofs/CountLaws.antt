-- Counting: a list without repetitions is no longer than a list that has all its members (pigeonhole),
-- and if it is as long, it has all the other's members. Also several lists, appended in order. Assumes nothing.
use mathlib.Core.Path.{◌≡◌, refl, ap}
use mathlib.Core.Logic.{◌⊎◌, inl, inr}
use mathlib.Core.List.Memᴰ
use mathlib.Core.List.{List, [], ◌∷◌, ◌++◌}
use Prim.Native.Nat.{ℕ, zero, suc, ◌+◌, ◌≤◌, ◌<◌}
use native.Mathlib.Decide.{ℕ_discrete}
use native.Mathlib.Omega.{arith}
use lib.Dec.{eqb}
use lib.ListN.{length, length-append}
use Rattle.lists.specs.Lists.{Mem, total, up_to, past, numbers_from, gathered, Ascending, Distinct}
use Rattle.lists.proofs.ListsLaws.{decided, is_member}
use Rattle.lists.proofs.MembersLaws.{member_without, distinct_joined}
use Rattle.lists.proofs.SplitLaws.{split_at_member}
use Rattle.lists.proofs.AscendingLaws.{ascending_joined}

pub member? : (c : ℕ) (xs : List ℕ) → Dec (Mem c xs)
member? c xs = decided (is_member c xs)

pub distinct_fits : (xs ys : List ℕ) → Distinct xs → ((x : ℕ) → Mem x xs → Mem x ys) → length xs ≤ length ys
distinct_fits [] ys u h = omega arith
distinct_fits (x ∷ xs) ys (new, rest) h =
    let us : List ℕ = up_to (eqb x) ys in
    let vs : List ℕ = past (eqb x) ys in
    let s : ys ≡ us ++ x ∷ vs = split_at_member (h x (Memᴰ.head refl)) in
    let r = distinct_fits xs (us ++ vs) rest (elsewhere us vs s) in
    let l : length ys ≡ length (us ++ x ∷ vs) = ap length s in
    omega (arith, length-append us vs, length-append us (x ∷ vs))
  where
    elsewhere : (us vs : List ℕ) → ys ≡ us ++ x ∷ vs → (z : ℕ) → Mem z xs → Mem z (us ++ vs)
    elsewhere us vs s z m = go (member_without us x vs (rw s at (h z (Memᴰ.tail m))))
      where
        go : (z ≡ x) ⊎ Mem z (us ++ vs) → Mem z (us ++ vs)
        go (inl e) = absurd (new (rw e at m))
        go (inr k) = k

pub distinct_covers : (xs ys : List ℕ) → Distinct xs → ((x : ℕ) → Mem x xs → Mem x ys) → length ys ≤ length xs
    → (y : ℕ) → Mem y ys → Mem y xs
distinct_covers xs ys u h l y m = go (member? y xs)
  where
    with_y : (Mem y xs → ⊥) → (x : ℕ) → Mem x (y ∷ xs) → Mem x ys
    with_y n x (Memᴰ.head e) = rw e m
    with_y n x (Memᴰ.tail k) = h x k

    go : Dec (Mem y xs) → Mem y xs
    go (yes k) = k
    go (no n) = let r = distinct_fits (y ∷ xs) ys (n, u) (with_y n) in absurd (omega arith)

-- lists appended in order: their length, their members, when no member occurs twice, and when all are in order of f
module _ (lists : ℕ → List ℕ) where
  pub gathered_length : (is : List ℕ) → length (gathered lists is) ≡ total (λ i. length (lists i)) is
  gathered_length [] = refl
  gathered_length (i ∷ is) =
      let r = gathered_length is in
      omega (arith, length-append (lists i) (gathered lists is))

  pub gathered_from : (n b : ℕ) {c : ℕ} → Mem c (gathered lists (numbers_from b n)) → (i : ℕ) × ((b ≤ i) × (i < b + n)) × Mem c (lists i)
  gathered_from zero b m = absurd (Memᴰ.not-nil m)
  gathered_from (suc n) b {c} m = go (λ k. gathered_from n (suc b) k) (Memᴰ.append_cases (lists b) m)
    where
      go : (Mem c (gathered lists (numbers_from (suc b) n)) → (i : ℕ) × ((suc b ≤ i) × (i < suc b + n)) × Mem c (lists i))
          → Mem c (lists b) ⊎ Mem c (gathered lists (numbers_from (suc b) n)) → (i : ℕ) × ((b ≤ i) × (i < b + suc n)) × Mem c (lists i)
      go f (inl k) = (b, (omega arith, omega arith), k)
      go f (inr k) = let (i, (lo, hi), m) = f k in (i, (omega arith, omega arith), m)

  pub gathered_has : (n b i : ℕ) {c : ℕ} → b ≤ i → i < b + n → Mem c (lists i) → Mem c (gathered lists (numbers_from b n))
  gathered_has zero b i lo hi m = absurd (omega arith)
  gathered_has (suc n) b i {c} lo hi m = go (λ l r. gathered_has n (suc b) i l r m) (ℕ_discrete i b)
    where
      go : (suc b ≤ i → i < suc b + n → Mem c (gathered lists (numbers_from (suc b) n))) → Dec (i ≡ b)
          → Mem c (lists b ++ gathered lists (numbers_from (suc b) n))
      go f (yes e) = Memᴰ.append_left _ (rw e at m)
      go f (no k) = Memᴰ.append_right (lists b) (f (omega arith) (omega arith))

  pub gathered_once : (n b : ℕ) → ((i : ℕ) → b ≤ i → i < b + n → Distinct (lists i))
      → ((i j : ℕ) → b ≤ i → i < j → j < b + n → (c : ℕ) → Mem c (lists i) → Mem c (lists j) → ⊥)
      → Distinct (gathered lists (numbers_from b n))
  gathered_once zero b u a = tt
  gathered_once (suc n) b u a =
      distinct_joined (lists b) (gathered lists (numbers_from (suc b) n))
      (record {
        left = u b (omega arith) (omega arith);
        right = gathered_once n (suc b) (λ i lo hi. u i (omega arith) (omega arith)) (λ i j lo l hi. a i j (omega arith) l (omega arith));
        none = λ c m k. let (i, (lo, hi), l) = gathered_from n (suc b) k in a b i (omega arith) (omega arith) (omega arith) c m l;
      })

  pub gathered_ascending : (f : ℕ → ℕ) (n b : ℕ) → ((i : ℕ) → b ≤ i → i < b + n → Ascending f (lists i))
      → ((i j : ℕ) → b ≤ i → i < j → j < b + n → (x y : ℕ) → Mem x (lists i) → Mem y (lists j) → f x ≤ f y)
      → Ascending f (gathered lists (numbers_from b n))
  gathered_ascending f zero b r a = tt
  gathered_ascending f (suc n) b r a =
      ascending_joined f (lists b) (gathered lists (numbers_from (suc b) n))
      (r b (omega arith) (omega arith))
      (gathered_ascending f n (suc b) (λ i lo hi. r i (omega arith) (omega arith)) (λ i j lo l hi. a i j (omega arith) l (omega arith)))
      (λ x y m k. let (i, (lo, hi), l) = gathered_from n (suc b) k in a b i (omega arith) (omega arith) (omega arith) x y m l)
