-- Lists with a member taken out or put in: ends, members, no member twice; and the members that a test keeps. Assumes nothing.
use mathlib.Core.Path.{◌≡◌, refl, sym, ap, ◌∙◌}
use mathlib.Core.Bool.{Bool, true, false, cond}
use mathlib.Core.Logic.{◌⊎◌, inl, inr}
use mathlib.Core.List.Memᴰ
use mathlib.Core.List.{List, [], ◌∷◌, ◌++◌}
use Prim.Native.Nat.{ℕ, suc, ◌≤◌}
use native.Mathlib.Omega.{arith}
use lib.ListN.{length}
use Rattle.lists.specs.Lists.{Mem, head_or, last_or, keep, Distinct}

pub head_append : {A : Type 0} (d : A) (xs ys : List A) → head_or d (xs ++ ys) ≡ head_or (head_or d ys) xs
head_append d [] ys = refl
head_append d (x ∷ xs) ys = refl

pub last_append : {A : Type 0} (d : A) (xs ys : List A) → last_or d (xs ++ ys) ≡ last_or (last_or d xs) ys
last_append d [] ys = refl
last_append d (x ∷ xs) ys = last_append x xs ys

pub last_member : {A : Type 0} (x : A) (xs : List A) → Mem (last_or x xs) (x ∷ xs)
last_member x [] = Memᴰ.head refl
last_member x (y ∷ ys) = Memᴰ.tail (last_member y ys)

-- a member of the list without c is a member of the list with it
pub member_with : {z : ℕ} (xs : List ℕ) (c : ℕ) (ys : List ℕ) → Mem z (xs ++ ys) → Mem z (xs ++ c ∷ ys)
member_with [] c ys m = Memᴰ.tail m
member_with (x ∷ xs) c ys (Memᴰ.head e) = Memᴰ.head e
member_with (x ∷ xs) c ys (Memᴰ.tail m) = Memᴰ.tail (member_with xs c ys m)

-- a member of the list with c is c or a member of the list without it
pub member_without : {z : ℕ} (xs : List ℕ) (c : ℕ) (ys : List ℕ) → Mem z (xs ++ c ∷ ys) → (z ≡ c) ⊎ Mem z (xs ++ ys)
member_without [] c ys (Memᴰ.head e) = inl e
member_without [] c ys (Memᴰ.tail m) = inr m
member_without (x ∷ xs) c ys (Memᴰ.head e) = inr (Memᴰ.head e)
member_without {z} (x ∷ xs) c ys (Memᴰ.tail m) = further (member_without xs c ys m)
  where
    further : (z ≡ c) ⊎ Mem z (xs ++ ys) → (z ≡ c) ⊎ Mem z (x ∷ xs ++ ys)
    further (inl e) = inl e
    further (inr k) = inr (Memᴰ.tail k)

pub distinct_without : (xs : List ℕ) (c : ℕ) (ys : List ℕ) → Distinct (xs ++ c ∷ ys) → Distinct (xs ++ ys)
distinct_without [] c ys (_, rest) = rest
distinct_without (x ∷ xs) c ys (new, rest) = (λ m. new (member_with xs c ys m), distinct_without xs c ys rest)

pub distinct_with : (xs : List ℕ) (c : ℕ) (ys : List ℕ) → (Mem c (xs ++ ys) → ⊥) → Distinct (xs ++ ys)
    → Distinct (xs ++ c ∷ ys)
distinct_with [] c ys out u = (out, u)
distinct_with (x ∷ xs) c ys out (new, rest) =
    (λ m. neither (member_without xs c ys m), distinct_with xs c ys (λ m. out (Memᴰ.tail m)) rest)
  where
    neither : (x ≡ c) ⊎ Mem x (xs ++ ys) → ⊥
    neither (inl e) = out (Memᴰ.head (sym e))
    neither (inr m) = new m

-- two lists without repetitions and without a common member, as the two parts of such a list are
pub record DistinctParts (xs ys : List ℕ) : Type 0 where
  pub left : Distinct xs
  pub right : Distinct ys
  pub none : (d : ℕ) → Mem d xs → Mem d ys → ⊥

pub distinct_parts : (xs ys : List ℕ) → Distinct (xs ++ ys) → DistinctParts xs ys
distinct_parts [] ys u = record { left = tt; right = u; none = λ d m k. Memᴰ.not-nil m }
distinct_parts (x ∷ xs) ys (new, rest) =
    let r = distinct_parts xs ys rest in
    record {
      left = (λ m. new (Memᴰ.append_left ys m), r.left);
      right = r.right;
      none = λ d m k. common d r.none m k;
    }
  where
    common : (d : ℕ) → ((e : ℕ) → Mem e xs → Mem e ys → ⊥) → Mem d (x ∷ xs) → Mem d ys → ⊥
    common d f (Memᴰ.head e) k = new (Memᴰ.append_right xs (Memᴰ.cast (sym e) k))
    common d f (Memᴰ.tail m) k = f d m k

pub distinct_joined : (xs ys : List ℕ) → DistinctParts xs ys → Distinct (xs ++ ys)
distinct_joined [] ys a = a.right
distinct_joined (x ∷ xs) ys a = (
  λ m. twice (Memᴰ.append_cases xs m),
  distinct_joined xs ys (record { left = a.left.1; right = a.right; none = λ d m k. a.none d (Memᴰ.tail m) k }),
)
  where
    twice : Mem x xs ⊎ Mem x ys → ⊥
    twice (inl k) = a.left.0 k
    twice (inr k) = a.none x (Memᴰ.head refl) k

-- the members that a test keeps
module _ {A : Type 0} (p : A → Bool) where
  pub kept_from : (xs : List A) {x : A} → Mem x (keep p xs) → Mem x xs × (p x ≡ true)
  kept_from [] m = absurd (Memᴰ.not-nil m)
  kept_from (y ∷ ys) {x} m = go (p y) refl m (λ k. kept_from ys k)
    where
      go : (t : Bool) → p y ≡ t → Mem x (cond t (y ∷ keep p ys) (keep p ys)) → (Mem x (keep p ys) → Mem x ys × (p x ≡ true))
          → Mem x (y ∷ ys) × (p x ≡ true)
      go true e (Memᴰ.head q) f = (Memᴰ.head q, ap p q ∙ e)
      go true e (Memᴰ.tail k) f = let (m, holds) = f k in (Memᴰ.tail m, holds)
      go false e k f = let (m, holds) = f k in (Memᴰ.tail m, holds)

  pub kept_has : {x : A} {xs : List A} → Mem x xs → p x ≡ true → Mem x (keep p xs)
  kept_has {x = x} (Memᴰ.head {x = y} {xs = ys} q) h = rw (sym (ap p q) ∙ h) (Memᴰ.head q)
  kept_has {x = x} (Memᴰ.tail {x = y} {xs = ys} m) h = go (p y) (kept_has {x = x} {xs = ys} m h)
    where
      go : (t : Bool) → Mem x (keep p ys) → Mem x (cond t (y ∷ keep p ys) (keep p ys))
      go true k = Memᴰ.tail k
      go false k = k

  pub kept_few : (xs : List A) → length (keep p xs) ≤ length xs
  kept_few [] = omega arith
  kept_few (x ∷ xs) = go (p x) (kept_few xs)
    where
      go : (t : Bool) → length (keep p xs) ≤ length xs → length (cond t (x ∷ keep p xs) (keep p xs)) ≤ suc (length xs)
      go true h = omega arith
      go false h = omega arith

  pub kept_both : (xs ys : List A) → keep p (xs ++ ys) ≡ keep p xs ++ keep p ys
  kept_both [] ys = refl
  kept_both (x ∷ xs) ys = go (p x) (kept_both xs ys)
    where
      go : (t : Bool) → keep p (xs ++ ys) ≡ keep p xs ++ keep p ys
          → cond t (x ∷ keep p (xs ++ ys)) (keep p (xs ++ ys)) ≡ cond t (x ∷ keep p xs) (keep p xs) ++ keep p ys
      go true r = ap (λ (l : List A). x ∷ l) r
      go false r = r

  pub kept_distinct : (xs : List A) → Distinct xs → Distinct (keep p xs)
  kept_distinct [] d = tt
  kept_distinct (x ∷ xs) (new, rest) = go (p x) (kept_distinct xs rest)
    where
      go : (t : Bool) → Distinct (keep p xs) → Distinct (cond t (x ∷ keep p xs) (keep p xs))
      go true r = ((λ m. new (kept_from xs m).0), r)
      go false r = r

-- two tests that agree on all members keep the same ones
pub kept_same : {A : Type 0} (p q : A → Bool) (xs : List A) → ((x : A) → Mem x xs → p x ≡ q x) → keep p xs ≡ keep q xs
kept_same p q [] h = refl
kept_same p q (x ∷ xs) h =
    rw (h x (Memᴰ.head refl), kept_same p q xs (λ y m. h y (Memᴰ.tail m)))
