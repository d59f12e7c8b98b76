-- What tests over lists and numbers decide, so that a conjunction of tests reads as a list of facts; and lists of zeros. Assumes nothing.
use mathlib.Core.Path.{◌≡◌, refl, sym}
use mathlib.Core.Logic.{◌↔◌, ◌⊎◌, inl, inr}
use mathlib.Core.Bool.{Bool, true, false, not, ◌&&◌, ◌||◌, true≢false, false≢true}
use mathlib.Core.List.Memᴰ
use mathlib.Core.List.{List, [], ◌∷◌}
use Prim.Native.Nat.{ℕ, zero, suc, ◌+◌, ◌≤◌, ◌<◌}
use native.Mathlib.Decide.{ℕ_discrete}
use native.Mathlib.Omega.{arith}
use lib.Dec.{eqb, leb, ltb}
use borrow.Author.Tests.{eqb-true, eq-eqb, leb-true, le-leb, ltb-true, lt-ltb}
use lib.ListN.{drop, get_or, replicate}
use lib.Seq.{drop-nil}
use Rattle.lists.specs.Lists.{Mem, every, any, distinct, Distinct, numbers_from}

-- the test holds exactly when the fact does
abbrev pub Decides : Bool → Type 0 → Type 0
Decides t P = (t ≡ true) ↔ P

pub number_is : (a b : ℕ) → Decides (eqb a b) (a ≡ b)
number_is a b = (eqb-true a b, eq-eqb a b)

pub at_most : (a b : ℕ) → Decides (leb a b) (a ≤ b)
at_most a b = (leb-true a b, le-leb a b)

pub less : (a b : ℕ) → Decides (ltb a b) (a < b)
less a b = (ltb-true a b, lt-ltb a b)

module _ {P Q : Type 0} where
  pub meaning : {t : Bool} → Decides t P → (P → Q) → (Q → P) → Decides t Q
  meaning d f g = (λ h. f (d.0 h), λ q. d.1 (g q))

  -- the second test has to decide its fact only if the first fact holds
  pub both_if : {s t : Bool} → Decides s P → (P → Decides t Q) → Decides (s && t) (P × Q)
  both_if {s} {t} = go s t
    where
      go : (s t : Bool) → Decides s P → (P → Decides t Q) → Decides (s && t) (P × Q)
      go true t d e = let p = d.0 refl in (λ h. (p, (e p).0 h), λ h. (e p).1 h.1)
      go false t d e = (λ h. absurd (false≢true h), λ h. d.1 h.0)

  pub both : {s t : Bool} → Decides s P → Decides t Q → Decides (s && t) (P × Q)
  both d e = both_if d (λ _. e)

  pub or_else : {s t : Bool} → Decides s P → Decides t Q → Decides (s || t) (P ⊎ Q)
  or_else {s} {t} = go s t
    where
      go : (s t : Bool) → Decides s P → Decides t Q → Decides (s || t) (P ⊎ Q)
      go true t d e = (λ h. inl (d.0 refl), λ h. refl)
      go false t d e = (λ h. inr (e.0 h), λ h. elim h [ inl p ↦ absurd (false≢true (d.1 p)) | inr q ↦ e.1 q ])

  pub if_then : {s t : Bool} → Decides s P → Decides t Q → Decides (not s || t) (P → Q)
  if_then {s} {t} = go s t
    where
      go : (s t : Bool) → Decides s P → Decides t Q → Decides (not s || t) (P → Q)
      go true t d e = (λ h p. e.0 h, λ f. e.1 (f (d.0 refl)))
      go false t d e = (λ h p. absurd (false≢true (d.1 p)), λ f. refl)

pub denied : {t : Bool} {P : Type 0} → Decides t P → Decides (not t) (P → ⊥)
denied {t} {P} = go t
  where
    go : (t : Bool) → Decides t P → Decides (not t) (P → ⊥)
    go true d = (λ h p. false≢true h, λ f. absurd (f (d.0 refl)))
    go false d = (λ h p. false≢true (d.1 p), λ f. refl)

-- the test of a fact that does not hold fails
pub not_so : {t : Bool} {P : Type 0} → Decides t P → (P → ⊥) → t ≡ false
not_so {t} {P} = go t
  where
    go : (t : Bool) → Decides t P → (P → ⊥) → t ≡ false
    go true d n = absurd (n (d.0 refl))
    go false d n = refl

-- a fact with a test can be decided
pub decided : {t : Bool} {P : Type 0} → Decides t P → Dec P
decided {t} {P} = go t
  where
    go : (t : Bool) → Decides t P → Dec P
    go true d = yes (d.0 refl)
    go false d = no (λ p. false≢true (d.1 p))

-- tests of two equivalent facts are equal
pub same_test : {t u : Bool} {P Q : Type 0} → Decides t P → Decides u Q → (P → Q) → (Q → P) → t ≡ u
same_test {t} {u} {P} {Q} = go t u
  where
    go : (t u : Bool) → Decides t P → Decides u Q → (P → Q) → (Q → P) → t ≡ u
    go true true d e f g = refl
    go true false d e f g = sym (e.1 (f (d.0 refl)))
    go false true d e f g = d.1 (g (e.0 refl))
    go false false d e f g = refl

-- what holds of the first member and of all others holds of every member
pub each_cons : {A : Type 0} {P : A → Type 0} {x : A} {xs : List A} → P x → ((y : A) → Mem y xs → P y)
    → (y : A) → Mem y (x ∷ xs) → P y
each_cons here rest y (Memᴰ.head e) = rw e here
each_cons here rest y (Memᴰ.tail m) = rest y m

module _ {A : Type 0} {P : A → Type 0} {p : A → Bool} where
  -- a test holds of every member
  pub for_each : ((x : A) → Decides (p x) (P x)) → (xs : List A) → Decides (every p xs) ((x : A) → Mem x xs → P x)
  for_each d [] = (λ h x m. absurd (Memᴰ.not-nil m), λ f. refl)
  for_each d (x ∷ xs) =
      meaning (both (d x) (for_each d xs)) (λ h. each_cons h.0 h.1) (λ f. (f x (Memᴰ.head refl), λ y m. f y (Memᴰ.tail m)))

  -- a test holds of some member
  pub for_some : ((x : A) → Decides (p x) (P x)) → (xs : List A) → Decides (any p xs) ((x : A) × Mem x xs × P x)
  for_some d [] = (λ h. absurd (false≢true h), λ f. absurd (Memᴰ.not-nil f.1))
  for_some d (x ∷ xs) = go (p x) (d x) (for_some d xs)
    where
      found : (y : A) → Mem y (x ∷ xs) → P y → P x ⊎ ((z : A) × Mem z xs × P z)
      found y (Memᴰ.head e) q = inl (rw e at q)
      found y (Memᴰ.tail m) q = inr (y, m, q)

      go : (t : Bool) → Decides t (P x) → Decides (any p xs) ((y : A) × Mem y xs × P y)
          → Decides (t || any p xs) ((y : A) × Mem y (x ∷ xs) × P y)
      go true e r = (λ h. (x, Memᴰ.head refl, e.0 refl), λ f. refl)
      go false e r = (
        λ h. let s = r.0 h in (s.0, Memᴰ.tail s.1, s.2),
        λ f. elim (found f.0 f.1 f.2) [ inl q ↦ absurd (false≢true (e.1 q)) | inr s ↦ r.1 s ],
      )

pub is_member : (c : ℕ) (xs : List ℕ) → Decides (any (eqb c) xs) (Mem c xs)
is_member c xs =
    meaning (for_some (λ x. number_is c x) xs) (λ s. rw s.2 s.1) (λ m. (c, m, refl))

pub once : (xs : List ℕ) → Decides (distinct xs) (Distinct xs)
once [] = (λ h. tt, λ u. refl)
once (x ∷ xs) = both (denied (is_member x xs)) (once xs)

pub itself : (t : Bool) → Decides t (t ≡ true)
itself t = (λ h. h, λ h. h)

-- a test holds of each of the n numbers from i on
module _ {P : ℕ → Type 0} {p : ℕ → Bool} (d : (j : ℕ) → Decides (p j) (P j)) where
  for_numbers : (n i : ℕ) → Decides (every p (numbers_from i n)) ((j : ℕ) → i ≤ j → j < i + n → P j)
  for_numbers zero i = (λ h j lo hi. absurd (omega arith), λ f. refl)
  for_numbers (suc n) i =
      meaning (both (d i) (for_numbers n (suc i)))
      (λ h j lo hi. from h.0 h.1 j (ℕ_discrete j i) lo hi)
      (λ f. (f i (omega arith) (omega arith), λ j lo hi. f j (omega arith) (omega arith)))
    where
      from : P i → ((j : ℕ) → suc i ≤ j → j < suc i + n → P j) → (j : ℕ) → Dec (j ≡ i) → i ≤ j → j < i + suc n → P j
      from here rest j (yes e) lo hi = rw e here
      from here rest j (no ne) lo hi = rest j (omega arith) (omega arith)

  pub for_below : (n : ℕ) → Decides (every p (numbers_from 0 n)) ((j : ℕ) → j < n → P j)
  for_below n =
      meaning (for_numbers n 0) (λ f j h. f j (omega arith) (omega arith)) (λ f j lo hi. f j (omega arith))

-- a list of zeros reads 0 at every index, past its end too
pub zero_at : (n i : ℕ) → get_or (replicate {A = ℕ} n 0) i 0 ≡ 0
zero_at zero i = refl
zero_at (suc n) zero = refl
zero_at (suc n) (suc i) = zero_at n i

-- from index n on a list holds only 0
pub zeros_from : (n : ℕ) (l : List ℕ)
    → Decides (every (λ v. eqb v 0) (drop n l)) ((i : ℕ) → n ≤ i → get_or l i 0 ≡ 0)
zeros_from n [] = meaning (for_each (λ v. number_is v 0) (drop n [])) (λ f i h. refl) (λ f v m. none m)
  where
    none : {v : ℕ} → Mem v (drop n []) → v ≡ 0
    none m = absurd (Memᴰ.not-nil (rw drop-nil at m))
zeros_from zero (v ∷ l) =
    meaning (both (number_is v 0) (zeros_from 0 l)) (λ h. at h.0 h.1)
    (λ f. (f 0 (omega arith), λ i h. f (suc i) (omega arith)))
  where
    at : v ≡ 0 → ((i : ℕ) → 0 ≤ i → get_or l i 0 ≡ 0) → (i : ℕ) → 0 ≤ i → get_or (v ∷ l) i 0 ≡ 0
    at here rest zero h = here
    at here rest (suc i) h = rest i (omega arith)
zeros_from (suc n) (v ∷ l) =
    meaning (zeros_from n l) at (λ f i h. f (suc i) (omega arith))
  where
    at : ((i : ℕ) → n ≤ i → get_or l i 0 ≡ 0) → (i : ℕ) → suc n ≤ i → get_or (v ∷ l) i 0 ≡ 0
    at rest zero h = absurd (omega arith)
    at rest (suc i) h = rest i (omega arith)

-- a conjunction tested part by part: the part t fails, so the whole is false; it holds, so the whole is the rest
pub stops_at : {a t : Bool} (b : Bool) → t ≡ a → not t ≡ true → false ≡ (a && b)
stops_at {a} {t} b e h = rw (← e) (go t h)
  where
    go : (t : Bool) → not t ≡ true → false ≡ (t && b)
    go true h = absurd (false≢true h)
    go false h = refl

pub goes_on_lem : {a b t s : Bool} → t ≡ a → not t ≡ false → s ≡ b → s ≡ (a && b)
goes_on_lem {a} {b} {t} {s} e h k = rw (← e) (go t h)
  where
    go : (t : Bool) → not t ≡ false → s ≡ (t && b)
    go true h = k
    go false h = absurd (true≢false h)
