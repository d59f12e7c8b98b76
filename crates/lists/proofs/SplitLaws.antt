-- A list split: at its ends, at the first member for which a test holds, at a member, and around a middle part. Assumes nothing.
use mathlib.Core.Path.{◌≡◌, refl, sym, ap, ◌∙◌}
use mathlib.Core.Logic.{◌⊎◌, inl, inr}
use mathlib.Core.Bool.{Bool, true, false, cond, ◌||◌, false≢true}
use mathlib.Core.List.Memᴰ
use mathlib.Core.List.{List, [], ◌∷◌, ◌++◌, append_assoc}
use Prim.Native.Nat.{ℕ}
use lib.Dec.{eqb}
use lib.ListN.{drop}
use borrow.Author.Tests.{eqb-true}
use Rattle.lists.specs.Lists.{Mem, head_or, last_or, but_last, any, keep, up_to, past}
use Rattle.lists.proofs.ListsLaws.{is_member}

-- a list that is not empty, split at its first and at its last member
module _ {A : Type 0} (o : A) where
  pub begins_with : (l : List A) → (l ≡ [] → ⊥) → l ≡ head_or o l ∷ drop 1 l
  begins_with [] n = absurd (n refl)
  begins_with (x ∷ xs) n = refl

  pub ends_with : (l : List A) → (l ≡ [] → ⊥) → l ≡ but_last l ++ last_or o l ∷ []
  ends_with [] n = absurd (n refl)
  ends_with (x ∷ xs) n = go x xs
    where
      go : (x : A) (xs : List A) → x ∷ xs ≡ but_last (x ∷ xs) ++ last_or x xs ∷ []
      go x [] = refl
      go x (y ∷ ys) = ap (λ (l : List A). x ∷ l) (go y ys)

-- all but the last of a list with one member appended
pub but_last_lem : {A : Type 0} (xs : List A) (y : A) → but_last (xs ++ y ∷ []) ≡ xs
but_last_lem [] y = refl
but_last_lem (x ∷ []) y = refl
but_last_lem {A} (x ∷ z ∷ xs) y = ap (λ (l : List A). x ∷ l) (but_last_lem (z ∷ xs) y)

-- the first member stays when a list is appended, and the default for the last does not matter
pub first_stays : {A : Type 0} (b : A) (xs ys : List A) → (xs ≡ [] → ⊥) → head_or b (xs ++ ys) ≡ head_or b xs
first_stays b [] ys n = absurd (n refl)
first_stays b (x ∷ xs) ys n = refl

pub last_stays : {A : Type 0} (b c : A) (ys : List A) → (ys ≡ [] → ⊥) → last_or b ys ≡ last_or c ys
last_stays b c [] n = absurd (n refl)
last_stays b c (y ∷ ys) n = refl

pub in_split : {A : Type 0} {l : List A} (low : List A) (e : A) (high : List A) → l ≡ low ++ e ∷ high → Mem e l
in_split low e high s = rw s (Memᴰ.append_right low (Memᴰ.head refl))

-- split at the second of two neighbours, and at the one before a member
module _ {A : Type 0} {l : List A} where
  pub split_second : (before : List A) (x y : A) (after : List A) → l ≡ before ++ x ∷ y ∷ after → l ≡ (before ++ x ∷ []) ++ y ∷ after
  split_second before x y after s = s ∙ sym (append_assoc before (x ∷ []) (y ∷ after))

  pub split_before : (o : A) (low : List A) (e : A) (high : List A) → (low ≡ [] → ⊥) → l ≡ low ++ e ∷ high
      → l ≡ but_last low ++ last_or o low ∷ e ∷ high
  split_before o low e high n s =
      s ∙ ap (λ (xs : List A). xs ++ e ∷ high) (ends_with o low n) ∙ append_assoc (but_last low) (last_or o low ∷ []) (e ∷ high)

-- split at the first member for which a test holds
module _ {A : Type 0} (q : A → Bool) where
  pub first_splits : (o : A) (l : List A) → any q l ≡ true
      → (l ≡ up_to q l ++ head_or o (keep q l) ∷ past q l) × (q (head_or o (keep q l)) ≡ true)
  first_splits o [] a = absurd (false≢true a)
  first_splits o (x ∷ xs) a = go (q x) refl a (first_splits o xs)
    where
      go : (t : Bool) → q x ≡ t → (t || any q xs) ≡ true
          → (any q xs ≡ true → (xs ≡ up_to q xs ++ head_or o (keep q xs) ∷ past q xs) × (q (head_or o (keep q xs)) ≡ true))
          → (x ∷ xs ≡ cond t [] (x ∷ up_to q xs) ++ head_or o (cond t (x ∷ keep q xs) (keep q xs)) ∷ cond t xs (past q xs))
          × (q (head_or o (cond t (x ∷ keep q xs) (keep q xs))) ≡ true)
      go true e a f = (refl, e)
      go false e a f = let (split, holds) = f a in (ap (λ (l : List A). x ∷ l) split, holds)

  -- the members before and after it are members of the list
  pub before_from : (l : List A) {d : A} → Mem d (up_to q l) → Mem d l
  before_from [] m = absurd (Memᴰ.not-nil m)
  before_from (x ∷ xs) {d} m = go (q x) m (λ k. before_from xs k)
    where
      go : (t : Bool) → Mem d (cond t [] (x ∷ up_to q xs)) → (Mem d (up_to q xs) → Mem d xs) → Mem d (x ∷ xs)
      go true k f = absurd (Memᴰ.not-nil k)
      go false (Memᴰ.head e) f = Memᴰ.head e
      go false (Memᴰ.tail k) f = Memᴰ.tail (f k)

  pub after_from : (l : List A) {d : A} → Mem d (past q l) → Mem d l
  after_from [] m = absurd (Memᴰ.not-nil m)
  after_from (x ∷ xs) {d} m = go (q x) m (λ k. after_from xs k)
    where
      go : (t : Bool) → Mem d (cond t xs (past q xs)) → (Mem d (past q xs) → Mem d xs) → Mem d (x ∷ xs)
      go true k f = Memᴰ.tail k
      go false k f = Memᴰ.tail (f k)

  -- the parts of a list before and after the first member for which the test holds
  module _ (xs : List A) (c : A) (ys : List A) (others : (d : A) → Mem d xs → q d ≡ false) (holds : q c ≡ true) where
    pub up_to_first : up_to q (xs ++ c ∷ ys) ≡ xs
    up_to_first = go xs others
      where
        go : (zs : List A) → ((d : A) → Mem d zs → q d ≡ false) → up_to q (zs ++ c ∷ ys) ≡ zs
        go [] f = rw holds
        go (z ∷ zs) f = rw (f z (Memᴰ.head refl)) (ap (λ (l : List A). z ∷ l) (go zs (λ d m. f d (Memᴰ.tail m))))

    pub past_first : past q (xs ++ c ∷ ys) ≡ ys
    past_first = go xs others
      where
        go : (zs : List A) → ((d : A) → Mem d zs → q d ≡ false) → past q (zs ++ c ∷ ys) ≡ ys
        go [] f = rw holds
        go (z ∷ zs) f = rw (f z (Memᴰ.head refl)) (go zs (λ d m. f d (Memᴰ.tail m)))

-- split at a member
pub split_at_member : {c : ℕ} {cs : List ℕ} → Mem c cs → cs ≡ up_to (eqb c) cs ++ c ∷ past (eqb c) cs
split_at_member {c} {cs} m =
    let (split, holds) = first_splits (eqb c) 0 cs ((is_member c cs).1 m) in
    split ∙ ap (λ (x : ℕ). up_to (eqb c) cs ++ x ∷ past (eqb c) cs) (sym (eqb-true c _ holds))

-- members of a list in three parts
module _ {A : Type 0} {x : A} (low mid high : List A) where
  pub among : Mem x (low ++ mid ++ high) → Mem x (low ++ high) ⊎ Mem x mid
  among m = go (Memᴰ.append_cases (low ++ mid) m)
    where
      below : Mem x low ⊎ Mem x mid → Mem x (low ++ high) ⊎ Mem x mid
      below (inl k) = inl (Memᴰ.append_left high k)
      below (inr k) = inr k

      go : Mem x (low ++ mid) ⊎ Mem x high → Mem x (low ++ high) ⊎ Mem x mid
      go (inl k) = below (Memᴰ.append_cases low k)
      go (inr k) = inl (Memᴰ.append_right low k)

  pub outer_in : Mem x (low ++ high) → Mem x (low ++ mid ++ high)
  outer_in m = go (Memᴰ.append_cases low m)
    where
      go : Mem x low ⊎ Mem x high → Mem x (low ++ mid ++ high)
      go (inl k) = Memᴰ.append_left high (Memᴰ.append_left mid k)
      go (inr k) = Memᴰ.append_right (low ++ mid) k

  pub middle_in : Mem x mid → Mem x (low ++ mid ++ high)
  middle_in m = Memᴰ.append_left high (Memᴰ.append_right low m)

-- every member but the one in the middle is in an outer part
pub all_but : {A : Type 0} (low : List A) (e : A) (high : List A) {x : A} → Mem x (low ++ e ∷ [] ++ high) → (x ≡ e → ⊥) → Mem x (low ++ high)
all_but low e high {x} m n = go (among low (e ∷ []) high m)
  where
    go : Mem x (low ++ high) ⊎ Mem x (e ∷ []) → Mem x (low ++ high)
    go (inl k) = k
    go (inr k) = absurd (n (Memᴰ.eq_of_singleton k))
