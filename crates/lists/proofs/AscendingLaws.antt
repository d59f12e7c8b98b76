-- Which member of a list stands before which, lists in order of a number, and the part of a list from a member on. Assumes nothing.
use mathlib.Core.Path.{◌≡◌, refl, sym, ap, ◌∙◌}
use mathlib.Core.Logic.{◌≢◌, ◌⊎◌, inl, inr}
use mathlib.Core.Bool.{Bool, true, false, cond, ◌&&◌, ◌||◌, false≢true}
use mathlib.Core.List.Memᴰ
use mathlib.Core.List.{List, [], ◌∷◌, ◌++◌}
use Prim.Native.Nat.{ℕ, ◌≤◌}
use native.Mathlib.Omega.{arith}
use lib.Dec.{eqb, leb}
use borrow.Author.Tests.{leb-false}
use Rattle.lists.specs.Lists.{Mem, head_or, any, keep, Before, Ascending, ascending, Distinct, up_to, on_from}
use Rattle.lists.proofs.ListsLaws.{Decides, number_is, at_most, both, or_else, for_each, is_member}

module _ {A : Type 0} where
  -- both are members
  pub before_members : (x y : A) (zs : List A) → Before x y zs → Mem x zs × Mem y zs
  before_members x y [] x'' = elim x'' [ ]
  before_members x y (z ∷ zs) (inl (q, m)) = (Memᴰ.head q, Memᴰ.tail m)
  before_members x y (z ∷ zs) (inr b) = let (m, k) = before_members x y zs b in (Memᴰ.tail m, Memᴰ.tail k)

  -- of two different members one stands before the other
  pub one_before : {x y : A} (zs : List A) → Mem x zs → Mem y zs → x ≢ y → Before x y zs ⊎ Before y x zs
  one_before {x = x} {y = y} [] x4 _ n = elim x4 [ ]
  one_before (z ∷ zs) (Memᴰ.head p) (Memᴰ.head q) n = absurd (n (p ∙ sym q))
  one_before (z ∷ zs) (Memᴰ.head p) (Memᴰ.tail k) n = inl (inl (p, k))
  one_before (z ∷ zs) (Memᴰ.tail m) (Memᴰ.head q) n = inr (inl (q, m))
  one_before {x} {y} (z ∷ zs) (Memᴰ.tail m) (Memᴰ.tail k) n = further (one_before zs m k n)
    where
      further : Before x y zs ⊎ Before y x zs → Before x y (z ∷ zs) ⊎ Before y x (z ∷ zs)
      further (inl b) = inl (inr b)
      further (inr b) = inr (inr b)

  -- where no member occurs twice, none stands before itself, and what stands behind a member stands behind those before it
  pub before_itself : (x : A) (zs : List A) → Distinct zs → Before x x zs → ⊥
  before_itself x [] _ x4 = elim x4 [ ]
  before_itself x (z ∷ zs) (new, rest) (inl (q, m)) = new (rw q at m)
  before_itself x (z ∷ zs) (new, rest) (inr b) = before_itself x zs rest b

  pub before_through : (x y w : A) (zs : List A) → Distinct zs → Before x y zs → Before y w zs → Before x w zs
  before_through x y w [] _ x5 _ = elim x5 [ ]
  before_through x y w (z ∷ zs) (new, rest) (inl (q, m)) (inl (r, k)) = inl (q, k)
  before_through x y w (z ∷ zs) (new, rest) (inl (q, m)) (inr c) = inl (q, (before_members y w zs c).1)
  before_through x y w (z ∷ zs) (new, rest) (inr b) (inl (r, k)) = absurd (new (rw r at (before_members x y zs b).1))
  before_through x y w (z ∷ zs) (new, rest) (inr b) (inr c) = inr (before_through x y w zs rest b c)

  -- a member of the first of two parts stands before one of the second
  pub before_across : {x y : A} (xs ys : List A) → Mem x xs → Mem y ys → Before x y (xs ++ ys)
  before_across {y = y} [] ys x3 k = elim x3 [ ]
  before_across (z ∷ zs) ys (Memᴰ.head q) k = inl (q, Memᴰ.append_right zs k)
  before_across (z ∷ zs) ys (Memᴰ.tail m) k = inr (before_across zs ys m k)

  -- members of one part stand as they do there
  pub before_left : (x y : A) (xs ys : List A) → Before x y xs → Before x y (xs ++ ys)
  before_left x y [] ys x'' = elim x'' [ ]
  before_left x y (z ∷ zs) ys (inl (q, m)) = inl (q, Memᴰ.append_left ys m)
  before_left x y (z ∷ zs) ys (inr b) = inr (before_left x y zs ys b)

  pub before_right : (x y : A) (xs ys : List A) → Before x y ys → Before x y (xs ++ ys)
  before_right x y [] ys b = b
  before_right x y (z ∷ zs) ys b = inr (before_right x y zs ys b)

  -- two members stand in one part, or in one part each
  pub before_parts : (x y : A) (xs ys : List A) → Before x y (xs ++ ys) → Before x y xs ⊎ (Before x y ys ⊎ (Mem x xs × Mem y ys))
  before_parts x y [] ys b = inr (inl b)
  before_parts x y (z ∷ zs) ys (inl (q, m)) = first (Memᴰ.append_cases zs m)
    where
      first : Mem y zs ⊎ Mem y ys → Before x y (z ∷ zs) ⊎ (Before x y ys ⊎ (Mem x (z ∷ zs) × Mem y ys))
      first (inl k) = inl (inl (q, k))
      first (inr k) = inr (inr (Memᴰ.head q, k))
  before_parts x y (z ∷ zs) ys (inr b) = further (before_parts x y zs ys b)
    where
      further : Before x y zs ⊎ (Before x y ys ⊎ (Mem x zs × Mem y ys)) → Before x y (z ∷ zs) ⊎ (Before x y ys ⊎ (Mem x (z ∷ zs) × Mem y ys))
      further (inl c) = inl (inr c)
      further (inr (inl c)) = inr (inl c)
      further (inr (inr (m, k))) = inr (inr (Memᴰ.tail m, k))

  -- members of the list without c stand as they do in the list with it
  pub before_with : (x y : A) (xs : List A) (c : A) (ys : List A) → Before x y (xs ++ ys) → Before x y (xs ++ c ∷ ys)
  before_with x y xs c ys b = go (before_parts x y xs ys b)
    where
      go : Before x y xs ⊎ (Before x y ys ⊎ (Mem x xs × Mem y ys)) → Before x y (xs ++ c ∷ ys)
      go (inl r) = before_left x y xs (c ∷ ys) r
      go (inr (inl r)) = before_right x y xs (c ∷ ys) (inr r)
      go (inr (inr (m, k))) = before_across xs (c ∷ ys) m (Memᴰ.tail k)

  -- x stands before y, and c is one of them or neither
  pub before_without : (x y : A) (xs : List A) (c : A) (ys : List A) → Before x y (xs ++ c ∷ ys)
      → Before x y (xs ++ ys) ⊎ (((x ≡ c) × Mem y ys) ⊎ (Mem x xs × (y ≡ c)))
  before_without x y xs c ys b = go (before_parts x y xs (c ∷ ys) b)
    where
      across : Mem x xs → Mem y (c ∷ ys) → Before x y (xs ++ ys) ⊎ (((x ≡ c) × Mem y ys) ⊎ (Mem x xs × (y ≡ c)))
      across m (Memᴰ.head q) = inr (inr (m, q))
      across m (Memᴰ.tail k) = inl (before_across xs ys m k)

      go : Before x y xs ⊎ (Before x y (c ∷ ys) ⊎ (Mem x xs × Mem y (c ∷ ys)))
          → Before x y (xs ++ ys) ⊎ (((x ≡ c) × Mem y ys) ⊎ (Mem x xs × (y ≡ c)))
      go (inl r) = inl (before_left x y xs ys r)
      go (inr (inl (inl r))) = inr (inl r)
      go (inr (inl (inr r))) = inl (before_right x y xs ys r)
      go (inr (inr (m, k))) = across m k

  module _ (f : A → ℕ) where
    -- what the test decides
    pub ascending_iff : (xs : List A) → Decides (ascending f xs) (Ascending f xs)
    ascending_iff [] = (λ t. tt, λ u. refl)
    ascending_iff (x ∷ xs) = both (for_each (λ y. at_most (f x) (f y)) xs) (ascending_iff xs)

    -- in order exactly if no member has more than one behind it
    pub ascending_before : (x y : A) (zs : List A) → Ascending f zs → Before x y zs → f x ≤ f y
    ascending_before x y [] _ x4 = elim x4 [ ]
    ascending_before x y (z ∷ zs) (first, rest) (inl (q, m)) = rw q (first y m)
    ascending_before x y (z ∷ zs) (first, rest) (inr b) = ascending_before x y zs rest b

    pub before_ascending : (zs : List A) → ((x y : A) → Before x y zs → f x ≤ f y) → Ascending f zs
    before_ascending [] g = tt
    before_ascending (z ∷ zs) g = (λ y m. g z y (inl (refl, m)), before_ascending zs (λ x y b. g x y (inr b)))

    -- one list in order behind another, if no member of the first has more than one of the second
    pub ascending_joined : (xs ys : List A) → Ascending f xs → Ascending f ys → ((x y : A) → Mem x xs → Mem y ys → f x ≤ f y) → Ascending f (xs ++ ys)
    ascending_joined [] ys r s g = s
    ascending_joined (x ∷ xs) ys (first, rest) s g = (
      λ y m. go y (Memᴰ.append_cases xs m),
      ascending_joined xs ys rest s (λ z y m k. g z y (Memᴰ.tail m) k),
    )
      where
        go : (y : A) → Mem y xs ⊎ Mem y ys → f x ≤ f y
        go y (inl m) = first y m
        go y (inr k) = g x y (Memᴰ.head refl) k

    -- the first member has the least
    pub head_least : (d : A) (xs : List A) → Ascending f xs → (y : A) → Mem y xs → f (head_or d xs) ≤ f y
    head_least d [] _ y x3 = elim x3 [ ]
    head_least d (x ∷ xs) (first, rest) y (Memᴰ.head q) = rw q (omega arith)
    head_least d (x ∷ xs) (first, rest) y (Memᴰ.tail k) = first y k

    -- the first member that has n or more has the least of those that do
    pub first_least : (n : ℕ) (d : A) (xs : List A) → Ascending f xs → (y : A) → Mem y xs → n ≤ f y → f (head_or d (keep (λ x. leb n (f x)) xs)) ≤ f y
    first_least n d [] _ y m l = elim m [ ]
    first_least n d (x ∷ xs) (first, rest) y m l = go (leb n (f x)) refl m (λ k. first_least n d xs rest y k l)
      where
        go : (t : Bool) → leb n (f x) ≡ t → Mem y (x ∷ xs) → (Mem y xs → f (head_or d (keep (λ z. leb n (f z)) xs)) ≤ f y)
            → f (head_or d (cond t (x ∷ keep (λ z. leb n (f z)) xs) (keep (λ z. leb n (f z)) xs))) ≤ f y
        go true e (Memᴰ.head q) others = rw q (omega arith)
        go true e (Memᴰ.tail k) others = first y k
        go false e (Memᴰ.head q) others = let s = leb-false n (f x) e in let r = ap f q in absurd (omega arith)
        go false e (Memᴰ.tail k) others = others k

  -- another number that is the same for all members
  pub ascending_same : {f g : A → ℕ} (xs : List A) → ((x : A) → Mem x xs → f x ≡ g x) → Ascending f xs → Ascending g xs
  ascending_same [] e r = tt
  ascending_same {f} {g} (x ∷ xs) e (first, rest) = (
    λ y m.
        let a = e x (Memᴰ.head refl) in
        let b = e y (Memᴰ.tail m) in
        let l = first y m in
        omega arith,
    ascending_same xs (λ y m. e y (Memᴰ.tail m)) rest,
  )

  -- a list is the members before the first for which a test holds, and those from it on
  module _ (q : A → Bool) where
    pub parts_at_first : (l : List A) → l ≡ up_to q l ++ on_from q l
    parts_at_first [] = refl
    parts_at_first (x ∷ xs) = go (q x) (parts_at_first xs)
      where
        go : (t : Bool) → xs ≡ up_to q xs ++ on_from q xs → x ∷ xs ≡ cond t [] (x ∷ up_to q xs) ++ cond t (x ∷ xs) (on_from q xs)
        go true e = refl
        go false e = ap (λ (l : List A). x ∷ l) e

    -- the first of the second part is the first for which the test holds
    pub first_kept : (d : A) (l : List A) → head_or d (keep q l) ≡ head_or d (on_from q l)
    first_kept d [] = refl
    first_kept d (x ∷ xs) = go (q x) (first_kept d xs)
      where
        go : (t : Bool) → head_or d (keep q xs) ≡ head_or d (on_from q xs) → head_or d (cond t (x ∷ keep q xs) (keep q xs)) ≡ head_or d (cond t (x ∷ xs) (on_from q xs))
        go true e = refl
        go false e = e

    pub before_first : (l : List A) {x : A} → Mem x (up_to q l) → q x ≡ false
    before_first [] {x = x} m = elim m [ ]
    before_first (y ∷ ys) {x} m = go (q y) refl m (λ k. before_first ys k)
      where
        go : (t : Bool) → q y ≡ t → Mem x (cond t [] (y ∷ up_to q ys)) → (Mem x (up_to q ys) → q x ≡ false) → q x ≡ false
        go true e k f = absurd (Memᴰ.not-nil k)
        go false e (Memᴰ.head p) f = ap q p ∙ e
        go false e (Memᴰ.tail k) f = f k

    -- the test holds of the first of the second part; the others stand behind that one
    pub from_first : (l : List A) {x : A} → Mem x (on_from q l) → (q x ≡ true) ⊎ ((y : A) × (q y ≡ true) × Before y x (on_from q l))
    from_first [] {x = x} m = elim m [ ]
    from_first (y ∷ ys) {x} m = go (q y) refl m (λ k. from_first ys k)
      where
        go : (t : Bool) → q y ≡ t → Mem x (cond t (y ∷ ys) (on_from q ys))
            → (Mem x (on_from q ys) → (q x ≡ true) ⊎ ((z : A) × (q z ≡ true) × Before z x (on_from q ys)))
            → (q x ≡ true) ⊎ ((z : A) × (q z ≡ true) × Before z x (cond t (y ∷ ys) (on_from q ys)))
        go true e (Memᴰ.head p) f = inl (ap q p ∙ e)
        go true e (Memᴰ.tail k) f = inr (y, e, inl (refl, k))
        go false e k f = f k

-- whether a number stands before another
abbrev pub before : ℕ → ℕ → List ℕ → Bool
before x y [] = false
before x y (z ∷ zs) = (eqb x z && any (eqb y) zs) || before x y zs

pub before_iff : (x y : ℕ) (zs : List ℕ) → Decides (before x y zs) (Before x y zs)
before_iff x y [] = (λ t. absurd (false≢true t), λ b. absurd b)
before_iff x y (z ∷ zs) = or_else (both (number_is x z) (is_member y zs)) (before_iff x y zs)
