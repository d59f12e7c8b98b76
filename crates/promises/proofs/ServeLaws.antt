-- What it means that a chunk can serve, by its kind (`serves_iff`), and when each of the rule's four tries fails. So no source is chosen
-- exactly when no chunk of the chain can serve (`room_iff`). Assumes nothing.
use mathlib.Core.Path.{◌≡◌, refl, sym, ap, subst, ◌∙◌}
use mathlib.Core.Bool.{Bool, true, false, not, cond, ◌&&◌, true≢false, false≢true}
use mathlib.Core.List.Memᴰ
use mathlib.Core.List.{List, [], ◌∷◌}
use Prim.Native.Nat.{ℕ, suc, ◌+◌, ◌-◌, ◌%◌, ◌≤◌, ◌<◌}
use native.Mathlib.Omega.{arith}
use lib.Dec.{eqb, leb}
use borrow.Author.Tests.{eq-eqb, ne_eqb, le-leb}
use Rattle.books.proofs.HeapBooks.{list_nodes, ordinary_listed}
use Rattle.drafts.specs.Sources.{kind_in}
use Rattle.drafts.proofs.SourceLaws.{CanGrant, Fails, in_order_fails, source_can}
use Rattle.lists.specs.Lists.{Mem, head_or, keep, numbers_from, gathered}
use Rattle.lists.proofs.ListsLaws.{Decides, number_is, at_most, both, denied, itself, not_so}
use Rattle.lists.proofs.MembersLaws.{kept_from, kept_has}
use Rattle.lists.proofs.CountLaws.{gathered_from, gathered_has}
use Rattle.record.specs.declared.heap.Heap.{Heap}
use Rattle.record.specs.declared.kinds.Kind.{Kind}
use Rattle.record.specs.declared.kinds.Kind.TheVariants.{Start, InUse, Ordinary, Donor, Top, End}
use Rattle.record.specs.declared.sources.Source.{Source}
use Rattle.record.specs.declared.sources.Source.TheVariants.{FromBin, FromDonor, FromTop}
use Rattle.std.specs.Prelude.{Option, Some, None, is_none}
use Rattle.record.specs.Heap.{table_of}
use Rattle.record.specs.Table.{small, bin_of}
use Rattle.record.proofs.TableLaws.{bin_takes, bin_from, bin_grows}
use Rattle.rules.specs.Shape.{Entry, shape, bin_list}
use Rattle.rules.specs.Kinds.{ordinary_kind, kind_of, in_use, size_on}
use Rattle.rules.specs.Check.{Passes}
use Rattle.rules.specs.Draft.{as_read}
use Rattle.rules.specs.Serve.{serves, from_bin, own_bin, try_donor, larger_bin, try_top, chosen}
use Rattle.rules.specs.Allocate.{source_of}
use Rattle.rules.proofs.KindsLaws.{being_as}
use Rattle.rules.proofs.SpotLaws.{inside, size_on_lem}
use Rattle.rules.proofs.NamedLaws.{Free, flags_free, is_ordinary_lem, is_donor}
use Rattle.promises.specs.Room.{NoneServes}

-- a try that takes the first of a list fails only if the list is empty
list_fails : (cs : List ℕ) → ((c : ℕ) → Mem c cs → 0 < c) → Fails (from_bin (head_or 0 cs)) → {c : ℕ} → Mem c cs → ⊥
list_fails [] some f m = Memᴰ.not-nil m
list_fails (d ∷ cs) some f m =
    let l = some d (Memᴰ.head refl) in
    false≢true (rw (ne_eqb d 0 (omega arith)) at f)

-- a try under a test fails only if the test does
test_fails : (s : Option Source) (t : Bool) → is_none s ≡ false → Fails (cond t s None) → t ≡ true → ⊥
test_fails s true q f e = false≢true (sym q ∙ f)
test_fails s false q f e = false≢true e

-- what a chunk of each kind must have to serve n. Start, end and chunks in use never serve
abbrev pub Enough : ℕ → ℕ → Kind → Type 0
Enough n size Ordinary = n ≤ size
Enough n size Donor = n + 24 ≤ size
Enough n size Top = n + 24 ≤ size
Enough n size Start = ⊥
Enough n size InUse = ⊥
Enough n size End = ⊥

module _ (ws : List ℕ) (h : Heap) (p : Passes ws h) (n : ℕ) where
  abbrev es : List Entry
  es = shape ws h.bytes

  abbrev pub can : Entry → Bool
  can = serves (table_of h) h.donor.0 h.top.0 n

  module _ (e : Entry) (m : Mem e es) where
    can_free : can e ≡ true → Free ws h e
    unfolding serves in_use
    can_free t =
        let f = ((both (denied (number_is (e.flags % 2) 1)) (itself _)).0 t).0 in
        let i = (inside ws h p e m).flags in
        flags_free ws h p e m (omega arith)

    not_used : e.flags % 2 ≡ 0 → not (in_use e) ≡ true
    unfolding in_use
    not_used f = (denied (number_is (e.flags % 2) 1)).1 (λ q. omega arith)

    -- a chunk in use, the start and the end are not free
    never : (Free ws h e → ⊥) → Decides (can e) ⊥
    never f = (λ t. f (can_free t), λ z. absurd z)

    pub serves_iff : Decides (can e) (Enough n e.size (kind_of h e))
    unfolding serves
    serves_iff = go (kind_of h e) refl
      where
        go : (k : Kind) → kind_of h e ≡ k → Decides (can e) (Enough n e.size k)
        go Start q = let b = being_as h e Start q in never (λ f. let l = f.between in omega arith)
        go End q = let b = being_as h e End q in never (λ f. let l = f.between in let s = (inside ws h p e m).some in omega arith)
        go InUse q = let b = being_as h e InUse q in never (λ f. let l = f.flags in omega arith)
        go Ordinary q =
            let o = is_ordinary_lem ws h p e m (ap ordinary_kind q) in
            let f = o.free.flags in
            rw (not_used (omega arith), ne_eqb e.place h.top.0 o.not_top, ne_eqb e.place h.donor.0 o.not_donor)
            (at_most n e.size)
        go Donor q =
            let (some, end, free, place) = being_as h e Donor q in
            let d = is_donor ws h p e m (omega arith) place in
            rw (not_used free, ne_eqb e.place h.top.0 (λ t. omega arith), eq-eqb e.place h.donor.0 place)
            (at_most (n + 24) e.size)
        go Top q =
            let (some, end, free, place) = being_as h e Top q in
            rw (not_used free, eq-eqb e.place h.top.0 place) (at_most (n + 24) e.size)

  -- the chunk of a source that can grant can serve
  pub source_serves : (s : Option Source) (e : Entry) → is_none s ≡ false → CanGrant ws h n s e → can e ≡ true
  source_serves s e some k = (serves_iff e k.member).1 (subst (Enough n e.size) (sym k.kind) (go s some k))
    where
      go : (s : Option Source) → is_none s ≡ false → CanGrant ws h n s e → Enough n e.size (kind_in s)
      go (Some (FromBin c)) q k = k.enough
      go (Some FromDonor) q k = k.spare refl
      go (Some FromTop) q k = k.spare refl
      go None q k = absurd (true≢false q)

  -- the four tries of the rule
  abbrev pub own : Option Source
  own = own_bin es (bin_list ws h) n (bin_of (table_of h) n)

  abbrev pub larger : Option Source
  larger = larger_bin h (bin_list ws h) (bin_of (table_of h) n)

  abbrev pub donor : Option Source
  donor = try_donor h es n

  abbrev pub top : Option Source
  top = try_top h es n

  -- where a try fails, none of its chunks can serve
  module _ (e : Entry) (m : Mem e es) (t : can e ≡ true) where
    enough : (k : Kind) → kind_of h e ≡ k → Enough n e.size k
    enough k q = subst (Enough n e.size) q ((serves_iff e m).0 t)

    pub own_fails : Fails own → kind_of h e ≡ Ordinary → bin_of (table_of h) e.size ≡ bin_of (table_of h) n → ⊥
    own_fails f q b =
        let (j, inside, takes, listed) = ordinary_listed ws h p e m (ap ordinary_kind q) in
        let l = enough Ordinary q in
        let s = size_on_lem ws h p e.place e m refl in
        list_fails (keep (λ c. leb n (size_on es c)) (bin_list ws h j))
        (λ c k. (list_nodes ws h p j inside c (kept_from (λ c. leb n (size_on es c)) (bin_list ws h j) k).0).some)
        (subst (λ (r : Option ℕ). Fails (own_bin es (bin_list ws h) n r)) (sym b ∙ takes) f)
        (kept_has (λ c. leb n (size_on es c)) listed (le-leb n (size_on es e.place) (omega arith)))

    pub larger_fails : 24 ≤ n → Fails larger → kind_of h e ≡ Ordinary → (bin_of (table_of h) e.size ≡ bin_of (table_of h) n → ⊥) → ⊥
    larger_fails large f q other =
        let (j, inside, takes, listed) = ordinary_listed ws h p e m (ap ordinary_kind q) in
        let (i, is, taken) = bin_from (table_of h) p.table.valid n large in
        let grows = bin_grows (table_of h) taken (bin_takes (table_of h) takes) (enough Ordinary q) in
        let differ : i ≡ j → ⊥ = λ s. other (takes ∙ ap Some (sym s) ∙ sym is) in
        list_fails (gathered (bin_list ws h) (numbers_from (suc i) (h.bins - suc i)))
        (λ c k. let (x, (above, below), member) = gathered_from (bin_list ws h) (h.bins - suc i) (suc i) k in (list_nodes ws h p x (omega arith) c member).some)
        (subst (λ (r : Option ℕ). Fails (larger_bin h (bin_list ws h) r)) is f)
        (gathered_has (bin_list ws h) (h.bins - suc i) (suc i) j (omega arith) (omega arith) listed)

    pub donor_fails : Fails donor → kind_of h e ≡ Donor → ⊥
    donor_fails f q =
        let (some, end, free, place) = being_as h e Donor q in
        let l = enough Donor q in
        let s = size_on_lem ws h p h.donor.0 e m place in
        test_fails (Some FromDonor) (not (eqb h.donor.0 0) && leb (n + 24) (size_on es h.donor.0)) refl f
        ((both (denied (number_is h.donor.0 0)) (at_most (n + 24) (size_on es h.donor.0))).1 (λ z. omega arith, omega arith))

    pub top_fails : Fails top → kind_of h e ≡ Top → ⊥
    top_fails f q =
        let (some, end, free, place) = being_as h e Top q in
        let l = enough Top q in
        let s = size_on_lem ws h p h.top.0 e m place in
        test_fails (Some FromTop) (leb (n + 24) (size_on es h.top.0)) refl f ((at_most (n + 24) (size_on es h.top.0)).1 (omega arith))

  -- where all four fail no chunk can serve
  all_fail : 24 ≤ n → Fails own × Fails larger × Fails donor × Fails top → (e : Entry) → Mem e es → can e ≡ true → ⊥
  all_fail large (o, l, d, t) e m c = go (kind_of h e) refl ((serves_iff e m).0 c)
    where
      go : (k : Kind) → kind_of h e ≡ k → Enough n e.size k → ⊥
      go Ordinary q k = larger_fails e m c large l q (own_fails e m c o q)
      go Donor q k = donor_fails e m c d q
      go Top q k = top_fails e m c t q
      go Start q k = k
      go InUse q k = k
      go End q k = k

  pub room_iff : 24 ≤ n → Decides (is_none (source_of n (as_read ws h))) (NoneServes ws h n)
  unfolding as_read chosen
  room_iff large = (
    λ f e m. not_so (itself (can e)) (all_fail large (in_order_fails (small (table_of h) n) own larger donor top f) e m),
    λ none. go none (is_none (source_of n (as_read ws h))) refl,
  )
    where
      go : NoneServes ws h n → (t : Bool) → is_none (source_of n (as_read ws h)) ≡ t → t ≡ true
      go none true q = refl
      go none false q =
          let (e, k) = source_can ws h p n q in
          absurd (false≢true (sym (none e k.member) ∙ source_serves (source_of n (as_read ws h)) e q k))
