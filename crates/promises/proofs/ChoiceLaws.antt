-- The rules keep the promise `Choice` (`choice`): a block is granted from a chunk of the lowest rank that can serve; for any way, what that says
-- of the donor follows (`donor_last_lem`, `donor_before_larger_lem`). Assumes nothing.
use mathlib.Core.Path.{◌≡◌, refl, sym, ap, subst, ◌∙◌}
use mathlib.Core.Logic.{◌⊎◌, inl, inr}
use mathlib.Core.Bool.{Bool, true, false, not, cond, ◌&&◌, false≢true}
use mathlib.Core.List.{List}
use Prim.Native.Nat.{ℕ, suc, ◌+◌, ◌-◌, ◌≤◌}
use native.Mathlib.Omega.{arith}
use lib.Dec.{eqb, leb}
use lib.ListN.{length-take}
use borrow.Author.Tests.{eq-eqb}
use Rattle.books.proofs.HeapBooks.{member_entry}
use Rattle.drafts.proofs.GrantKept.{source_chunk, can}
use Rattle.drafts.proofs.SourceLaws.{CanGrant, Fails, Good, Grantable, in_order_good, from_bin_good, if_good}
use Rattle.lists.specs.Lists.{Mem, keep, numbers_from, gathered}
use Rattle.lists.proofs.ListsLaws.{number_is, itself, not_so}
use Rattle.lists.proofs.MembersLaws.{kept_from}
use Rattle.record.specs.declared.heap.Heap.{Heap}
use Rattle.record.specs.declared.kinds.Kind.{Kind}
use Rattle.record.specs.declared.kinds.Kind.TheVariants.{Start, InUse, Ordinary, Donor, Top, End}
use Rattle.record.specs.declared.sources.Source.{Source}
use Rattle.record.specs.declared.sources.Source.TheVariants.{FromDonor, FromTop}
use Rattle.std.specs.Prelude.{Option, Some, None}
use Rattle.record.specs.Heap.{table_of}
use Rattle.record.specs.Table.{small, bin_of}
use Rattle.record.proofs.TableLaws.{bin_from}
use Rattle.rules.specs.Shape.{Entry, shape, bin_list}
use Rattle.rules.specs.Kinds.{kind_of, size_on}
use Rattle.rules.specs.Check.{Passes}
use Rattle.rules.specs.Draft.{as_read}
use Rattle.rules.specs.Serve.{own_bin, larger_bin, chosen}
use Rattle.rules.specs.Allocate.{source_of}
use Rattle.rules.proofs.SpotLaws.{one_chunk}
use Rattle.promises.specs.Ways.{ours}
use Rattle.promises.specs.Choice.{same_bin, in_own_bin, rank_as, rank, LowestRank, DonorLast, DonorBeforeLarger, InTurn, Choice}
use Rattle.promises.proofs.ServeLaws as serve
use Rattle.promises.proofs.NewBlocksLaws.{granted_block, source_alone, each_new_block}

-- one bin for both sizes
same_bin_lem : (a b : Option ℕ) → same_bin a b ≡ true → a ≡ b
same_bin_lem (Some i) (Some j) q = ap Some ((number_is i j).0 q)
same_bin_lem (Some i) None q = absurd (false≢true q)
same_bin_lem None b q = absurd (false≢true q)

-- of two alternatives the second, if the first does not hold
unless : {P : Type 0} {r k : ℕ} → P ⊎ (r ≤ k) → (P → ⊥) → r ≤ k
unless (inl f) never = absurd (never f)
unless (inr l) never = l

module _ (ws : List ℕ) (h : Heap) (p : Passes ws h) (n : ℕ) (large : 24 ≤ n) where
  abbrev es : List Entry
  es = shape ws h.bytes

  abbrev little : Bool
  little = small (table_of h) n

  -- the four tries
  abbrev own : Option Source
  own = serve.own ws h p n

  abbrev larger : Option Source
  larger = serve.larger ws h p n

  abbrev donor : Option Source
  donor = serve.donor ws h p n

  abbrev top : Option Source
  top = serve.top ws h p n

  -- a chunk of the same bin as n is found to be so
  pub own_bin_lem : (e : Entry) → bin_of (table_of h) e.size ≡ bin_of (table_of h) n → in_own_bin h n e ≡ true
  own_bin_lem e q = let (i, is, takes) = bin_from (table_of h) p.table.valid n large in rw (q, is) (eq-eqb i i refl)

  -- every chunk that can serve has at least rank r
  abbrev AtLeast : ℕ → Type 0
  AtLeast r = (e : Entry) → Mem e es → serve.can ws h p n e ≡ true → r ≤ rank h n e

  -- so it is if every try of a lower rank fails
  at_least : (r : ℕ) → Fails own ⊎ (r ≤ 0) → Fails larger ⊎ (r ≤ 2) → Fails donor ⊎ (r ≤ cond little 1 4) → Fails top ⊎ (r ≤ 3) → AtLeast r
  at_least r o l d t e m c = go (kind_of h e) refl ((serve.serves_iff ws h p n e m).0 c)
    where
      ordinary : kind_of h e ≡ Ordinary → (b : Bool) → in_own_bin h n e ≡ b → r ≤ cond b 0 2
      ordinary q true s = unless o (λ f. serve.own_fails ws h p n e m c f q (same_bin_lem _ _ s))
      ordinary q false s = unless l (λ f. serve.larger_fails ws h p n e m c large f q (λ b. false≢true (sym s ∙ own_bin_lem e b)))

      go : (k : Kind) → kind_of h e ≡ k → serve.Enough n e.size k → r ≤ rank_as (in_own_bin h n e) little k
      go Ordinary q s = ordinary q (in_own_bin h n e) refl
      go Donor q s = unless d (λ f. serve.donor_fails ws h p n e m c f q)
      go Top q s = unless t (λ f. serve.top_fails ws h p n e m c f q)
      go Start q s = absurd s
      go InUse q s = absurd s
      go End q s = absurd s

  -- the donor fails if the need is small, and else has rank 4
  donor_later : (r : ℕ) → r ≤ 4 → (little ≡ true → Fails donor) → Fails donor ⊎ (r ≤ cond little 1 4)
  donor_later r l d = go little refl
    where
      go : (b : Bool) → little ≡ b → Fails donor ⊎ (r ≤ cond b 1 4)
      go true q = inl (d q)
      go false q = inr l

  -- the chunk of the source s has the lowest rank
  abbrev Lowest : Option Source → Type 0
  Lowest s = (from : Entry) → CanGrant ws h n s from → AtLeast (rank h n from)

  own_lowest : Good Lowest own
  own_lowest =
      let (i, is, takes) = bin_from (table_of h) p.table.valid n large in
      subst (λ (b : Option ℕ). Good Lowest (own_bin es (bin_list ws h) n b)) (sym is)
      (from_bin_good Lowest (keep (λ c. leb n (size_on es c)) (bin_list ws h i))
      (λ c m from k.
      let member = (kept_from (λ c. leb n (size_on es c)) (bin_list ws h i) m).0 in
      let (x, r) = member_entry ws h p i c (omega (arith, takes.inside, length-take h.bins h.sizes)) member in
      let q = one_chunk ws h p from x k.member r.member (k.place ∙ sym r.place) in
      rw (k.kind, own_bin_lem from (ap (λ (y : Entry). bin_of (table_of h) y.size) q ∙ r.takes ∙ sym is)) (λ e me c. omega arith)))

  larger_lowest : Fails own → (little ≡ true → Fails donor) → Good Lowest larger
  larger_lowest o d =
      let (i, is, takes) = bin_from (table_of h) p.table.valid n large in
      subst (λ (b : Option ℕ). Good Lowest (larger_bin h (bin_list ws h) b)) (sym is)
      (from_bin_good Lowest (gathered (bin_list ws h) (numbers_from (suc i) (h.bins - suc i)))
      (λ c m from k. rw k.kind (go (in_own_bin h n from))))
    where
      go : (b : Bool) → AtLeast (cond b 0 2)
      go true = λ e m c. omega arith
      go false = at_least 2 (inl o) (inr (omega arith)) (donor_later 2 (omega arith) d) (inr (omega arith))

  donor_lowest : Fails own → (little ≡ false → Fails larger × Fails top) → Good Lowest donor
  donor_lowest o others =
      if_good Lowest (Some FromDonor) (not (eqb h.donor.0 0) && leb (n + 24) (size_on es h.donor.0)) (λ t from k. rw k.kind (go little refl))
    where
      go : (b : Bool) → little ≡ b → AtLeast (cond b 1 4)
      go true q = at_least 1 (inl o) (inr (omega arith)) (inr (rw q (omega arith))) (inr (omega arith))
      go false q = let (l, t) = others q in at_least 4 (inl o) (inl l) (inr (rw q (omega arith))) (inl t)

  top_lowest : Fails own → Fails larger → (little ≡ true → Fails donor) → Good Lowest top
  top_lowest o l d =
      if_good Lowest (Some FromTop) (leb (n + 24) (size_on es h.top.0))
      (λ t from k. rw k.kind (at_least 3 (inl o) (inl l) (donor_later 3 (omega arith) d) (inr (omega arith))))

  -- the chosen one has it
  chosen_lowest : Good Lowest (source_of n (as_read ws h))
  unfolding as_read chosen
  chosen_lowest = in_order_good Lowest little own larger donor top own_lowest larger_lowest donor_lowest top_lowest

-- what follows for the donor
module _ (ws : List ℕ) (h : Heap) (n b : ℕ) (lowest : LowestRank ws h n b) where
  pub donor_last_lem : DonorLast ws h n b
  donor_last_lem from m lies large is e me others = not_so (itself _) (λ c. go others (rw (is, large) at (lowest from m lies e me c)))
    where
      ordinary : (own : Bool) → 4 ≤ cond own 0 2 → ⊥
      ordinary true l = omega arith
      ordinary false l = omega arith

      go : (kind_of h e ≡ Ordinary) ⊎ (kind_of h e ≡ Top) → 4 ≤ rank_as (in_own_bin h n e) false (kind_of h e) → ⊥
      go (inl q) l = ordinary (in_own_bin h n e) (rw q at l)
      go (inr q) l = let k : 4 ≤ 3 = rw q at l in omega arith

  pub donor_before_larger_lem : DonorBeforeLarger ws h n b
  donor_before_larger_lem from m lies little is other e me others =
      not_so (itself _) (λ c. go others (rw (is, other) at (lowest from m lies e me c)))
    where
      go : ((kind_of h e ≡ Ordinary) × (in_own_bin h n e ≡ true)) ⊎ (kind_of h e ≡ Donor) → 2 ≤ rank h n e → ⊥
      go (inl (q, o)) l = let k : 2 ≤ 0 = rw (q, o) at l in omega arith
      go (inr q) l = let k : 2 ≤ 1 = rw (q, little) at l in omega arith

  in_turn : InTurn ws h n b
  in_turn = record { lowest = lowest; donor_last = donor_last_lem; donor_before_larger = donor_before_larger_lem }

-- n bytes are granted
module _ {ws : List ℕ} {h : Heap} {n : ℕ} (room : Grantable ws h n) where
  granted_lowest : LowestRank ws h n (granted_block room)
  granted_lowest from m lies =
      rw (source_alone room from m lies) (chosen_lowest ws h room.well n room.large room.some (source_chunk room) (can room))

  granted_in_turn : InTurn ws h n (granted_block room)
  granted_in_turn = in_turn ws h n (granted_block room) granted_lowest

pub choice : Choice ours
choice = each_new_block InTurn (λ ws h n room. granted_in_turn room)
