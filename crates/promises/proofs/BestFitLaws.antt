-- The rules keep the promise `BestFit` (`best_fit_lem`). The bins, one after the other, are one list in order of size (`bins_in_order`); a block from a
-- bin comes from the first chunk of that list that has n bytes. Any way that keeps `Choice` too takes a smallest chunk wherever bins come first
-- (`best_of_any`). Assumes nothing.
use mathlib.Core.Path.{◌≡◌, refl, sym, ap, subst, ◌∙◌}
use mathlib.Core.Logic.{◌⊎◌, inl, inr}
use mathlib.Core.Bool.{Bool, true, false, not, cond, ◌&&◌, true≢false}
use mathlib.Core.List.{List, ◌++◌}
use Prim.Native.Nat.{ℕ, suc, ◌+◌, ◌-◌, ◌≤◌, ◌<◌}
use native.Mathlib.Decide.{ℕ_discrete}
use native.Mathlib.Omega.{arith}
use lib.Dec.{eqb, leb}
use lib.ListN.{length-take}
use Rattle.books.proofs.HeapBooks.{ordinary_listed}
use Rattle.drafts.specs.Sources.{kind_in}
use Rattle.drafts.proofs.GrantKept.{source_chunk, can}
use Rattle.drafts.proofs.SourceLaws.{CanGrant, Fails, Good, Grantable, in_order_good, from_first_good, if_good}
use Rattle.lists.specs.Lists.{Mem, head_or, keep, numbers_from, gathered}
use Rattle.lists.proofs.AscendingLaws.{ascending_before, before_across, head_least}
use Rattle.lists.proofs.CountLaws.{gathered_has}
use Rattle.lists.proofs.MembersLaws.{kept_from}
use Rattle.record.specs.declared.heap.Heap.{Heap}
use Rattle.record.specs.declared.kinds.Kind.{Kind}
use Rattle.record.specs.declared.kinds.Kind.TheVariants.{Start, InUse, Ordinary, Donor, Top, End}
use Rattle.record.specs.declared.sources.Source.{Source}
use Rattle.record.specs.declared.sources.Source.TheVariants.{FromBin, FromDonor, FromTop}
use Rattle.std.specs.Prelude.{Option, Some, None}
use Rattle.record.specs.Heap.{at, table_of}
use Rattle.record.specs.Table.{Takes, small, bin_of}
use Rattle.record.proofs.TableLaws.{bin_takes, bin_from, bin_grows}
use Rattle.rules.specs.Shape.{Entry, shape, bin_list}
use Rattle.rules.specs.Kinds.{ordinary_kind, kind_of, size_on}
use Rattle.rules.specs.Check.{Passes}
use Rattle.rules.specs.Draft.{as_read}
use Rattle.rules.specs.Serve.{own_bin, larger_bin, chosen}
use Rattle.rules.specs.Allocate.{source_of}
use Rattle.rules.proofs.NamedLaws.{is_ordinary_lem}
use Rattle.rules.proofs.OrderLaws.{bins_in_order, first_fit_smallest}
use Rattle.rules.proofs.SpotLaws.{size_on_lem}
use Rattle.promises.specs.Ways.{Way, ours}
use Rattle.promises.specs.Choice.{in_own_bin, rank_as, rank, InTurn, Choice}
use Rattle.promises.specs.BestFit.{OrdinaryServes, Fitted, BestFit, FromSmallest, BestOfAny}
use Rattle.promises.proofs.ServeLaws as serve
use Rattle.promises.proofs.GrantedLaws.{cut_from}
use Rattle.promises.proofs.ChoiceLaws.{own_bin_lem}
use Rattle.promises.proofs.NewBlocksLaws.{granted_block, lies_in_source, each_new_block, new_blocks_both}

module _ (ws : List ℕ) (h : Heap) (p : Passes ws h) (n : ℕ) (large : 24 ≤ n) where
  abbrev es : List Entry
  es = shape ws h.bytes

  abbrev own : Option Source
  own = serve.own ws h p n

  -- no ordinary chunk that can serve is smaller than the one at c
  abbrev LeastAt : ℕ → Type 0
  LeastAt c = (e : Entry) → OrdinaryServes ws h n e → size_on es c ≤ size_on es e.place

  -- bin i is the bin of n
  module _ (i : ℕ) (is : bin_of (table_of h) n ≡ Some i) (takes : Takes (table_of h) n i) where
    -- the chunks of bin i that have n bytes, and those of the larger bins, one bin after the other
    abbrev fitting : List ℕ
    fitting = keep (λ c. leb n (size_on es c)) (bin_list ws h i)

    abbrev above : List ℕ
    above = gathered (bin_list ws h) (numbers_from (suc i) (h.bins - suc i))

    in_table : i < h.bins
    in_table = omega (arith, takes.inside, length-take h.bins h.sizes)

    -- where the chunk e is: in bin i, or above it
    abbrev Listed : Entry → Type 0
    Listed e = ((bin_of (table_of h) e.size ≡ bin_of (table_of h) n) × Mem e.place (bin_list ws h i)) ⊎ Mem e.place above

    -- an ordinary chunk that can serve has n bytes, and its bin is not below that of n
    listed : (e : Entry) → OrdinaryServes ws h n e → (n ≤ size_on es e.place) × Listed e
    listed e o =
        let (j, inside, taken, member) = ordinary_listed ws h p e o.member (ap ordinary_kind o.ordinary) in
        let enough : n ≤ e.size = subst (serve.Enough n e.size) o.ordinary ((serve.serves_iff ws h p n e o.member).0 o.serves) in
        let grows = bin_grows (table_of h) takes (bin_takes (table_of h) taken) enough in
        (rw (size_on_lem ws h p e.place e o.member refl) enough, go j inside taken member grows (ℕ_discrete j i))
      where
        go : (j : ℕ) → j < h.bins → bin_of (table_of h) e.size ≡ Some j → Mem e.place (bin_list ws h j) → i ≤ j → Dec (j ≡ i) → Listed e
        go j inside taken member l (yes q) = inl (taken ∙ ap Some q ∙ sym is, rw q at member)
        go j inside taken member l (no d) = inr (gathered_has (bin_list ws h) (h.bins - suc i) (suc i) j (omega arith) (omega arith) member)

    own_least : Mem (head_or 0 fitting) fitting → LeastAt (head_or 0 fitting)
    own_least m e o = go (listed e o)
      where
        go : (n ≤ size_on es e.place) × Listed e → size_on es (head_or 0 fitting) ≤ size_on es e.place
        go (enough, inl (same, k)) = first_fit_smallest ws h p i in_table n e.place k enough
        go (enough, inr k) =
            ascending_before (size_on es) (head_or 0 fitting) e.place (bin_list ws h i ++ above)
            (bins_in_order ws h p i (suc (h.bins - suc i)) (omega (arith, in_table)))
            (before_across (bin_list ws h i) above (kept_from (λ c. leb n (size_on es c)) (bin_list ws h i) m).0 k)

    larger_least : Fails own → LeastAt (head_or 0 above)
    larger_least fails e o = go (listed e o)
      where
        go : (n ≤ size_on es e.place) × Listed e → size_on es (head_or 0 above) ≤ size_on es e.place
        go (enough, inl (same, k)) = absurd (serve.own_fails ws h p n e o.member o.serves fails o.ordinary same)
        go (enough, inr k) = head_least (size_on es) 0 above (bins_in_order ws h p (suc i) (h.bins - suc i) (omega (arith, in_table))) e.place k

  -- if the chunk of the source s is ordinary, no ordinary chunk that can serve is smaller
  abbrev Least : Option Source → Type 0
  Least s = (from : Entry) → CanGrant ws h n s from → kind_of h from ≡ Ordinary → (e : Entry) → OrdinaryServes ws h n e → from.size ≤ e.size

  least_at : (c : ℕ) → LeastAt c → Least (Some (FromBin (at c)))
  least_at c least from k q e o =
      let l = least e o in
      let s = size_on_lem ws h p c from k.member k.place in
      let t = size_on_lem ws h p e.place e o.member refl in
      omega arith

  own_good : Good Least own
  own_good =
      let (i, is, takes) = bin_from (table_of h) p.table.valid n large in
      subst (λ (b : Option ℕ). Good Least (own_bin es (bin_list ws h) n b)) (sym is)
      (from_first_good Least (fitting i is takes) (λ m. least_at (head_or 0 (fitting i is takes)) (own_least i is takes m)))

  larger_good : Fails own → Good Least (serve.larger ws h p n)
  larger_good fails =
      let (i, is, takes) = bin_from (table_of h) p.table.valid n large in
      subst (λ (b : Option ℕ). Good Least (larger_bin h (bin_list ws h) b)) (sym is)
      (from_first_good Least (above i is takes) (λ m. least_at (head_or 0 (above i is takes)) (larger_least i is takes fails)))

  -- donor and top are not ordinary
  other_kind : (s : Option Source) → ordinary_kind (kind_in s) ≡ false → Least s
  other_kind s not from k is e o = absurd (true≢false (sym (ap ordinary_kind is) ∙ ap ordinary_kind k.kind ∙ not))

  chosen_least : Good Least (source_of n (as_read ws h))
  unfolding as_read chosen
  chosen_least =
      in_order_good Least (small (table_of h) n) own (serve.larger ws h p n) (serve.donor ws h p n) (serve.top ws h p n) own_good (λ o d. larger_good o)
      (λ o l. if_good Least (Some FromDonor) (not (eqb h.donor.0 0) && leb (n + 24) (size_on es h.donor.0)) (λ t. other_kind (Some FromDonor) refl))
      (λ o l d. if_good Least (Some FromTop) (leb (n + 24) (size_on es h.top.0)) (λ t. other_kind (Some FromTop) refl))

-- n bytes are granted
granted_fitted : {ws : List ℕ} {h : Heap} {n : ℕ} (room : Grantable ws h n) → Fitted ws h n (granted_block room)
granted_fitted {ws} {h} {n} room =
    record {
      from = source_chunk room;
      member = (can room).member;
      lies = lies_in_source room;
      best = λ q.
          record {
            itself = record { member = (can room).member; ordinary = q; serves = (cut_from room).serves };
            least = chosen_least ws h room.well n room.large room.some (source_chunk room) (can room) q;
          };
    }

pub best_fit_lem : BestFit ours
best_fit_lem = each_new_block Fitted (λ ws h n room. granted_fitted room)

-- what follows of a block of any way for which both promises hold
module _ (ws : List ℕ) (h : Heap) (p : Passes ws h) (n b : ℕ) (fit : Fitted ws h n b) (turn : InTurn ws h n b) where
  abbrev little : Bool
  little = small (table_of h) n

  -- where its chunk has a lower rank than donor and top, it is ordinary
  before_donor : (r : ℕ) → r ≤ 2 → r < cond little 1 4 → rank h n fit.from ≤ r → kind_of h fit.from ≡ Ordinary
  before_donor r low lower l = go (kind_of h fit.from) refl l
    where
      go : (k : Kind) → kind_of h fit.from ≡ k → rank_as (in_own_bin h n fit.from) little k ≤ r → kind_of h fit.from ≡ Ordinary
      go Ordinary q m = q
      go Donor q m = absurd (omega arith)
      go Top q m = absurd (omega arith)
      go Start q m = absurd (omega arith)
      go InUse q m = absurd (omega arith)
      go End q m = absurd (omega arith)

  from_smallest : FromSmallest ws h n b
  from_smallest e o why = (fit.from, fit.lies, fit.best (go why))
    where
      lower : rank h n fit.from ≤ rank h n e
      lower = turn.lowest fit.from fit.member fit.lies e o.member o.serves

      in_bin_lem : (own : Bool) → cond own 0 2 ≤ 2
      in_bin_lem true = omega arith
      in_bin_lem false = omega arith

      exact : (t : Bool) → 0 < cond t 1 4
      exact true = omega arith
      exact false = omega arith

      go : (e.size ≡ n) ⊎ (little ≡ false) → kind_of h fit.from ≡ Ordinary
      go (inl q) =
          let room = (is_ordinary_lem ws h p e o.member (ap ordinary_kind o.ordinary)).free.between in
          let large : 24 ≤ n = omega arith in
          before_donor 0 (omega arith) (exact little) (rw (o.ordinary, own_bin_lem ws h p n large e (ap (bin_of (table_of h)) q)) at lower)
      go (inr q) =
          let l = in_bin_lem (in_own_bin h n e) in
          before_donor 2 (omega arith) (rw q (omega arith)) (omega (arith, rw o.ordinary at lower))

pub best_of_any : (way : Way) → BestFit way → Choice way → BestOfAny way
best_of_any way fit choice ws h p = new_blocks_both (from_smallest ws h p) (fit ws h p) (choice ws h p)
