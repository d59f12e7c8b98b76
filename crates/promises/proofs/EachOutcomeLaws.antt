-- To prove something of what allocate, cleared allocate, free and reallocate come to, on any region and any record, it is enough to know it of their
-- outcomes, each with what the laws of drafts ask: a refusal, a grant, a free, and a block that moves, shrinks or stays (`EachOutcome`). Assumes nothing.
use Rattle.std.specs.Prelude.{is_none}
use mathlib.Core.Path.{◌≡◌}
use mathlib.Core.Bool.{Bool, true, false, not, cond, ◌&&◌}
use mathlib.Core.List.{List}
use Prim.Native.Nat.{ℕ, ◌*◌}
use lib.Dec.{eqb, ltb}
use borrow.Author.Tests.{lt-ltb, not-false}
use Rattle.drafts.proofs.FillLaws.{Within}
use Rattle.drafts.proofs.MovedLaws.{Moving}
use Rattle.drafts.proofs.ShrinkKept.{ShrinkingBlock}
use Rattle.drafts.proofs.SourceLaws.{Grantable, need_grantable}
use Rattle.drafts.proofs.WantedLaws.{block_moves, block_shrinks}
use Rattle.record.specs.declared.answers.Answer.TheVariants.{Returned}
use Rattle.record.specs.declared.answers.Refusal.{Refusal}
use Rattle.record.specs.declared.heap.Heap.{Heap}
use Rattle.region.specs.Words.{Store}
use Rattle.rules.specs.Shape.{Entry}
use Rattle.rules.specs.Kinds.{overhead}
use Rattle.rules.specs.Check.{Passes}
use Rattle.rules.specs.Draft.{Draft, Spot, as_read}
use Rattle.rules.specs.Serve.{need}
use Rattle.rules.specs.Cut.{Grant}
use Rattle.rules.specs.Outcome.{Outcome, heap_fails, made, grants, refused, change_of}
use Rattle.rules.specs.Allocate.{source_of, as_found, cleared, allocate_with, allocate, allocate_cleared, allocate_refusals, allocated}
use Rattle.rules.specs.Free.{is_live, block_spot, free_block, free, free_refusals, freed}
use Rattle.rules.specs.Reallocate.{shrunk, moved, resize, reallocate, resize_refusals, resized_to}
use Rattle.rules.proofs.OutcomeLaws.{judged_so}
use Rattle.promises.proofs.GrantedLaws.{cleared_within}
use Rattle.promises.proofs.ReasonLaws.{not_failing}
use Rattle.promises.proofs.ResizedLaws.{resized_so}

module _ (ws : List ℕ) (h : Heap) where
  -- the heap as it is read, and the chain at the chunk of the block at b
  abbrev pub before : Draft
  before = as_read ws h

  abbrev pub spot_of : ℕ → Spot
  spot_of b = block_spot before b

  -- the block at b is granted anew, as g says
  abbrev pub granting : ℕ → Grant → Outcome
  granting b g = made (grants (spot_of b).here.size g.granted) g.draft

  pub record EachOutcome (P : Outcome → Type 0) : Type 0 where
    pub refuses : (r : Refusal) → P (refused h r)
    -- a block of z bytes is granted, and `fill` written into it
    pub grants : (fill : Entry → List Store) → ((e : Entry) → Within e (fill e)) → (z : ℕ) → Grantable ws h (need overhead z) → P (allocated fill before z)
    -- block 0 is freed; a live block
    pub frees_none : P (made (Returned (change_of 0 0)) before)
    pub frees : (b : ℕ) → Passes ws h → is_live before b ≡ true → P (made (Returned (change_of (spot_of b).here.size 0)) (free_block b before))
    -- a live block is to have z bytes: it moves, gives its tail back, or stays as it is
    pub moves : (b z : ℕ) → let n = need overhead z in Moving ws h n (spot_of b).here → P (granting b (moved ws (spot_of b) n before))
    pub shrinks : (b z : ℕ) → let n = need overhead z in ShrinkingBlock ws h b n → P (granting b (shrunk (spot_of b) n before))
    pub stays : (b : ℕ) → Passes ws h → P (granting b (record { granted = (spot_of b).here; draft = before }))

  module _ {P : Outcome → Type 0} (each : EachOutcome P) where
    with_so : (fill : Entry → List Store) → ((e : Entry) → Within e (fill e)) → (z : ℕ) → P (allocate_with fill ws h z)
    with_so fill within z =
        judged_so P h (allocated fill before z) (allocate_refusals (heap_fails ws h) before z) each.refuses
        (λ (well, (_, (some, _))). each.grants fill within z (need_grantable z (not_failing ws h well) some))

    pub allocate_so : (z : ℕ) → P (allocate ws h z)
    unfolding allocate
    allocate_so = with_so as_found (λ e. tt)

    pub cleared_so : (count size : ℕ) → P (allocate_cleared ws h count size)
    unfolding allocate_cleared
    cleared_so count size = with_so cleared cleared_within (count * size)

    pub free_so : (b : ℕ) → P (free ws h b)
    unfolding free
    free_so b =
        judged_so P h (freed before b) (free_refusals (heap_fails ws h) before b) each.refuses (λ (well, (l, _)). go (not_failing ws h well) (eqb b 0) l)
      where
        go : Passes ws h → (t : Bool) → (not t && not (is_live before b)) ≡ false
            → P (made (Returned (change_of (cond t 0 (spot_of b).here.size) 0)) (cond t before (free_block b before)))
        go p true l = each.frees_none
        go p false l = each.frees b p (not-false (is_live before b) l)

    resized_each : (b z : ℕ) → Passes ws h → is_live before b ≡ true → (ltb (spot_of b).here.size (need overhead z) && is_none (source_of (need overhead z) before)) ≡ false
        → P (resized_to ws before b z)
    resized_each b z p l room =
        let n = need overhead z in
        resized_so (λ g. P (granting b g)) ws (spot_of b) n before
        (λ less. each.moves b z (block_moves p b l z (rw (lt-ltb (spot_of b).here.size n less) at room) less))
        (λ spare. each.shrinks b z (block_shrinks p b l z spare)) (each.stays b p)

    resize_so : (b z : ℕ) → P (resize ws h b z)
    unfolding resize
    resize_so b z =
        judged_so P h (resized_to ws before b z) (resize_refusals (heap_fails ws h) before b z) each.refuses
        (λ (well, (_, (l, (room, _)))). resized_each b z (not_failing ws h well) (not-false (is_live before b) l) room)

    pub reallocate_so : (b z : ℕ) → P (reallocate ws h b z)
    unfolding reallocate
    reallocate_so b z = go (eqb b 0)
      where
        go : (t : Bool) → P (cond t (allocate ws h z) (resize ws h b z))
        go true = allocate_so z
        go false = resize_so b z
