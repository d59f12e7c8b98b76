-- `heap::free` does what the rule says, on every region and every record. Assumes nothing.
use Rattle.std.proofs.Common.{rules, sym, ◌∙◌}
use Rattle.std.proofs.lemmas.List.{length-take-le}
use Rattle.heap.proofs.CallLaws.{bins_there, table_valid}
use Rattle.heap.proofs.FreeLaws.{free_meets, free_fails, free_none, free_refuses, free_reclaims}
use Rattle.heap.proofs.free.Goals as goal

pub returns-then-not-passes : goal.returns-then-not-passes
returns-then-not-passes c =
    rw c.refused.ensures (free_meets (free_fails (sym c.passes.ensures ∙ c.if-not-passes.true)))

pub returns-then-block-eq0 : goal.returns-then-block-eq0
returns-then-block-eq0 c = free_meets (free_none (sym c.passes.ensures ∙ c.if-not-passes.false) c.if-block-eq0.true)

pub returns-in_default : goal.returns-in_default
returns-in_default c =
    rw c.refused-in_default.ensures
    (free_meets
    (free_refuses (sym c.passes.ensures ∙ c.if-not-passes.false) c.if-block-eq0.false c.find_block.ensures c.in_default.is))

pub slice_bounds-table-end : goal.slice_bounds-table-end
slice_bounds-table-end c = sym (length-take-le _ _ (bins_there _ _ (sym c.passes.ensures ∙ c.if-not-passes.false)))

pub slice_bounds-sizes-end : goal.slice_bounds-sizes-end
slice_bounds-sizes-end c = bins_there _ _ (sym c.passes.ensures ∙ c.if-not-passes.false)

pub invariant_of-table : goal.invariant_of-table
invariant_of-table c = record { valid = table_valid _ _ (sym c.passes.ensures ∙ c.if-not-passes.false) }

pub returns : goal.returns
returns c =
    free_meets
    (free_reclaims (sym c.passes.ensures ∙ c.if-not-passes.false) c.if-block-eq0.false c.find_block.ensures c.in-Some.is
    c.summary.ensures c.reclaim-freed.ensures.outcome (search rules))
