-- `heap::reallocate` does what the rule says, on every region and every record. Assumes nothing.
use Rattle.std.proofs.Common.{sym, ◌∙◌}
use Rattle.std.proofs.lemmas.List.{length-take-le}
use Rattle.heap.proofs.CallLaws.{bins_there, table_valid}
use Rattle.heap.proofs.ReallocateLaws.{reallocate_meets, reallocate_none, reallocate_fails, reallocate_refuses, reallocate_misses, reallocate_resizes}
use Rattle.heap.proofs.reallocate.Goals as goal

pub returns-then-block-eq0 : goal.returns-then-block-eq0
returns-then-block-eq0 c = reallocate_meets (reallocate_none c.if-block-eq0.true c.allocate.ensures)

pub returns-then-not-passes : goal.returns-then-not-passes
returns-then-not-passes c =
    rw c.refused.ensures
    (reallocate_meets (reallocate_fails c.if-block-eq0.false (sym c.passes.ensures ∙ c.if-not-passes.true)))

pub returns-then-not-is_permitted : goal.returns-then-not-is_permitted
returns-then-not-is_permitted c =
    rw c.refused-then-not-is_permitted.ensures
    (reallocate_meets
    (reallocate_refuses c.if-block-eq0.false (sym c.passes.ensures ∙ c.if-not-passes.false)
    (sym c.is_permitted.ensures ∙ c.if-not-is_permitted.true)))

pub returns-in_default : goal.returns-in_default
returns-in_default c =
    rw c.refused-in_default.ensures
    (reallocate_meets
    (reallocate_misses c.if-block-eq0.false (sym c.passes.ensures ∙ c.if-not-passes.false) (sym c.is_permitted.ensures ∙ c.if-not-is_permitted.false)
    c.find_block.ensures c.in_default.is))

pub slice_bounds-table-end : goal.slice_bounds-table-end
slice_bounds-table-end c = sym (length-take-le _ _ (bins_there _ _ (sym c.passes.ensures ∙ c.if-not-passes.false)))

pub slice_bounds-sizes-end : goal.slice_bounds-sizes-end
slice_bounds-sizes-end c = bins_there _ _ (sym c.passes.ensures ∙ c.if-not-passes.false)

pub invariant_of-table : goal.invariant_of-table
invariant_of-table c = record { valid = table_valid _ _ (sym c.passes.ensures ∙ c.if-not-passes.false) }

pub returns : goal.returns
returns c =
    reallocate_meets
    (reallocate_resizes c.if-block-eq0.false (sym c.passes.ensures ∙ c.if-not-passes.false) (sym c.is_permitted.ensures ∙ c.if-not-is_permitted.false)
    c.find_block.ensures c.in-Some.is c.need_of.ensures c.resize.ensures)
