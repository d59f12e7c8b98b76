-- `heap::allocate_with` does what the rule says, on every region and every record. Assumes nothing.
use Rattle.std.proofs.Common.{rules, sym, ◌∙◌}
use Rattle.std.proofs.lemmas.List.{length-take-le}
use Rattle.heap.proofs.CallLaws.{bins_there, table_valid}
use Rattle.heap.proofs.AllocateLaws.{allocate_meets, allocate_supplies, allocate_no_room}
use Rattle.heap.proofs.allocate_with.Goals as goal

pub slice_bounds-table-end : goal.slice_bounds-table-end
slice_bounds-table-end c = sym (length-take-le _ _ (bins_there _ _ (sym c.passes.ensures ∙ c.if-not-passes.false)))

pub slice_bounds-sizes-end : goal.slice_bounds-sizes-end
slice_bounds-sizes-end c = bins_there _ _ (sym c.passes.ensures ∙ c.if-not-passes.false)

pub invariant_of-table : goal.invariant_of-table
invariant_of-table c = record { valid = table_valid _ _ (sym c.passes.ensures ∙ c.if-not-passes.false) }

pub returns : goal.returns
returns c =
    allocate_meets {z = c.args.z} {clears = c.args.clears}
    (allocate_supplies (sym c.passes.ensures ∙ c.if-not-passes.false) (sym c.is_permitted.ensures ∙ c.if-not-is_permitted.false) c.need_of-need.ensures c.summary.ensures
    c.supply.ensures.outcome c.in-Ok.is (search rules))

pub returns-in-Err : goal.returns-in-Err
returns-in-Err c =
    rw c.refused-in-Err.ensures
    (allocate_meets {z = c.args.z} {clears = c.args.clears}
    (allocate_no_room (sym c.passes.ensures ∙ c.if-not-passes.false) (sym c.is_permitted.ensures ∙ c.if-not-is_permitted.false) c.need_of-need.ensures c.summary.ensures
    c.supply.ensures.outcome c.in-Err.is))
