-- `heap::ask_chunk` gives the rule's answer about a chunk, and changes nothing. Assumes nothing.
use Rattle.std.proofs.Common.{sym, ◌∙◌}
use Rattle.std.proofs.lemmas.List.{length-take-le}
use Rattle.heap.proofs.CallLaws.{asked_chunk, asks_chunk_lem, fails_chunk, lent, bins_there, table_valid}
use Rattle.heap.proofs.ask_chunk.Goals as goal

pub returns-then-not-passes : goal.returns-then-not-passes
returns-then-not-passes c = rw c.refused.ensures (asked_chunk (fails_chunk (sym c.passes.ensures ∙ c.if-not-passes.true)))

pub slice_bounds-table-end : goal.slice_bounds-table-end
slice_bounds-table-end c = sym (length-take-le _ _ (bins_there _ _ (sym c.passes.ensures ∙ c.if-not-passes.false)))

pub slice_bounds-sizes-end : goal.slice_bounds-sizes-end
slice_bounds-sizes-end c = bins_there _ _ (sym c.passes.ensures ∙ c.if-not-passes.false)

pub invariant_of-table : goal.invariant_of-table
invariant_of-table c = record { valid = table_valid _ _ (sym c.passes.ensures ∙ c.if-not-passes.false) }

pub slice_bounds-ask_chunk-end : goal.slice_bounds-ask_chunk-end
slice_bounds-ask_chunk-end c = lent _ _ (sym c.passes.ensures ∙ c.if-not-passes.false)

pub slice_bounds-ask_chunk-end-2 : goal.slice_bounds-ask_chunk-end-2
slice_bounds-ask_chunk-end-2 c = sym (length-take-le _ _ (lent _ _ (sym c.passes.ensures ∙ c.if-not-passes.false)))

pub returns : goal.returns
returns c =
    asked_chunk
    (asks_chunk_lem (sym c.passes.ensures ∙ c.if-not-passes.false) c.summary.ensures c.ask_chunk-told.ensures c.from.ensures)
