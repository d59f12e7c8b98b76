-- `heap::ask_bin` gives the rule's answer about a bin, and changes nothing. Assumes nothing.
use Rattle.std.proofs.Common.{sym, ◌∙◌}
use Rattle.std.proofs.lemmas.List.{length-take-le}
use Rattle.heap.proofs.CallLaws.{asked_bin, asks_bin_lem, fails_bin, lent}
use Rattle.heap.proofs.ask_bin.Goals as goal

pub returns-then-not-passes : goal.returns-then-not-passes
returns-then-not-passes c = rw c.refused.ensures (asked_bin (fails_bin (sym c.passes.ensures ∙ c.if-not-passes.true)))

pub slice_bounds-ask_bin-end : goal.slice_bounds-ask_bin-end
slice_bounds-ask_bin-end c = lent _ _ (sym c.passes.ensures ∙ c.if-not-passes.false)

pub slice_bounds-ask_bin-end-2 : goal.slice_bounds-ask_bin-end-2
slice_bounds-ask_bin-end-2 c = sym (length-take-le _ _ (lent _ _ (sym c.passes.ensures ∙ c.if-not-passes.false)))

pub returns : goal.returns
returns c =
    asked_bin (asks_bin_lem (sym c.passes.ensures ∙ c.if-not-passes.false) c.summary.ensures c.ask_bin-told.ensures c.from.ensures)
