-- `bins::next_occupied`: what is found from here on is what is found from the bin after `above`. Assumes nothing.
use Rattle.std.proofs.Common.{ℕ, ◌-◌, sym, ap, ◌∙◌, add-one, arith}
use Rattle.bins.specs.Bins.{some_end, next_occupied_m}
use Rattle.bins.proofs.BinsSteps.{no_chunk, a_chunk, end_spent, end_here, end_goes_from}
use Rattle.bins.proofs.next_occupied.Goals as goal

pub returns-then-bins-above : goal.returns-then-bins-above
unfolding next_occupied_m
returns-then-bins-above c = no_chunk (end_spent _ _ _ (omega arith))

pub loop-bin-init : goal.loop-bin-init
unfolding next_occupied_m
loop-bin-init c = ap (λ (i : ℕ). some_end (c.args.bins - i) c.args.heads.now i) (add-one c.args.above)

pub returns-then-head-ne0 : goal.returns-then-head-ne0
returns-then-head-ne0 c =
    a_chunk c.if-head-ne0.true
    (c.list_end-head.ensures
    ∙ (sym (end_here _ _ _ (omega arith) (rw c.list_end-head.ensures at c.if-head-ne0.true)) ∙ c.loop-bin.invariant))

pub loop-bin-preserved : goal.loop-bin-preserved
loop-bin-preserved c =
    sym (end_goes_from _ _ _ c.loop-bin-test.true (rw c.list_end-head.ensures at c.if-head-ne0.false)) ∙ c.loop-bin.invariant

pub returns : goal.returns
returns c = no_chunk (sym c.loop-bin.invariant ∙ end_spent _ _ _ (omega arith))
