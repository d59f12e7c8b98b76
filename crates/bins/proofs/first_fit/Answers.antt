-- `bins::first_fit`: what is found from here with the steps left is what is found from the first. Assumes nothing.
use Rattle.std.proofs.Common.{◌-◌, sym, ◌∙◌, arith}
use Rattle.bins.specs.Bins.{steps}
use Rattle.bins.proofs.BinsSteps.{no_chunk, a_chunk, fit_spent, fit_ends, fit_here, fit_goes_from}
use Rattle.bins.proofs.first_fit.Goals as goal

pub returns-then-at-eq0 : goal.returns-then-at-eq0
returns-then-at-eq0 c = no_chunk (sym c.loop.invariant ∙ fit_ends _ _ _ (steps - c.loop.counter) c.if-at-eq0.true)

pub returns-then-word-need : goal.returns-then-word-need
returns-then-word-need c =
    a_chunk c.if-at-eq0.false
    (sym (fit_here c.args.region.now c.args.need c.loop.at (steps - c.loop.counter) (omega arith) c.if-at-eq0.false (omega (arith, c.word.ensures)))
    ∙ c.loop.invariant)

pub loop-preserved : goal.loop-preserved
loop-preserved c =
    rw c.word-at.ensures
    (sym (fit_goes_from c.args.region.now c.args.need c.loop.at steps c.loop.counter (omega arith) c.if-at-eq0.false (omega (arith, c.word.ensures)))
    ∙ c.loop.invariant)

pub returns : goal.returns
returns c = no_chunk (sym c.loop.invariant ∙ fit_spent _ _ _ (steps - c.loop.counter) (omega arith))
