-- `ask::count_members` counts one member more. Assumes nothing.
use Rattle.ask.proofs.AskLaws.{counting_goes}
use Rattle.ask.proofs.count_members.Goals as goal

pub loop-met-preserved : goal.loop-met-preserved
loop-met-preserved c = counting_goes c.loop-met.invariant c.if-at-eq0.false c.loop-met-test.true c.word-at.ensures
