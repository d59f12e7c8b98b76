-- The loop stops at a chunk with something to mend, goes on at any other, and ends where none is left. Assumes nothing.
use Rattle.patrol.proofs.SkimLaws.{skim_spent, skim_stops, skim_goes}
use Rattle.patrol.proofs.skim.skim_above.Goals as goal

pub returns-then-not-is_whole : goal.returns-then-not-is_whole
returns-then-not-is_whole c =
    skim_stops c.loop-passed.invariant c.loop-passed-test.true c.links_of-above.ensures c.is_whole.ensures c.if-not-is_whole.true

pub loop-passed-preserved : goal.loop-passed-preserved
loop-passed-preserved c =
    skim_goes c.loop-passed.invariant c.loop-passed-test.true c.links_of-above.ensures c.is_whole.ensures c.if-not-is_whole.false

pub returns : goal.returns
returns c = skim_spent c.loop-passed.invariant c.loop-passed-test.false
