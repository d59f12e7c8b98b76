-- What is lent on comes back as zeros. Assumes nothing.
use Rattle.blocks.proofs.BlocksLaws.{cleared_backwards, cleared_outside, cleared_part}
use Rattle.blocks.proofs.clear_block.Goals as goal

pub returns-then-to-from : goal.returns-then-to-from
returns-then-to-from c = cleared_backwards _ _ _ c.if-to-from.true

pub returns-then-region-to : goal.returns-then-region-to
returns-then-region-to c = cleared_outside _ _ _ c.if-to-from.false c.if-region-to.true

pub returns : goal.returns
returns c = cleared_part _ _ _ c.if-to-from.false c.if-region-to.false c.clear.ensures
