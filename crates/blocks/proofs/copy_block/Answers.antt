-- A word more is copied, and what is left to copy is one word shorter. Assumes nothing.
use mathlib.Core.Path.{◌∙◌}
use Rattle.blocks.proofs.BlocksLaws.{copies_one, copies_done}
use Rattle.blocks.proofs.copy_block.Goals as goal

pub loop-number-preserved : goal.loop-number-preserved
loop-number-preserved c =
    let l = c.loop-number in
    rw (c.store.ensures, c.word-value.ensures) (copies_one _ _ _ _ l.number c.loop-number-test.true ∙ l.invariant)

pub returns : goal.returns
returns c = copies_done _ _ _ _ _ c.loop-number-test.false ∙ c.loop-number.invariant
