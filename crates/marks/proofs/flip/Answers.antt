-- `flip` turns the mark over. Assumes nothing.
use Rattle.marks.specs.Marks.{flipped}
use Rattle.marks.proofs.MarksLaws.{shifted}
use Rattle.marks.proofs.flip.Goals as goal

pub returns : goal.returns
unfolding flipped
returns c = rw shifted
