-- `is_marked` tests one bit of one word. Assumes nothing.
use Rattle.marks.proofs.MarksLaws.{shifted, mark_numbered}
use Rattle.marks.proofs.is_marked.Goals as goal

pub returns : goal.returns
returns c = rw shifted (mark_numbered c.args.marks.now c.args.number)
