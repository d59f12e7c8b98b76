-- `play` ends, since each action has a number, which is read from the bytes that are left.
use Rattle.std.proofs.Common.{length}
use Rattle.vectors.proofs.play.play.Given as goal

abbrev pub decreases-loop-number : goal.decreases-loop-number
decreases-loop-number g l = length l.numbers.0.now
