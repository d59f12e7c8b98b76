-- `first_digit` ends, since each turn passes over a comment.
use Rattle.std.proofs.Common.{◌≤◌, length}
use Rattle.vectors.proofs.script.first_digit.Given as goal

abbrev pub invariant-loop-at : goal.invariant-loop-at
invariant-loop-at l = length l.left ≤ length l.bytes

abbrev pub decreases-loop-at : goal.decreases-loop-at
decreases-loop-at l = length l.left
