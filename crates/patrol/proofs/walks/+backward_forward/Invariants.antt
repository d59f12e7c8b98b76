-- A call forward has twice the chunks that remain, and a call backward one more.
use Rattle.std.proofs.Common.{◌+◌, ◌*◌}
use denote.Param.{number}
use Rattle.patrol.proofs.WalksLaws.{Walking}
use Rattle.patrol.specs.contracts.walks.forward.{WRITES-type}
use Rattle.patrol.proofs.walks.+backward_forward.Given as goal

abbrev pub decreases-backward : goal.decreases-backward
decreases-backward g l = 2 * l.rest.left + 1

abbrev pub decreases-forward : goal.decreases-forward
decreases-forward g l = 2 * l.rest.left

abbrev pub invariant-forward-loop-handled : goal.invariant-forward-loop-handled
invariant-forward-loop-handled g l =
    Walking (WRITES-type (number g.row.WRITES)) l.fn.region l.end l.fn.rest.chunk.0 l.rest.left l.region l.chunk.0 l.handled
