-- A backward link that is not near goes down.
use Rattle.std.proofs.Common.{◌≡◌}
use Rattle.rules.specs.Patrol.{back_offset}
use Rattle.patrol.proofs.WalksLaws.{Seeking}
use Rattle.patrol.proofs.walks.seek_next.Given as goal

abbrev pub invariant-loop-below : goal.invariant-loop-below
invariant-loop-below l = record { seeking : Seeking l.region l.end l.chunk.0 l.at; link : l.below ≡ back_offset l.region l.at }

abbrev pub decreases-loop-below : goal.decreases-loop-below
decreases-loop-below l = l.at
