-- The loop of `survey::walk`: what is done and what is left come to the whole, and the walk stands at a chunk behind the start whose links it
-- has read. The measure is what is left of the heap bytes, and of the way to the last limit.
use Rattle.std.proofs.Common.{◌+◌, ◌-◌}
use Rattle.survey.specs.Chunks.{HasRead}
use Rattle.survey.proofs.WalkLaws.{Walking}
use Rattle.survey.proofs.walk.Given as goal

abbrev pub invariant-loop-summary : goal.invariant-loop-summary
invariant-loop-summary l =
    Walking l.region l.summary l.fn.marks.words l.marks.words l.tally l.visit.before.0 l.visit.chunk.0 l.limit
    × HasRead l.region l.visit

abbrev pub decreases-loop-summary : goal.decreases-loop-summary
decreases-loop-summary l = l.summary.bytes - l.visit.chunk.0 + (l.summary.bytes - l.limit)
