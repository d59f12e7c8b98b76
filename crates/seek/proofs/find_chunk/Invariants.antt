-- `seek::find_chunk`: from here it finds what it finds from the start. The measure is what is left of the heap bytes.
use Rattle.std.proofs.Common.{◌-◌}
use Rattle.seek.proofs.SeekLaws.{Seeking}
use Rattle.seek.proofs.find_chunk.Given as goal

abbrev pub invariant-loop-at : goal.invariant-loop-at
invariant-loop-at l = Seeking l.region l.bytes l.place l.before l.at

abbrev pub decreases-loop-at : goal.decreases-loop-at
decreases-loop-at l = l.bytes - l.at
