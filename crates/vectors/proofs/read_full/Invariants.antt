-- `read_full` ends, since each turn reads at least one byte; the front of the space is what the reader has given.
use Rattle.std.proofs.Common.{◌≤◌, ◌-◌, length, take}
use Rattle.std.specs.Io.KnownBytes.{Consumes}
use Rattle.vectors.proofs.read_full.Given as goal

abbrev pub invariant-loop-n : goal.invariant-loop-n
invariant-loop-n g l = (l.n ≤ length l.script) × Consumes (g.R.Read.remaining l.initial.from) (g.R.Read.remaining l.from) (take l.n l.script)

abbrev pub decreases-loop-n : goal.decreases-loop-n
decreases-loop-n g l = length l.script - l.n
