-- `Args::read` adds no bytes to those that are left. The invariant: they are no more than at first.
use Rattle.std.proofs.Common.{◌≤◌, length}
use Rattle.vectors.proofs.script.Args.read.Given as goal

abbrev pub invariant-loop-index : goal.invariant-loop-index
invariant-loop-index l = length l.numbers.0.now ≤ length l.fn.numbers.0.now
