-- The first places are the table's, and the others 0.
use Rattle.std.proofs.Common.{◌≡◌, ◌≤◌, ◌++◌, take, drop}
use Rattle.record.specs.Heap.{zeros}
use Rattle.fresh.proofs.first_record.padded.Given as goal

abbrev pub invariant-loop-i : goal.invariant-loop-i
invariant-loop-i l = (l.i ≤ 32) × (l.sizes ≡ take l.i l.table ++ drop l.i zeros)
