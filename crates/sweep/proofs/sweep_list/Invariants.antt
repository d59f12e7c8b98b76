-- The loop of `sweep::sweep_list`: what is done and what is left come to the whole list, but for the test that the last size is not too
-- large; and the bin asks for its own sizes, from that of the member before on. The measure: the steps left.
use Rattle.std.proofs.Common.{◌-◌, ◌≤◌}
use Rattle.sweep.proofs.SweepLaws.{Asks, Combing}
use Rattle.sweep.proofs.sweep_list.Given as goal

abbrev pub invariant-loop-at : goal.invariant-loop-at
invariant-loop-at l =
    let m = l.marked in
    Combing l.region l.table.sizes.now l.bin m.bytes m.marks.now.words l.first l.at l.before l.sizes.least (m.bytes - l.count)
    × Asks l.table.sizes.now l.bin l.sizes
    × (l.count ≤ m.bytes)

abbrev pub decreases-loop-at : goal.decreases-loop-at
decreases-loop-at l = l.marked.bytes - l.count
