-- The loop of `sweep::sweep_bins`: what is done and what is left come to all. The measure: the bins left.
use Rattle.std.proofs.Common.{◌-◌, length}
use Rattle.sweep.proofs.SweepLaws.{Sweeping}
use Rattle.sweep.proofs.sweep_bins.Given as goal

abbrev pub invariant-loop-bin : goal.invariant-loop-bin
invariant-loop-bin l =
    Sweeping l.marked.region.now l.lists.table.sizes.now l.lists.heads.now l.lists.tails.now l.marked.bytes l.marked.marks.now.words l.bin l.met

abbrev pub decreases-loop-bin : goal.decreases-loop-bin
decreases-loop-bin l = length l.lists.table.sizes.now - l.bin
