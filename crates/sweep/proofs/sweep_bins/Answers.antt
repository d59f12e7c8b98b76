-- `sweep::sweep_bins` combs the lists of all bins. Assumes nothing.
use Rattle.std.proofs.Common.{refl}
use Rattle.sweep.specs.Sweep.{SweptIs}
use Rattle.sweep.proofs.SweepLaws.{sweeping_begins, sweeping_skips, sweeping_goes, dirty_list, dirty_tail, all_clean}
use Rattle.sweep.proofs.sweep_bins.Goals as goal

pub loop-bin-init : goal.loop-bin-init
loop-bin-init c = sweeping_skips sweeping_begins c.next_listed-bin.ensures

pub returns-in_err-members : goal.returns-in_err-members
returns-in_err-members c =
    rw c.from_residual.ensures (dirty_list c.loop-bin.invariant c.loop-bin-test.true refl c.in_err-members.ensures)

pub returns-then-lists-bin : goal.returns-then-lists-bin
unfolding SweptIs
returns-then-lists-bin c =
    dirty_tail c.loop-bin.invariant c.loop-bin-test.true refl c.in_ok-members.ensures refl c.if-lists-bin.true

pub loop-bin-preserved : goal.loop-bin-preserved
unfolding SweptIs
loop-bin-preserved c =
    sweeping_skips
    (sweeping_goes c.loop-bin.invariant c.loop-bin-test.true refl c.in_ok-members.ensures refl c.if-lists-bin.false refl)
    c.next_listed-bin-in-loop-bin.ensures

pub returns : goal.returns
returns c = all_clean c.loop-bin.invariant c.loop-bin-test.false
