-- `Lists::next_listed` passes over bins without an end. Assumes nothing.
use Rattle.std.proofs.Common.{◌≡◌, ◌≤◌, length, arith}
use native.Mathlib.Decide.{dec_le}
use Rattle.sweep.specs.Sweep.{NextListed}
use Rattle.sweep.proofs.SweepLaws.{nothing_passed, one_passed}
use Rattle.sweep.proofs.Lists.next_listed.Goals as goal

pub loop-bin-init : goal.loop-bin-init
loop-bin-init c = nothing_passed

pub loop-bin-preserved : goal.loop-bin-preserved
loop-bin-preserved c = one_passed c.loop-bin.invariant c.if-self-bin-ne0.false

pub returns : goal.returns
returns c = go (dec_le c.args.from (length c.args.self.table.sizes.now))
  where
    go : Dec (c.args.from ≤ length c.args.self.table.sizes.now) → NextListed c.args.self.heads.now c.args.self.tails.now c.args.from c.max.result
    go (yes l) = let e : c.max.result ≡ c.loop-bin.bin = omega (arith, c.loop-bin.auto.bin-end) in rw e c.loop-bin.invariant
    go (no n) = let e : c.max.result ≡ c.args.from = omega arith in rw e nothing_passed
