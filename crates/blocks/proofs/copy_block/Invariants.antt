-- What is left to copy comes to the whole copy.
use Rattle.std.proofs.Common.{◌≡◌, ◌-◌}
use Rattle.blocks.specs.Blocks.{copied_m}
use Rattle.blocks.proofs.copy_block.Given as goal

abbrev pub invariant-loop-number : goal.invariant-loop-number
invariant-loop-number l =
    copied_m (l.words - l.number) l.region l.from.0 l.to.0 l.number ≡ copied_m (l.words - 2) l.fn.region l.from.0 l.to.0 2
