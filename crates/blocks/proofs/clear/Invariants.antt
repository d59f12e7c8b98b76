-- The first words are 0, and the others as they came.
use Rattle.std.proofs.Common.{◌≡◌, ◌++◌, drop, replicate}
use Rattle.blocks.proofs.clear.Given as goal

abbrev pub invariant-loop-value : goal.invariant-loop-value
invariant-loop-value l = l.value-items ≡ replicate l.value-index 0 ++ drop l.value-index l.fn.words
