-- What was found so far and what is left come to the whole.
use Rattle.std.proofs.Common.{◌≡◌, ◌-◌, ◌&&◌, drop, length, take}
use Rattle.record.specs.Table.{goes_up}
use Rattle.record.proofs.table.valid.Given as goal

abbrev pub invariant-loop-size : goal.invariant-loop-size
invariant-loop-size l =
    let rest = take (length l.fn.table - 1) (drop 1 l.fn.table) in
    (l.right && goes_up l.before (drop l.size-index rest)) ≡ goes_up 24 rest
