-- `bins::next_occupied`: what is found from here on is what is found from the bin after `above`.
use Rattle.std.proofs.Common.{◌≡◌, ◌-◌}
use Rattle.bins.specs.Bins.{some_end, next_occupied_m}
use Rattle.bins.proofs.next_occupied.Given as goal

abbrev pub invariant-loop-bin : goal.invariant-loop-bin
invariant-loop-bin l = some_end (l.bins - l.bin) l.heads l.bin ≡ next_occupied_m l.heads l.above l.bins
