-- `bins::first_fit`: what is found from here with the steps left is what is found from the first.
use Rattle.std.proofs.Common.{◌≡◌, ◌-◌}
use Rattle.bins.specs.Bins.{first_fit_m, steps}
use Rattle.bins.proofs.first_fit.Given as goal

abbrev pub invariant-loop : goal.invariant-loop
invariant-loop l = first_fit_m (steps - l.counter) l.region l.need l.at ≡ first_fit_m steps l.fn.region l.fn.need l.fn.first.0
