-- The loop of `Lists::next_listed`: all bins passed so far are without an end.
use Rattle.sweep.specs.Sweep.{NextListed}
use Rattle.sweep.proofs.Lists.next_listed.Given as goal

abbrev pub invariant-loop-bin : goal.invariant-loop-bin
invariant-loop-bin l = NextListed l.self.heads.now l.self.tails.now l.fn.from l.bin
