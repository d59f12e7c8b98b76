use Rattle.patrol.proofs.SkimLaws.{Skimming}
use Rattle.patrol.proofs.skim.skim_above.Given as goal

abbrev pub invariant-loop-passed : goal.invariant-loop-passed
invariant-loop-passed l = Skimming l.region l.end l.fn.rest.chunk.0 l.rest.left l.chunk.0 l.passed l.links
