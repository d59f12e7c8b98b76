-- What is whole is passed, the walk that only reads decides, and what can be mended is. The blanks: the region's words, end, from and
-- chunks. Assumes nothing.
use Rattle.std.proofs.Common.{rules, ◌≡◌, Err}
use Rattle.patrol.proofs.RunMeaning.{run_spent, run_ended, run_stops, run_goes}
use Rattle.patrol.proofs.run.Goals as goal

pub returns-then-rest-eq0 : goal.returns-then-rest-eq0
returns-then-rest-eq0 c = run_spent _ _ _ _ c.skim-rest.ensures c.if-rest-eq0.true

pub returns-then-rest-end : goal.returns-then-rest-end
returns-then-rest-end c = run_ended _ _ _ _ c.skim-rest.ensures c.if-rest-eq0.false c.if-rest-end.true

pub returns-in_err-forward : goal.returns-in_err-forward
returns-in_err-forward c =
    let same : c.from_residual.result ≡ Err c.in_err-forward.field-0.0 = search rules in
    rw same (run_stops _ _ _ _ c.skim-rest.ensures c.forward.ensures c.in_err-forward.was)

pub returns : goal.returns
returns c = run_goes _ _ _ _ c.skim-rest.ensures c.forward.ensures c.in_ok-forward.was c.forward-2.ensures
