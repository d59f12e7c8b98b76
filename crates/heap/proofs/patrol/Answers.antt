-- A run from the record's place. Assumes nothing.
use Rattle.std.proofs.Common.{refl, ap, ◌∙◌}
use Rattle.record.specs.declared.answers.Reply.{Reply}
use Rattle.record.specs.declared.heap.Heap.{Heap}
use Rattle.rules.specs.Statements.{replied}
use Rattle.heap.proofs.patrol.Goals as goal

pub returns-in-Ok : goal.returns-in-Ok
returns-in-Ok c =
    ap (λ (x : Heap). replied (record { answer = c.in-Ok.toured.answer; heap = x }) c.tour.new.region) c.with_patrol.ensures
    ∙ c.in-Ok.ensures c.args.heap refl refl

pub returns-in-Err : goal.returns-in-Err
returns-in-Err c =
    ap (λ (x : Reply). replied x c.tour.new.region) c.refused.ensures ∙ c.in-Err.ensures c.args.heap refl refl
