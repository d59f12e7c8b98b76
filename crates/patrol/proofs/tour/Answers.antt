-- A run by its rule, refusals too. The blanks: the region's words, bytes, place, chunks. Assumes nothing.
use Rattle.std.proofs.Common.{rules, ◌≡◌, ◌∙◌, ap, Ok, Err, arith}
use Rattle.patrol.proofs.TourMeaning.{room, tour_none, tour_fails, tour_stops}
use Rattle.patrol.proofs.tour.Goals as goal

pub returns-then-chunks-eq0 : goal.returns-then-chunks-eq0
returns-then-chunks-eq0 c = tour_none _ _ _ _ c.if-chunks-eq0.true

pub returns-then-not-can_begin : goal.returns-then-not-can_begin
returns-then-not-can_begin c = tour_fails _ _ _ _ c.if-chunks-eq0.false c.can_begin.ensures c.if-not-can_begin.true

pub overflow_sub-bytes : goal.overflow_sub-bytes
overflow_sub-bytes c =
    let a = c.args in
    let (big, even, eights, inside) = room a.region.now a.bytes a.place.0 a.chunks c.if-chunks-eq0.false c.can_begin.ensures c.if-not-can_begin.false in
    omega arith

pub returns-in_err-next : goal.returns-in_err-next
returns-in_err-next c =
    let same : c.from_residual.result ≡ Err c.in_err-next.field-0.0 = search rules in
    rw same (tour_stops _ _ _ _ c.if-chunks-eq0.false c.can_begin.ensures c.if-not-can_begin.false c.run.ensures c.in_err-next.was)

pub returns-in-Paused : goal.returns-in-Paused
returns-in-Paused c =
    tour_stops _ _ _ _ c.if-chunks-eq0.false c.can_begin.ensures c.if-not-can_begin.false c.run.ensures
    (c.in_ok-next.was ∙ ap Ok c.in-Paused.is)

pub returns-in-Ended : goal.returns-in-Ended
returns-in-Ended c =
    tour_stops _ _ _ _ c.if-chunks-eq0.false c.can_begin.ensures c.if-not-can_begin.false c.run.ensures
    (c.in_ok-next.was ∙ ap Ok c.in-Ended.is)
