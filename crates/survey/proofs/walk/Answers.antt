-- `survey::walk` examines, counts and marks the whole chain. Assumes nothing.
use Rattle.std.proofs.Common.{sym, refl, ◌∙◌, arith}
use Rattle.region.specs.Words.{word}
use Rattle.survey.specs.Chunks.{Followed}
use Rattle.survey.proofs.WalkLaws.{Walking, walk_no_start, walk_far, walking_begins, walk_inside, walk_within, walk_followed, walk_breaks, walk_goes, walk_finish, walk_turns, walk_misses}
use Rattle.survey.proofs.walk.Goals as goal
use Rattle.survey.proofs.walk.Goals.{Then-goes_on, After-tallied-tally}

pub returns-then-not-is_first : goal.returns-then-not-is_first
unfolding word
returns-then-not-is_first c =
    walk_no_start _ _ c.requires (sym c.is_first.ensures ∙ c.if-not-is_first.true)

pub returns-then-last-summary : goal.returns-then-last-summary
returns-then-last-summary c = walk_far _ _ (omega (arith, c.if-last-summary.true))

pub loop-summary-init : goal.loop-summary-init
unfolding word
loop-summary-init c =
    let met = c.meet-visit.ensures in (
      rw (met.before, met.chunk)
          (walking_begins _ _ c.requires (sym c.is_first.ensures ∙ c.if-not-is_first.false) c.if-last-summary.false refl
          c.first_limit-limit.ensures c.begun-tally.ensures),
      met.read,
    )

followed : (c : Then-goes_on) → Followed c.args.region.now c.args.summary c.loop-summary.visit
followed c =
    let (walking, read) = c.loop-summary.invariant in
    walk_followed _ _ c.requires read walking (sym c.goes_on.ensures ∙ c.if-goes_on.true)

pub examine-requires : goal.examine-requires
examine-requires c = followed c

pub returns-in_err-kind : goal.returns-in_err-kind
returns-in_err-kind c =
    let (walking, read) = c.loop-summary.invariant in
    rw c.from_residual.ensures
    (walk_breaks _ _ c.requires read walking (sym c.goes_on.ensures ∙ c.if-goes_on.true) c.examine.ensures c.in_err-kind.was)

pub overflow_sub-visit : goal.overflow_sub-visit
overflow_sub-visit c = omega (arith, (followed (goal.at.overflow_sub-visit c).Then-goes_on).room)

-- the walk stands at the next chunk
stands : (c : After-tallied-tally)
    → let v = c.loop-summary.visit in
    Walking c.args.region.now c.args.summary c.args.marks.now.words c.mark.new.marks c.tallied-tally.result v.chunk.0 v.next
    c.loop-summary.limit
stands c =
    let (walking, read) = c.loop-summary.invariant in
    walk_goes _ _ c.requires read walking (sym c.goes_on.ensures ∙ c.if-goes_on.true) c.examine.ensures c.in_ok-kind.was
    c.tallied-tally.ensures c.mark.ensures

pub meet-visit-requires-then-goes_on-clause-inside : goal.meet-visit-requires-then-goes_on-clause-inside
meet-visit-requires-then-goes_on-clause-inside c = walk_inside _ _ c.requires (stands c)

pub meet-visit-requires-then-goes_on-clause-eight : goal.meet-visit-requires-then-goes_on-clause-eight
meet-visit-requires-then-goes_on-clause-eight c = (stands c).eight

pub meet-visit-requires-then-goes_on-clause-behind : goal.meet-visit-requires-then-goes_on-clause-behind
meet-visit-requires-then-goes_on-clause-behind c = (stands c).behind

pub meet-visit-requires-then-goes_on-clause-within : goal.meet-visit-requires-then-goes_on-clause-within
meet-visit-requires-then-goes_on-clause-within c = walk_within _ _ c.requires (stands c)

pub loop-summary-preserved-then-goes_on : goal.loop-summary-preserved-then-goes_on
loop-summary-preserved-then-goes_on c =
    let met = c.meet-visit-then-goes_on.ensures in
    (rw (met.before, met.chunk) (stands (goal.at.loop-summary-preserved-then-goes_on c).After-tallied-tally), met.read)

pub returns-then-limit-last : goal.returns-then-limit-last
returns-then-limit-last c =
    let (walking, read) = c.loop-summary.invariant in
    walk_finish _ _ c.requires read walking refl (sym c.goes_on.ensures ∙ c.if-goes_on.false) c.if-limit-last.true c.finish.ensures

pub returns-then-chunk-limit : goal.returns-then-chunk-limit
returns-then-chunk-limit c =
    let (walking, read) = c.loop-summary.invariant in
    walk_misses _ _ c.requires read walking refl (sym c.goes_on.ensures ∙ c.if-goes_on.false) c.if-limit-last.false c.if-chunk-limit.true

pub loop-summary-preserved : goal.loop-summary-preserved
loop-summary-preserved c =
    let (walking, read) = c.loop-summary.invariant in
    (walk_turns _ _ c.requires read walking refl (sym c.goes_on.ensures ∙ c.if-goes_on.false) c.if-limit-last.false c.if-chunk-limit.false, read)
