-- `sweep::sweep_list` combs one list. Assumes nothing.
use Rattle.std.proofs.Common.{◌≡◌, ℕ, ◌+◌, ◌-◌, ◌<◌, ◌≤◌, refl, ap, arith}
use Rattle.region.specs.Words.{word}
use Rattle.sweep.specs.declared.Sizes.{Sizes}
use Rattle.sweep.proofs.SweepLaws.{Tested, not_placed, not_marked, by_words, asks_begin, asks_on, rises, combing_begins, combing_goes, torn_long, torn_here, torn_large, whole_list_lem}
use Rattle.sweep.proofs.sweep_list.Goals as goal
use Rattle.sweep.proofs.sweep_list.Goals.{After-is_listed}

-- as long as the heap bytes are not used up
some_left : {count bytes : ℕ} → count ≤ bytes → (count ≡ bytes → ⊥) → 0 < bytes - count
some_left l n = omega arith

pub loop-at-init : goal.loop-at-init
loop-at-init c =
    let sizes = c.sizes_of-sizes.ensures in
    let all : c.args.marked.bytes - 0 ≡ c.args.marked.bytes = omega arith in (
      rw all (combing_begins (ap (λ (z : Sizes). z.least) sizes.value) (rw sizes.value at sizes.least_le_most)),
      asks_begin sizes.value,
      omega arith,
    )

pub returns-then-count-marked : goal.returns-then-count-marked
returns-then-count-marked c = torn_long c.loop-at.invariant.0 (omega (arith, c.if-count-marked.true)) c.loop-at-test.true

pub returns-then-not-is_placed : goal.returns-then-not-is_placed
returns-then-not-is_placed c =
    torn_here c.loop-at.invariant.0 c.loop-at-test.true (some_left c.loop-at.invariant.2 c.if-count-marked.false)
    (not_placed c.args.marked.lent c.loop-at.at c.number_of-number.ensures c.is_placed.ensures c.if-not-is_placed.true) refl

pub returns-then-not-is_marked : goal.returns-then-not-is_marked
returns-then-not-is_marked c =
    torn_here c.loop-at.invariant.0 c.loop-at-test.true (some_left c.loop-at.invariant.2 c.if-count-marked.false)
    (not_marked c.args.marked.lent c.loop-at.at c.number_of-number.ensures c.is_placed.ensures c.if-not-is_placed.false _ c.is_marked.ensures
    c.if-not-is_marked.true) refl

-- what the three tests of a member come to
tested : (c : After-is_listed)
    → let m = c.args.marked in
    Tested m.region.now c.args.table.sizes.now c.args.bin m.bytes m.marks.now.words c.loop-at.before c.loop-at.sizes.least c.loop-at.at c.is_listed.result
tested c =
    by_words c.args.marked.lent c.loop-at.at c.number_of-number.ensures c.is_placed.ensures c.if-not-is_placed.false _ c.is_marked.ensures
    c.if-not-is_marked.false c.loop-at.invariant.1 c.is_listed.ensures.value

pub returns-then-not-is_listed : goal.returns-then-not-is_listed
returns-then-not-is_listed c =
    torn_here c.loop-at.invariant.0 c.loop-at-test.true (some_left c.loop-at.invariant.2 c.if-count-marked.false)
    (tested (goal.at.returns-then-not-is_listed c).After-is_listed) c.if-not-is_listed.true

pub loop-at-preserved : goal.loop-at-preserved
unfolding word
loop-at-preserved c =
    let (combs, asks, within) = c.loop-at.invariant in
    let says = c.is_listed.ensures in
    let up = rises _ _ _ _ says.value c.if-not-is_listed.false in
    let less : c.args.marked.bytes - (c.loop-at.count + 1) ≡ c.args.marked.bytes - c.loop-at.count - 1 = omega arith in (
      rw less
          (combing_goes combs c.loop-at-test.true (some_left c.loop-at.invariant.2 c.if-count-marked.false) (tested (goal.at.loop-at-preserved c).After-is_listed) c.if-not-is_listed.false
          c.args.table.valid c.requires asks.from up says.size_bound refl refl),
      asks_on asks _ up,
      omega (arith, within, c.if-count-marked.false),
    )

pub returns-then-sizes : goal.returns-then-sizes
returns-then-sizes c =
    let (combs, asks, _) = c.loop-at.invariant in
    torn_large combs c.loop-at-test.false (omega (arith, asks.most))

pub returns : goal.returns
returns c =
    let (combs, asks, within) = c.loop-at.invariant in
    let all : c.args.marked.bytes - (c.args.marked.bytes - c.loop-at.count) ≡ c.loop-at.count = omega arith in
    rw all at (whole_list_lem combs c.loop-at-test.false (omega (arith, asks.most)))
