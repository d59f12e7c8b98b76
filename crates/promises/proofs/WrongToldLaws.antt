-- Each of the three wrong ways of the questions breaks a promise, shown on the smallest heap, of 10 words: at its start chunk, which is at 0,
-- and at the chunk above. What breaks `Zero` breaks `Telling` too, from which it follows. Assumes nothing.
use Rattle.std.specs.Prelude.{Some, None}
use mathlib.Core.Path.{◌≡◌, sym, ap, ◌∙◌}
use mathlib.Core.Bool.{false≢true}
use Prim.Native.Nat.{ℕ}
use native.Mathlib.Omega.{arith}
use Rattle.lists.specs.Lists.{head_or}
use Rattle.record.specs.declared.answers.Answer.{Answer}
use Rattle.record.specs.declared.answers.Answer.TheVariants.{Told}
use Rattle.record.specs.Answers.{figures_of}
use Rattle.rules.specs.Shape.{Entry, shape}
use Rattle.rules.specs.Kinds.{outside}
use Rattle.rules.proofs.SpotLaws.{ends}
use Rattle.promises.specs.Ways.{Way, ours}
use Rattle.promises.specs.Telling.{Telling}
use Rattle.promises.specs.Zero.{ZeroAt, Zero}
use Rattle.promises.specs.Wrong.{retold, zero_if_none, none_if_zero, zero_for_none, none_for_zero, always_zero}
use Rattle.promises.proofs.TellingLaws.{telling}
use Rattle.promises.proofs.ZeroLaws.{zero}
use Rattle.promises.proofs.WrongPatrolLaws.{smallest, smallest_passes}

-- what a way that keeps `Zero` tells of the smallest heap
on_smallest : (way : Way) → Zero way → ZeroAt way smallest.words smallest.heap
on_smallest way promised = promised smallest.words smallest.heap smallest_passes

-- a value is not none
not_none : (v : ℕ) → Told (Some v) ≡ Told None → ⊥
not_none v e = false≢true (ap (λ (a : Answer). (figures_of a).is_none) e)

-- 10: the start's previous is none, and 0 is told
pub zero_refutes_zero_for_none : Zero zero_for_none → ⊥
zero_refutes_zero_for_none promised =
    not_none 0 (sym (ap (retold zero_if_none) (on_smallest ours zero).of_start) ∙ (on_smallest zero_for_none promised).of_start)

-- 11: the previous of the chunk above it is the start, at 0, and none is told
pub zero_refutes_none_for_zero : Zero none_for_zero → ⊥
zero_refutes_none_for_zero promised =
    not_none 0 (sym (on_smallest none_for_zero promised).above_start ∙ ap (retold none_if_zero) (on_smallest ours zero).above_start)

-- 12: the size of the start is 8, and 0 is told
abbrev start : Entry
start = head_or outside (shape smallest.words smallest.heap.bytes)

pub telling_refutes_always_zero : Telling always_zero → ⊥
telling_refutes_always_zero promised =
    let n = ends smallest.words smallest.heap smallest_passes in
    let right = (promised smallest.words smallest.heap smallest_passes).size start n.start in
    let told = ap (retold (λ v. Told (Some 0))) ((telling smallest.words smallest.heap smallest_passes).size start n.start) in
    let same = ap (λ (a : Answer). (figures_of a).value) (sym told ∙ right) in
    omega (arith, n.start_size)
