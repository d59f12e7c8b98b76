-- Wrong ways of answering that change what they should leave, or answer what is not so: each breaks `Answering`, `Balanced` or `Looking`, shown on
-- heaps of the demonstration's setup. Assumes nothing.
use mathlib.Core.Path.{◌≡◌, refl, sym, ap, ◌∙◌}
use mathlib.Core.Bool.{true, false, false≢true}
use mathlib.Core.List.{[], ◌∷◌}
use Prim.Native.Nat.{ℕ}
use native.Mathlib.Omega.{arith}
use lib.IntN.{ℤ, pos, nat_abs}
use lib.ListN.{get_or}
use Rattle.record.specs.declared.heap.Heap.{Heap}
use Rattle.record.specs.Answers.{figures_of}
use Rattle.rules.specs.Calls.{Allocate, Free, SetMerge, Check, AskBin, State}
use Rattle.rules.proofs.CasesLaws.{computes}
use Rattle.promises.specs.Ways.{ours}
use Rattle.promises.specs.Answering.{JustDone, ABlock, Answering}
use Rattle.promises.specs.Balanced.{Balanced}
use Rattle.promises.specs.Looking.{Looking}
use Rattle.promises.specs.Wrong.{says_done, invented_change, rewriting_check, rewriting_question, idle_setting}
use Rattle.promises.proofs.JudgedLaws.{accepts}
use Rattle.promises.proofs.WrongLaws.{heap_after}

-- the fresh heap
abbrev pub opened : State
opened = heap_after []

-- 22: allocate answers that it is done
pub answering_refutes_saying_done : Answering says_done → ⊥
answering_refutes_saying_done promised =
    let same : JustDone ≡ ABlock = promised.form (Allocate 16) opened.words opened.heap (accepts refl) in
    let z : ◌≡◌ {A = ℕ} 0 1 = cc in
    omega arith

-- 23: the same change each time, whichever change: 16 bytes take 24, and 40 bytes take 48
change_of_lem : (d : ℤ) → Balanced (invented_change d) → (d ≡ pos 24) × (d ≡ pos 48)
unfolding computes ours
change_of_lem d promised = (
  promised (Allocate 16) refl opened.words opened.heap,
  promised (Allocate 40) refl opened.words opened.heap,
)

pub balanced_refutes_inventing_a_change : (d : ℤ) → Balanced (invented_change d) → ⊥
balanced_refutes_inventing_a_change d promised =
    let (few, many) = change_of_lem d promised in
    omega (arith, ap nat_abs (sym few ∙ many))

-- bin 0 has two chunks, at 120 and at 72
abbrev two_free : State
two_free = heap_after (Allocate 16 ∷ Allocate 16 ∷ Allocate 16 ∷ Allocate 16 ∷ Allocate 16 ∷ Free 80 ∷ Free 128 ∷ [])

-- the head of bin 0
abbrev head_of : Heap → ℕ
head_of h = get_or h.heads 0 0

head_is : head_of two_free.heap ≡ 120
unfolding computes
head_is = refl

-- 34: the check puts the first last
check_turns : head_of (rewriting_check Check two_free.words two_free.heap).heap ≡ 72
unfolding computes ours
check_turns = refl

pub looking_refutes_a_rewriting_check : Looking rewriting_check → ⊥
looking_refutes_a_rewriting_check promised =
    let same = ap head_of (promised.heap Check refl two_free.words two_free.heap) in
    omega (arith, head_is, check_turns)

-- 35: a question about a bin does
question_turns : head_of (rewriting_question (AskBin 1 0) two_free.words two_free.heap).heap ≡ 72
unfolding computes ours
question_turns = refl

pub looking_refutes_a_rewriting_question : Looking rewriting_question → ⊥
looking_refutes_a_rewriting_question promised =
    let same = ap head_of (promised.heap (AskBin 1 0) refl two_free.words two_free.heap) in
    omega (arith, head_is, question_turns)

-- 36: merging is on, and stays on
setting_accepted : (figures_of (idle_setting (SetMerge false) opened.words opened.heap).answer).refusal ≡ 0
unfolding computes ours
setting_accepted = refl

pub is_on : opened.heap.merge ≡ true
unfolding computes
is_on = refl

pub looking_refutes_an_idle_setting : Looking idle_setting → ⊥
looking_refutes_an_idle_setting promised =
    let set = promised.setting false opened.words opened.heap (accepts setting_accepted) in
    false≢true (sym (ap (λ (h : Heap). h.merge) set) ∙ is_on)
