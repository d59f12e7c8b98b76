-- The rules keep the promise `Answering` (`answering`): an accepted call answers in its own form, and the patrol's value is 0 or 1. Assumes nothing.
use mathlib.Core.Path.{◌≡◌, refl, ap}
use mathlib.Core.Bool.{Bool, true, false, cond}
use mathlib.Core.List.{List, [], ◌∷◌}
use Rattle.std.specs.Prelude.{Option, Some, None}
use Prim.Native.Nat.{ℕ, ◌*◌, ◌-◌, ◌≤◌}
use native.Mathlib.Omega.{arith}
use lib.Dec.{eqb, ltb}
use lib.ListN.{length, get_or}
use Rattle.record.specs.declared.answers.Answer.{Answer}
use Rattle.record.specs.declared.answers.Answer.TheVariants.{Done, Told, Counted, Refused}
use Rattle.record.specs.declared.answers.Refusal.TheVariants.{HeapFails}
use Rattle.record.specs.declared.heap.Heap.{Heap}
use Rattle.record.specs.Heap.{empty, with_merge}
use Rattle.region.specs.Words.{Store}
use Rattle.rules.specs.Shape.{Entry, shape, heap_bytes}
use Rattle.rules.specs.Check.{passes, counts_of}
use Rattle.rules.specs.Draft.{as_read}
use Rattle.rules.specs.Outcome.{Outcome, Refusals, judged, heap_fails, unchanged}
use Rattle.rules.specs.Setup.{setup, setup_refusals, opened}
use Rattle.rules.specs.Allocate.{as_found, cleared, allocate_with, allocate, allocate_cleared, allocate_refusals, allocated}
use Rattle.rules.specs.Free.{free, free_refusals, freed}
use Rattle.rules.specs.Reallocate.{resize, reallocate, resize_refusals, resized_to}
use Rattle.rules.specs.Merge.{set_merge, checked, check}
use Rattle.rules.specs.Ask.{ask_chunk, ask_bin, chunk_answers, asked_spot, is_there, bin_answers, ask_refusals, asked}
use Rattle.rules.specs.Patrol.{Patrolled, patrol_run, patrol_refusals, ran, patrol}
use Rattle.rules.specs.Calls.{Call, Setup, Allocate, AllocateCleared, Free, Reallocate, SetMerge, Check, AskChunk, AskBin, Patrol, step}
use Rattle.rules.proofs.OutcomeLaws.{judged_so}
use Rattle.promises.specs.Ways.{ours}
use Rattle.promises.specs.Kept.{Accepted}
use Rattle.promises.specs.Answering.{Form, JustDone, ABlock, AChange, AValue, FourCounts, form_of, form_for, Answering}

-- an accepted answer has the property P
abbrev IfAccepted : (Answer → Type 0) → Answer → Type 0
IfAccepted P a = Accepted a → P a

-- so it is where a list of tests stands before an answer that has it
judged_answers : (P : Answer → Type 0) (h : Heap) (o : Outcome) (ts : Refusals) → P o.answer → IfAccepted P (judged h ts o).answer
judged_answers P h o ts q = judged_so (λ x. IfAccepted P x.answer) h o ts (λ r a. absurd (a r refl)) (λ _ a. q)

-- the answer has this form
abbrev HasForm : Form → Answer → Type 0
HasForm f a = form_of a ≡ f

-- the patrol's value
abbrev ZeroOrOne : Answer → Type 0
ZeroOrOne a = (v : ℕ) × (a ≡ Told (Some v)) × (v ≤ 1)

ran_handled : (h : Heap) (o : Option Patrolled) → ZeroOrOne (ran h o).answer
ran_handled h None = (0, refl, omega arith)
ran_handled h (Some r) = go r.ended
  where
    go : (t : Bool) → ZeroOrOne (Told (Some (cond t 1 0)))
    go true = (1, refl, omega arith)
    go false = (0, refl, omega arith)

patrol_handled : (f : ℕ) (ws : List ℕ) (h : Heap) → IfAccepted ZeroOrOne (patrol ws h f).answer
unfolding patrol
patrol_handled f ws h = judged_answers ZeroOrOne h (ran h (patrol_run ws h f)) (patrol_refusals ws h f) (ran_handled h (patrol_run ws h f))

-- each call
with_form : (fill : Entry → List Store) (z : ℕ) (ws : List ℕ) (h : Heap) → IfAccepted (HasForm ABlock) (allocate_with fill ws h z).answer
with_form fill z ws h =
    judged_answers (HasForm ABlock) h (allocated fill (as_read ws h) z) (allocate_refusals (heap_fails ws h) (as_read ws h) z) refl

allocate_form : (z : ℕ) (ws : List ℕ) (h : Heap) → IfAccepted (HasForm ABlock) (allocate ws h z).answer
unfolding allocate
allocate_form = with_form as_found

resize_form : (b z : ℕ) (ws : List ℕ) (h : Heap) → IfAccepted (HasForm ABlock) (resize ws h b z).answer
unfolding resize
resize_form b z ws h =
    judged_answers (HasForm ABlock) h (resized_to ws (as_read ws h) b z) (resize_refusals (heap_fails ws h) (as_read ws h) b z) refl

reallocate_form : (b z : ℕ) (ws : List ℕ) (h : Heap) → IfAccepted (HasForm ABlock) (reallocate ws h b z).answer
unfolding reallocate
reallocate_form b z ws h = go (eqb b 0)
  where
    go : (t : Bool) → IfAccepted (HasForm ABlock) (cond t (allocate ws h z) (resize ws h b z)).answer
    go true = allocate_form z ws h
    go false = resize_form b z ws h

check_form : (ws : List ℕ) (h : Heap) → IfAccepted (HasForm FourCounts) (checked ws h)
unfolding checked
check_form ws h = go (passes ws h)
  where
    go : (t : Bool) → IfAccepted (HasForm FourCounts) (cond t (Counted (counts_of h (shape ws h.bytes))) (Refused HeapFails))
    go true a = refl
    go false a = absurd (a HeapFails refl)

question_form : (ws : List ℕ) (h : Heap) (q : ℕ) (answers : List (Option ℕ)) (there : Bool)
    → IfAccepted (HasForm AValue) (judged h (ask_refusals (heap_fails ws h) q answers there) (asked h q answers)).answer
question_form ws h q answers there =
    judged_answers (HasForm AValue) h (asked h q answers) (ask_refusals (heap_fails ws h) q answers there) refl

forms : (call : Call) (ws : List ℕ) (h : Heap) → IfAccepted (HasForm (form_for call)) (step call ws h).answer
unfolding step setup allocate_cleared free set_merge check ask_chunk ask_bin
forms (Setup table donor merge) ws h =
    judged_answers (HasForm JustDone) empty (opened (heap_bytes (length ws)) table donor merge) (setup_refusals ws table donor) refl
forms (Allocate z) ws h = allocate_form z ws h
forms (AllocateCleared count size) ws h = with_form cleared (count * size) ws h
forms (Free b) ws h =
    judged_answers (HasForm AChange) h (freed (as_read ws h) b) (free_refusals (heap_fails ws h) (as_read ws h) b) refl
forms (Reallocate b z) ws h = reallocate_form b z ws h
forms (SetMerge on) ws h = judged_answers (HasForm JustDone) h (unchanged (with_merge h on) Done) (heap_fails ws h ∷ []) refl
forms Check ws h = check_form ws h
forms (AskChunk q p) ws h =
    let d = as_read ws h in
    question_form ws h q (chunk_answers d (asked_spot d q p)) (is_there d q p)
forms (AskBin q i) ws h = question_form ws h q (bin_answers ((as_read ws h).lists i)) (ltb i h.bins)
forms (Patrol f) ws h = λ a. let (v, q, _) = patrol_handled f ws h a in ap form_of q

pub answering : Answering ours
unfolding ours step
answering = record { form = forms; handled = patrol_handled }
