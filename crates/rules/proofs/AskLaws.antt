-- A question that is answered is not refused; what it is answered on a heap that passes; the last of a list that is known by its end.
-- Assumes nothing.
use mathlib.Core.Path.{◌≡◌, refl, ap}
use mathlib.Core.Bool.{Bool, true, false, not, cond, false≢true}
use mathlib.Core.List.{List, [], ◌∷◌, ◌++◌}
use Rattle.std.specs.Prelude.{Option, Some, None}
use Prim.Native.Nat.{ℕ, ◌-◌}
use lib.ListN.{get_or}
use Rattle.lists.proofs.MembersLaws.{last_append}
use Rattle.record.specs.declared.answers.Answer.{Answer}
use Rattle.record.specs.declared.answers.Answer.TheVariants.{Refused}
use Rattle.record.specs.declared.answers.Refusal.TheVariants.{HeapFails, NotThere}
use Rattle.record.specs.declared.heap.Heap.{Heap}
use Rattle.record.specs.Answers.{figures_of}
use Rattle.record.specs.declared.answers.Answer.TheVariants.{Told}
use Rattle.rules.specs.Ask.{last_in, answer_to}
use Rattle.rules.specs.Outcome.{judged, unchanged}

told_accepted : (v : Option ℕ) → (figures_of (Told v)).refusal ≡ 0
told_accepted (Some v) = refl
told_accepted None = refl

pub answer_accepted : (q : ℕ) (answers : List (Option ℕ)) → (figures_of (answer_to q answers)).refusal ≡ 0
answer_accepted q answers = told_accepted (get_or answers (q - 1) None)

-- of a heap that passes only the question itself is refused
pub question_answer : (h : Heap) (t u : Bool) (a : Answer) → t ≡ true
    → (judged h ((not t, HeapFails) ∷ (u, NotThere) ∷ []) (unchanged h a)).answer ≡ cond u (Refused NotThere) a
question_answer h true true a e = refl
question_answer h true false a e = refl
question_answer h false u a e = absurd (false≢true e)

pub last_in_lem : (xs : List ℕ) (c : ℕ) → last_in (xs ++ c ∷ []) ≡ Some c
last_in_lem [] c = refl
last_in_lem (x ∷ xs) c = ap Some (last_append x xs (c ∷ []))
