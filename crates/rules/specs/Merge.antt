-- The merge setting and the check as calls (manual 5.6, 5.7; document 01, "The calls", "The check"); refusal 4.
use Rattle.std.specs.Prelude.{Bool, cond, List, [], ◌∷◌, ℕ}
use Rattle.record.specs.declared.answers.Answer.{Answer}
use Rattle.record.specs.declared.answers.Answer.TheVariants.{Done, Counted, Refused}
use Rattle.record.specs.declared.answers.Refusal.TheVariants.{HeapFails}
use Rattle.record.specs.declared.heap.Heap.{Heap}
use Rattle.record.specs.Heap.{with_merge}
use Rattle.rules.specs.Shape.{shape}
use Rattle.rules.specs.Check.{passes, counts_of}
use Rattle.rules.specs.Outcome.{Outcome, judged, heap_fails, unchanged}

-- sets the field and changes nothing else
unfoldable pub set_merge : List ℕ → Heap → Bool → Outcome
set_merge ws h on = judged h (heap_fails ws h ∷ []) (unchanged (with_merge h on) Done)

-- the check's answer: the four counts, or refusal 4
unfoldable pub checked : List ℕ → Heap → Answer
checked ws h = cond (passes ws h) (Counted (counts_of h (shape ws h.bytes))) (Refused HeapFails)

-- the check as a call, which changes nothing
unfoldable pub check : List ℕ → Heap → Outcome
check ws h = unchanged h (checked ws h)
