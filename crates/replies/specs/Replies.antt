-- What a call returns, as the code builds it. It mirrors the code; the rules say what a call leaves.
use Rattle.std.specs.Prelude.{cond, List, Result, Ok, Err, ℕ, ltb, ℤ, pos, ◌-ℤ◌}
use Rattle.books.specs.Books.{Books}
use Rattle.record.specs.declared.answers.Answer.{Answer}
use Rattle.record.specs.declared.answers.Answer.TheVariants.{Refused}
use Rattle.record.specs.declared.answers.Refusal.{Refusal}
use Rattle.record.specs.declared.answers.Reply.{Reply}
use Rattle.record.specs.declared.heap.Heap.{Heap}
use Rattle.record.specs.declared.heap.Summary.{Summary}
use Rattle.record.specs.Heap.{with_ends, with_summary}
use Rattle.replies.specs.declared.Answered.{Answered}
use Rattle.rules.specs.Statements.{Left}

abbrev pub reply : Heap → Answer → Reply
reply h a = record { answer = a; heap = h }

abbrev pub refused_reply : Heap → Refusal → Reply
refused_reply h why = reply h (Refused why)

-- the change as the machine has it: of sizes that no chunk has, 0
unfoldable pub change_m : ℕ → ℕ → ℤ
change_m before after = cond (ltb 65536 before) (pos 0) (cond (ltb 65536 after) (pos 0) (pos after -ℤ pos before))

abbrev pub left : Answer → Heap → List ℕ → Left
left a h ws = record { answer = a; heap = h; words = ws }

-- the books, with what a function that was lent them hands back: what it answers, or why it refuses
pub record Concluded : Type 0 where
  pub books : Books
  pub answered : Result Answered Refusal

abbrev pub concluded : Books → Result Answered Refusal → Concluded
concluded b a = record { books = b; answered = a }

abbrev pub answered : Answer → Summary → Answered
answered a s = record { answer = a; summary = s }

-- what a call leaves that sets its record so
abbrev pub recorded : Heap → Concluded → Left
recorded h c =
    elim c.answered [
      | Ok a ↦ left a.answer (with_ends (with_summary h a.summary) c.books.heads c.books.tails) c.books.words
      | Err why ↦ left (Refused why) h c.books.words
    ]
