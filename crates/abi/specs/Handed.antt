-- What a call leaves to C: the number that it returns, the answer's words, the record's and the region's.
use Rattle.std.specs.Prelude.{ℕ, cond, List, eqb, leb, get_or, set}
use Rattle.record.specs.declared.answers.Answer.{Answer}
use Rattle.record.specs.declared.answers.Answer.TheVariants.{Refused}
use Rattle.record.specs.declared.answers.Refusal.TheVariants.{HeapFails}
use Rattle.record.specs.declared.heap.Heap.{Heap}
use Rattle.rules.specs.Outcome.{Outcome}
use Rattle.rules.specs.Statements.{Left, left_by}
use Rattle.abi.specs.Flat.{merge_place, patrol_place, record_out, answer_out, refusal_out}

pub record Handed : Type 0 where
  pub refusal : ℕ
  pub answer : List ℕ
  pub flat : List ℕ
  pub region : List ℕ

abbrev pub handed : ℕ → List ℕ → List ℕ → List ℕ → Handed
handed r five rs ws = record { refusal = r; answer = five; flat = rs; region = ws }

-- an answer, with the words of the record and of the region that go with it
abbrev pub answering : Answer → List ℕ → List ℕ → Handed
answering a rs ws = handed (refusal_out a) (answer_out a) rs ws

-- the record's words afterwards: the new record's where the call is accepted, and untouched where it is refused
unfoldable pub flat_after : List ℕ → Answer → Heap → List ℕ
flat_after rs a h = cond (eqb (refusal_out a) 0) (record_out h) rs

-- an outcome of a call on the region ws and the record's words rs; a merge word above 1 is a damaged record,
-- which is refused as a heap that fails
unfoldable pub handed_by : List ℕ → List ℕ → Outcome → Handed
handed_by ws rs o =
    let l : Left = left_by ws o in
    cond (leb (get_or rs merge_place 0) 1)
    (answering l.answer (flat_after rs l.answer l.heap) l.words)
    (answering (Refused HeapFails) rs ws)

-- an outcome of setup, which reads no record and always leaves one
unfoldable pub opened_by : List ℕ → Outcome → Handed
opened_by ws o = let l : Left = left_by ws o in answering l.answer (record_out l.heap) l.words

-- an outcome of the patrol, which looks at no merge word; of the record's words its place alone changes
unfoldable pub patrolled_by : List ℕ → List ℕ → Outcome → Handed
patrolled_by ws rs o =
    let l : Left = left_by ws o in
    answering l.answer (set rs patrol_place l.heap.patrol.0) l.words
