-- Singly (manual 5.9; document 02, request Two): a run of f chunks is f runs of one, where all of those are accepted.
use Rattle.std.specs.Prelude.{◌≡◌, ℕ, suc, Some, None}
use Rattle.record.specs.declared.answers.Answer.TheVariants.{Told}
use Rattle.rules.specs.Statements.{Left}
use Rattle.rules.specs.Calls.{Patrol, State}
use Rattle.promises.specs.Ways.{Way}
use Rattle.promises.specs.Kept.{after}

-- runs of one chunk from a state: so many, or fewer if the end chunk was handled, with the value of the last answer and the state after it
pub data OneByOne (way : Way) : ℕ → State → ℕ → State → Type 0 where
  at_the_end : {f : ℕ} {s : State} → (way (Patrol 1) s.words s.heap).answer ≡ Told (Some 1)
      → OneByOne way (suc f) s 1 (after way (Patrol 1) s)
  last_one : {s : State} → (way (Patrol 1) s.words s.heap).answer ≡ Told (Some 0)
      → OneByOne way 1 s 0 (after way (Patrol 1) s)
  further_one : {f value : ℕ} {s t : State} → (way (Patrol 1) s.words s.heap).answer ≡ Told (Some 0)
      → OneByOne way f (after way (Patrol 1) s) value t → OneByOne way (suc f) s value t

-- what a run leaves: its answer's value, and a state
abbrev pub leaves : ℕ → State → Left
leaves value t = record { answer = Told (Some value); heap = t.heap; words = t.words }

-- the promise
abbrev pub Singly : Way → Type 0
Singly way = (f value : ℕ) (s t : State) → OneByOne way f s value t → way (Patrol f) s.words s.heap ≡ leaves value t
