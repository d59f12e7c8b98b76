-- A full patrol (manual 9; document 02, request Two): runs of f chunks each, none of them refused, up to the one that handles the end chunk.
use Rattle.std.specs.Prelude.{◌≡◌, ℕ, Some, None}
use Rattle.record.specs.declared.answers.Answer.TheVariants.{Told}
use Rattle.rules.specs.Calls.{Patrol, State}
use Rattle.promises.specs.Ways.{Way}
use Rattle.promises.specs.Kept.{after}

-- from the first state it leads to the second
pub data FullPatrol (way : Way) (f : ℕ) : State → State → Type 0 where
  last_run : {s : State} → (way (Patrol f) s.words s.heap).answer ≡ Told (Some 1) → FullPatrol way f s (after way (Patrol f) s)
  further_run : {s t : State} → (way (Patrol f) s.words s.heap).answer ≡ Told (Some 0)
      → FullPatrol way f (after way (Patrol f) s) t → FullPatrol way f s t
