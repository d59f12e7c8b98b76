-- Runs (demand 3 speaks of every run that begins with an accepted setup): each state of such a run passes the check,
-- so the promises about heaps that pass hold there, as long as nothing but live blocks is written between the calls.
use Rattle.std.specs.Prelude.{◌≡◌, ◌↔◌, Bool, List, [], ◌∷◌, ℕ}
use Rattle.record.specs.declared.answers.Answer.TheVariants.{Refused}
use Rattle.record.specs.declared.answers.Refusal.{Refusal}
use Rattle.region.specs.Words.{Store}
use Rattle.rules.specs.Calls.{Call, Setup, State}
use Rattle.promises.specs.Ways.{Way}
use Rattle.promises.specs.Room.{RoomAt}
use Rattle.promises.specs.Choice.{ChoiceAt}
use Rattle.promises.specs.BestFit.{BestFitAt}
use Rattle.promises.specs.Apart.{ApartAt}
use Rattle.promises.specs.Refusing.{First}
use Rattle.promises.specs.Kept.{Passing, Accepted, after, OnLiveBlocks, after_stores}
use Rattle.promises.specs.Order.{OrderAt}
use Rattle.promises.specs.Splitting.{SplittingAt}
use Rattle.promises.specs.AsFound.{AsFoundAt}
use Rattle.promises.specs.Coalescing.{CoalescingAt}
use Rattle.promises.specs.Moves.{MovesAt}

-- a step of a run: a call, or writes by the owners of blocks between two calls
pub data Step : Type 0 where
  Calls : Call → Step
  Writes : List Store → Step

-- the state that a step leaves
abbrev pub after_step : Way → Step → State → State
after_step way (Calls call) s = after way call s
after_step way (Writes ss) s = after_stores ss s

-- the precondition of a step: none for a call, setup too; writes are inside blocks that are live at the time
abbrev pub MayStep : Step → State → Type 0
MayStep (Calls call) s = Unit {0}
MayStep (Writes ss) s = OnLiveBlocks s ss

-- a run from s on, each of whose steps meets its precondition
abbrev pub IsRun : Way → List Step → State → Type 0
IsRun way [] s = Unit {0}
IsRun way (x ∷ xs) s = MayStep x s × IsRun way xs (after_step way x s)

-- P holds in each state of a run, the first and the last included
abbrev pub Along : Way → (State → Type 0) → List Step → State → Type 0
Along way P [] s = P s
Along way P (x ∷ xs) s = P s × Along way P xs (after_step way x s)

-- s is what an accepted setup left, on any region and with any record before
pub record Begins (way : Way) (s : State) : Type 0 where
  pub table : List ℕ
  pub donor : ℕ
  pub merge : Bool
  pub before : State
  pub accepted : Accepted (way (Setup table donor merge) before.words before.heap).answer
  pub words : s.words ≡ (way (Setup table donor merge) before.words before.heap).words
  pub heap : s.heap ≡ (way (Setup table donor merge) before.words before.heap).heap

-- P holds in each state of every run
abbrev pub ThroughRuns : Way → (State → Type 0) → Type 0
ThroughRuns way P = (s : State) → Begins way s → (xs : List Step) → IsRun way xs s → Along way P xs s

-- the promise
pub record Runs (way : Way) : Type 0 where
  -- each state passes
  pub passes : ThroughRuns way Passing
  -- a refusal is given exactly for the first reason that holds (`Refusing`)
  pub refused : ThroughRuns way (λ s.
      (call : Call) (r : Refusal) → ((way call s.words s.heap).answer ≡ Refused r) ↔ First s.words s.heap call r)
  -- a request is refused for lack of room exactly when no chunk can serve it (`Room`)
  pub room : ThroughRuns way (λ s. RoomAt way s.words s.heap)
  -- live blocks stay apart and keep their words (`Apart`)
  pub apart : ThroughRuns way (λ s. ApartAt way s.words s.heap)
  -- a block comes from a chunk that is tried first among those that can serve (`Choice`)
  pub choice : ThroughRuns way (λ s. ChoiceAt way s.words s.heap)
  -- a block from a bin comes from a smallest ordinary chunk that can serve (`BestFit`)
  pub best_fit : ThroughRuns way (λ s. BestFitAt way s.words s.heap)
  -- the lists of the bins are in order of size (`Order`)
  pub order : ThroughRuns way (OrderAt way)
  -- a call grants no more than is needed (`Splitting`)
  pub splitting : ThroughRuns way (λ s. SplittingAt way s.words s.heap)
  -- a granted block's words are as they were found (`AsFound`)
  pub as_found : ThroughRuns way (λ s. AsFoundAt way s.words s.heap)
  -- what joins when a chunk is given back (`Coalescing`)
  pub coalescing : ThroughRuns way (λ s. CoalescingAt way s.words s.heap)
  -- a block that outgrows its chunk moves as an allocate and then a free do it (`Moves`)
  pub moves : ThroughRuns way (λ s. MovesAt way s.words s.heap)
