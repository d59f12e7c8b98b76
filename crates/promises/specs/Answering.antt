-- Answering (manual 5; document 01, "The calls", "The check"): an accepted call answers in its own form, on every region and every record. So no
-- call that should grant a block answers that it is done.
use Rattle.std.specs.Prelude.{◌≡◌, List, ℕ, ◌≤◌, Some, None}
use Rattle.record.specs.declared.answers.Answer.{Answer}
use Rattle.record.specs.declared.answers.Answer.TheVariants.{Done, Granted, Returned, Told, Counted, Refused}
use Rattle.record.specs.declared.heap.Heap.{Heap}
use Rattle.rules.specs.Calls.{Call, Setup, Allocate, AllocateCleared, Free, Reallocate, SetMerge, Check, AskChunk, AskBin, Patrol}
use Rattle.promises.specs.Ways.{Way}
use Rattle.promises.specs.Kept.{Accepted}

-- the forms of an answer: nothing but that it is done; a block with the change in used bytes; the change alone; a value or none; the four counts;
-- a refusal
pub data Form : Type 0 where
  JustDone : Form
  ABlock : Form
  AChange : Form
  AValue : Form
  FourCounts : Form
  ARefusal : Form

abbrev pub form_of : Answer → Form
form_of Done = JustDone
form_of (Granted block change) = ABlock
form_of (Returned change) = AChange
form_of (Told value) = AValue
form_of (Counted counts) = FourCounts
form_of (Refused refusal) = ARefusal

-- the form in which each call answers
abbrev pub form_for : Call → Form
form_for (Setup table donor merge) = JustDone
form_for (Allocate z) = ABlock
form_for (AllocateCleared count size) = ABlock
form_for (Free b) = AChange
form_for (Reallocate b z) = ABlock
form_for (SetMerge on) = JustDone
form_for Check = FourCounts
form_for (AskChunk q p) = AValue
form_for (AskBin q i) = AValue
form_for (Patrol f) = AValue

-- the promise
pub record Answering (way : Way) : Type 0 where
  pub form : (call : Call) (ws : List ℕ) (h : Heap) → Accepted (way call ws h).answer → form_of (way call ws h).answer ≡ form_for call
  -- the patrol's value says whether the end chunk was handled: 1 or 0, and never none
  pub handled : (f : ℕ) (ws : List ℕ) (h : Heap) → Accepted (way (Patrol f) ws h).answer
      → (v : ℕ) × ((way (Patrol f) ws h).answer ≡ Told (Some v)) × (v ≤ 1)
