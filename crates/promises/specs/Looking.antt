-- Looking (manual 5.6 to 5.8; document 01, "The check", "The calls": Merge setting, Questions): on every region and every record, a call that only asks changes
-- nothing at all, and the merge setting changes that field alone.
use Rattle.std.specs.Prelude.{◌≡◌, Bool, true, false, List, ℕ, eqb}
use Rattle.record.specs.declared.heap.Heap.{Heap}
use Rattle.record.specs.Heap.{with_merge}
use Rattle.rules.specs.Calls.{Call, Setup, Allocate, AllocateCleared, Free, Reallocate, SetMerge, Check, AskChunk, AskBin, Patrol}
use Rattle.promises.specs.Ways.{Way}
use Rattle.promises.specs.Kept.{Accepted}

-- the check, the questions and free of block 0
abbrev pub only_asks : Call → Bool
only_asks (Setup table donor merge) = false
only_asks (Allocate z) = false
only_asks (AllocateCleared count size) = false
only_asks (Free b) = eqb b 0
only_asks (Reallocate b z) = false
only_asks (SetMerge on) = false
only_asks Check = true
only_asks (AskChunk q p) = true
only_asks (AskBin q i) = true
only_asks (Patrol f) = false

-- the promise
pub record Looking (way : Way) : Type 0 where
  pub heap : (call : Call) → only_asks call ≡ true → (ws : List ℕ) (h : Heap) → (way call ws h).heap ≡ h
  pub words : (call : Call) → only_asks call ≡ true → (ws : List ℕ) (h : Heap) → (way call ws h).words ≡ ws
  -- the merge setting
  pub setting : (on : Bool) (ws : List ℕ) (h : Heap) → Accepted (way (SetMerge on) ws h).answer → (way (SetMerge on) ws h).heap ≡ with_merge h on
  pub setting_words : (on : Bool) (ws : List ℕ) (h : Heap) → (way (SetMerge on) ws h).words ≡ ws
