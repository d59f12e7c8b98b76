-- Fields (manual 3.4; document 01, "The bin table and the record"; document 02, request Two: the patrol's place): what calls leave as it is in the record. On
-- every region and every record no call but setup changes the heap bytes or the table, and none but setup and the merge setting that setting. On a
-- heap that passes, every call but setup and the patrol leaves the patrol's place at the chunk in which it lies then.
use Rattle.std.specs.Prelude.{◌≡◌, Bool, true, false, List, ℕ, ◌≤◌, ◌<◌}
use Rattle.record.specs.declared.heap.Heap.{Heap}
use Rattle.rules.specs.Shape.{Entry, chunk_end}
use Rattle.rules.specs.Check.{Passes}
use Rattle.rules.specs.Calls.{Call, Setup, Allocate, AllocateCleared, Free, Reallocate, SetMerge, Check, AskChunk, AskBin, Patrol}
use Rattle.promises.specs.Ways.{Way}
use Rattle.promises.specs.Room.{OnChain}
use Rattle.promises.specs.Refusing.{is_setup}

-- setup and the merge setting set it
abbrev pub sets_merging : Call → Bool
sets_merging (Setup table donor merge) = true
sets_merging (Allocate z) = false
sets_merging (AllocateCleared count size) = false
sets_merging (Free b) = false
sets_merging (Reallocate b z) = false
sets_merging (SetMerge on) = true
sets_merging Check = false
sets_merging (AskChunk q p) = false
sets_merging (AskBin q i) = false
sets_merging (Patrol f) = false

-- setup and the patrol move it on
abbrev pub moves_patrol : Call → Bool
moves_patrol (Setup table donor merge) = true
moves_patrol (Allocate z) = false
moves_patrol (AllocateCleared count size) = false
moves_patrol (Free b) = false
moves_patrol (Reallocate b z) = false
moves_patrol (SetMerge on) = false
moves_patrol Check = false
moves_patrol (AskChunk q p) = false
moves_patrol (AskBin q i) = false
moves_patrol (Patrol f) = true

-- the promise
pub record Fields (way : Way) : Type 0 where
  pub bytes : (call : Call) → is_setup call ≡ false → (ws : List ℕ) (h : Heap) → (way call ws h).heap.bytes ≡ h.bytes
  pub bins : (call : Call) → is_setup call ≡ false → (ws : List ℕ) (h : Heap) → (way call ws h).heap.bins ≡ h.bins
  pub sizes : (call : Call) → is_setup call ≡ false → (ws : List ℕ) (h : Heap) → (way call ws h).heap.sizes ≡ h.sizes
  pub merge : (call : Call) → sets_merging call ≡ false → (ws : List ℕ) (h : Heap) → (way call ws h).heap.merge ≡ h.merge
  -- e is the chunk of the chain afterwards in which the place lies. It is another place than before only if a joining swallowed it
  pub patrol : (call : Call) → moves_patrol call ≡ false → (ws : List ℕ) (h : Heap) → Passes ws h
      → let left = way call ws h in
      (e : Entry) → OnChain left.words left.heap e → e.place ≤ h.patrol.0 → h.patrol.0 < chunk_end e → left.heap.patrol.0 ≡ e.place
