-- Calls as data, the step that one makes, and runs of calls (manual 5; document 01, "The calls"; document 02, request Two).
use Rattle.std.specs.Prelude.{Bool, List, [], ◌∷◌, ℕ, Some, None}
use Rattle.record.specs.declared.answers.Answer.{Answer}
use Rattle.record.specs.declared.answers.Answer.TheVariants.{Done, Granted, Returned, Told, Counted, Refused}
use Rattle.record.specs.declared.heap.Heap.{Heap}
use Rattle.region.specs.Words.{written}
use Rattle.rules.specs.Outcome.{Outcome}
use Rattle.rules.specs.Setup.{setup}
use Rattle.rules.specs.Allocate.{allocate, allocate_cleared}
use Rattle.rules.specs.Free.{free}
use Rattle.rules.specs.Reallocate.{reallocate}
use Rattle.rules.specs.Merge.{set_merge, check}
use Rattle.rules.specs.Ask.{ask_chunk, ask_bin}
use Rattle.rules.specs.Patrol.{patrol}

-- the ten calls with their arguments
pub data Call : Type 0 where
  -- table, donor size, merge setting
  Setup : List ℕ → ℕ → Bool → Call
  Allocate : ℕ → Call
  -- count, element size
  AllocateCleared : ℕ → ℕ → Call
  Free : ℕ → Call
  -- block, size
  Reallocate : ℕ → ℕ → Call
  SetMerge : Bool → Call
  Check : Call
  -- question, place
  AskChunk : ℕ → ℕ → Call
  -- question, bin
  AskBin : ℕ → ℕ → Call
  -- chunks of the run
  Patrol : ℕ → Call

-- the outcome of a call on a region and a record
unfoldable pub step : Call → List ℕ → Heap → Outcome
step (Setup table donor merge) ws h = setup ws table donor merge
step (Allocate z) ws h = allocate ws h z
step (AllocateCleared count size) ws h = allocate_cleared ws h count size
step (Free b) ws h = free ws h b
step (Reallocate b z) ws h = reallocate ws h b z
step (SetMerge on) ws h = set_merge ws h on
step Check ws h = check ws h
step (AskChunk q p) ws h = ask_chunk ws h q p
step (AskBin q i) ws h = ask_bin ws h q i
step (Patrol chunks) ws h = patrol ws h chunks

-- a region with a record
pub record State : Type 0 where
  pub words : List ℕ
  pub heap : Heap

-- the record for the next call: after a refusal the one before, since a refused setup gives an empty one
abbrev pub record_after : Heap → Heap → Answer → Heap
record_after before after Done = after
record_after before after (Granted b c) = after
record_after before after (Returned c) = after
record_after before after (Told v) = after
record_after before after (Counted c) = after
record_after before after (Refused r) = before

-- the state that a call leaves for the next one
unfoldable pub next : Call → State → State
next call s =
    let o = step call s.words s.heap in
    record {
      words = written s.words o.stores;
      heap = record_after s.heap o.heap o.answer;
    }

-- the state after a run of calls
abbrev pub run : List Call → State → State
run [] s = s
run (call ∷ calls) s = run calls (next call s)
