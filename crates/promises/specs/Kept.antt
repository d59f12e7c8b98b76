-- Kept (manual 4; document 01, "The check"; demand 3 speaks of every heap that a run leads to): the check is an invariant. An accepted setup makes
-- a heap that passes, and every call and every write into a live block leaves one that passes.
use Rattle.std.specs.Prelude.{◌≡◌, Bool, true, List, [], ◌∷◌, ℕ, ◌+◌, ◌/◌, ◌≤◌, ◌<◌}
use Rattle.record.specs.declared.answers.Answer.{Answer}
use Rattle.record.specs.declared.answers.Answer.TheVariants.{Refused}
use Rattle.record.specs.declared.answers.Refusal.{Refusal}
use Rattle.record.specs.declared.heap.Heap.{Heap}
use Rattle.region.specs.Words.{Store, written}
use Rattle.rules.specs.Shape.{Entry}
use Rattle.rules.specs.Kinds.{live, block_of, block_end}
use Rattle.rules.specs.Check.{Passes}
use Rattle.rules.specs.Calls.{Call, Setup, State, record_after}
use Rattle.promises.specs.Ways.{Way}
use Rattle.promises.specs.Room.{OnChain}

-- a region and a record that pass the check together
abbrev pub Passing : State → Type 0
Passing s = Passes s.words s.heap

-- an answer that is no refusal
abbrev pub Accepted : Answer → Type 0
Accepted a = (r : Refusal) → a ≡ Refused r → ⊥

-- the state for the next call; after a refusal the record is the one before
abbrev pub after : Way → Call → State → State
after way call s =
    let left = way call s.words s.heap in
    record { words = left.words; heap = record_after s.heap left.heap left.answer }

-- writes by the owners of blocks: each store hits a word of a live block
abbrev pub OnBlock : Entry → Store → Type 0
OnBlock e s = (block_of e / 4 ≤ s.chunk / 4 + s.number) × (s.chunk / 4 + s.number < block_end e / 4)

abbrev pub OnLiveBlocks : State → List Store → Type 0
OnLiveBlocks t [] = Unit {0}
OnLiveBlocks t (s ∷ ss) =
    ((e : Entry) × OnChain t.words t.heap e × (live t.heap e ≡ true) × OnBlock e s) × OnLiveBlocks t ss

-- the state after such writes
abbrev pub after_stores : List Store → State → State
after_stores ss s = record { words = written s.words ss; heap = s.heap }

-- the promise
pub record Kept (way : Way) : Type 0 where
  -- an accepted setup makes a heap that passes, whatever the region held and whatever record came
  pub setup : (table : List ℕ) (donor : ℕ) (merge : Bool) (ws : List ℕ) (h : Heap)
      → Accepted (way (Setup table donor merge) ws h).answer
      → Passes (way (Setup table donor merge) ws h).words (way (Setup table donor merge) ws h).heap
  -- any call, accepted or refused, keeps a heap that passes
  pub calls : (call : Call) (s : State) → Passing s → Passing (after way call s)
  -- writes inside live blocks keep it too
  pub writes : (ss : List Store) (s : State) → Passing s → OnLiveBlocks s ss → Passing (after_stores ss s)
