-- Splitting (manual 5.2, 5.5; document 01, "The calls": Allocate, Reallocate): on a heap that passes, a call grants no more than is needed. A new block
-- gets the lowest n bytes of its chunk, or all of it where fewer than 24 would be left, and no other chunk of the chain changes; what remains of donor or top
-- is donor or top; no block that is granted or resized has a chunk of n + 24 bytes or more.
use Rattle.std.specs.Prelude.{◌≡◌, ◌≢◌, List, ◌∷◌, ◌++◌, ℕ, ◌+◌, ◌*◌, ◌-◌, ◌≤◌, ◌<◌, ℤ}
use Rattle.record.specs.declared.answers.Answer.TheVariants.{Granted}
use Rattle.record.specs.declared.heap.Heap.{Heap}
use Rattle.record.specs.declared.kinds.Kind.TheVariants.{Donor, Top}
use Rattle.record.specs.Table.{least}
use Rattle.region.specs.declared.Block.{Block}
use Rattle.rules.specs.Shape.{Entry, entry, shape}
use Rattle.rules.specs.Kinds.{kind_of, overhead, used, unused}
use Rattle.rules.specs.Check.{Passes}
use Rattle.rules.specs.Serve.{need}
use Rattle.rules.specs.Statements.{Left}
use Rattle.rules.specs.Calls.{Call, Allocate, AllocateCleared, Reallocate}
use Rattle.promises.specs.Ways.{Way}
use Rattle.promises.specs.Room.{OnChain, HoldsBlock}
use Rattle.promises.specs.Choice.{LiesIn}

-- the call asks for a block of z bytes
pub data AsksFor : Call → ℕ → Type 0 where
  allocates : {z : ℕ} → AsksFor (Allocate z) z
  allocates_cleared : {count size : ℕ} → AsksFor (AllocateCleared count size) (count * size)
  reallocates : {b z : ℕ} → AsksFor (Reallocate b z) z

-- the call grants a new block of z bytes and gives none back
pub data GrantsAlone : Call → ℕ → Type 0 where
  allocated : {z : ℕ} → GrantsAlone (Allocate z) z
  allocated_cleared : {count size : ℕ} → GrantsAlone (AllocateCleared count size) (count * size)
  no_block : {z : ℕ} → GrantsAlone (Reallocate 0 z) z

-- the chain that a call leaves
abbrev pub chain_left : Left → List Entry
chain_left left = shape left.words left.heap.bytes

-- the chunk `from`, between `low` and `high`, is granted for n: split in two, or whole
pub record SplitAs (n : ℕ) (low : List Entry) (from : Entry) (high after : List Entry) : Type 0 where
  pub split : n + least ≤ from.size → after ≡ low ++ entry from.place n used ∷ entry (from.place + n) (from.size - n) unused ∷ high
  pub whole : from.size < n + least → after ≡ low ++ entry from.place from.size used ∷ high

-- what remains of the donor is the donor, and what remains of the top the top; a block from elsewhere leaves both as they are
pub record PostsAs (h : Heap) (n : ℕ) (from : Entry) (after : Heap) : Type 0 where
  pub new_donor : kind_of h from ≡ Donor → after.donor.0 ≡ from.place + n
  pub same_donor : kind_of h from ≢ Donor → after.donor.0 ≡ h.donor.0
  pub new_top : kind_of h from ≡ Top → after.top.0 ≡ from.place + n
  pub same_top : kind_of h from ≢ Top → after.top.0 ≡ h.top.0

-- the promise on one heap
pub record SplittingAt (way : Way) (ws : List ℕ) (h : Heap) : Type 0 where
  -- a block is granted, or resized: its chunk has fewer than n + 24 bytes
  pub few : (call : Call) (z : ℕ) → AsksFor call z → (block : Block) (change : ℤ)
      → let left = way call ws h in
      left.answer ≡ Granted block change
      → (e : Entry) → HoldsBlock left.words left.heap block.0 e → e.size < need overhead z + least
  -- a new block is granted: `from` is the chunk of the chain in which it lies
  pub chain : (call : Call) (z : ℕ) → GrantsAlone call z → (block : Block) (change : ℤ)
      → let left = way call ws h in
      left.answer ≡ Granted block change
      → (low : List Entry) (from : Entry) (high : List Entry) → shape ws h.bytes ≡ low ++ from ∷ high → LiesIn block.0 from
      → SplitAs (need overhead z) low from high (chain_left left)
  -- and donor and top
  pub posts : (call : Call) (z : ℕ) → GrantsAlone call z → (block : Block) (change : ℤ)
      → let left = way call ws h in
      left.answer ≡ Granted block change
      → (from : Entry) → OnChain ws h from → LiesIn block.0 from → PostsAs h (need overhead z) from left.heap

-- the promise, on every heap that passes
abbrev pub Splitting : Way → Type 0
Splitting way = (ws : List ℕ) (h : Heap) → Passes ws h → SplittingAt way ws h
