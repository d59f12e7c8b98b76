-- New blocks: what a promise says of the block that a call grants, for each call that grants one.
use Rattle.std.specs.Prelude.{◌≡◌, List, ℕ, ◌*◌, ◌<◌, ℤ}
use Rattle.record.specs.declared.answers.Answer.TheVariants.{Granted}
use Rattle.record.specs.declared.heap.Heap.{Heap}
use Rattle.region.specs.declared.Block.{Block}
use Rattle.rules.specs.Shape.{Entry}
use Rattle.rules.specs.Kinds.{overhead}
use Rattle.rules.specs.Serve.{need}
use Rattle.rules.specs.Calls.{Allocate, AllocateCleared, Reallocate}
use Rattle.promises.specs.Ways.{Way}
use Rattle.promises.specs.Room.{HoldsBlock}

-- P holds of each new block: of region and record as they were before the call, the need, and the block's place
pub record EachNewBlock (P : List ℕ → Heap → ℕ → ℕ → Type 0) (way : Way) (ws : List ℕ) (h : Heap) : Type 0 where
  pub allocate : (z : ℕ) (block : Block) (change : ℤ)
      → (way (Allocate z) ws h).answer ≡ Granted block change → P ws h (need overhead z) block.0
  -- the need of a cleared block is that of the exact product
  pub cleared : (count size : ℕ) (block : Block) (change : ℤ)
      → (way (AllocateCleared count size) ws h).answer ≡ Granted block change → P ws h (need overhead (count * size)) block.0
  -- block 0 is reallocated as a new one is allocated
  pub no_block : (z : ℕ) (block : Block) (change : ℤ)
      → (way (Reallocate 0 z) ws h).answer ≡ Granted block change → P ws h (need overhead z) block.0
  -- a block that outgrows its chunk moves to another chunk, chosen while the old one is in use
  pub moved : (b z : ℕ) (block : Block) (change : ℤ)
      → (e : Entry) → HoldsBlock ws h b e → e.size < need overhead z
      → (way (Reallocate b z) ws h).answer ≡ Granted block change → P ws h (need overhead z) block.0
