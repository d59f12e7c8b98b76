-- Moves (manual 5.5; document 01, "The calls": Reallocate): on a heap that passes, a block that outgrows its chunk moves as an allocate and then a free do it: the
-- new block is the one that allocate grants, and record, chain and lists afterwards are those that free of the old block then leaves.
use Rattle.std.specs.Prelude.{◌≡◌, List, ℕ, ◌<◌, ℤ}
use Rattle.record.specs.declared.answers.Answer.TheVariants.{Granted}
use Rattle.record.specs.declared.heap.Heap.{Heap}
use Rattle.region.specs.declared.Block.{Block}
use Rattle.rules.specs.Shape.{Entry, bin_list}
use Rattle.rules.specs.Kinds.{overhead}
use Rattle.rules.specs.Check.{Passes}
use Rattle.rules.specs.Serve.{need}
use Rattle.rules.specs.Statements.{Left}
use Rattle.rules.specs.Calls.{Allocate, Free, Reallocate}
use Rattle.promises.specs.Ways.{Way}
use Rattle.promises.specs.Room.{HoldsBlock}
use Rattle.promises.specs.Splitting.{chain_left}

-- what two calls leave is read alike: the records are equal, and so are the chains and the lists of the bins
pub record ReadAsOne (left other : Left) : Type 0 where
  pub heap : left.heap ≡ other.heap
  pub chain : chain_left left ≡ chain_left other
  pub lists : (i : ℕ) → bin_list left.words left.heap i ≡ bin_list other.words other.heap i

-- the promise on one heap
pub record MovesAt (way : Way) (ws : List ℕ) (h : Heap) : Type 0 where
  pub block : (b z : ℕ) (block : Block) (change : ℤ) (e : Entry) → HoldsBlock ws h b e → e.size < need overhead z
      → (way (Reallocate b z) ws h).answer ≡ Granted block change → (bytes : ℤ) × ((way (Allocate z) ws h).answer ≡ Granted block bytes)
  pub left : (b z : ℕ) (block : Block) (change : ℤ) (e : Entry) → HoldsBlock ws h b e → e.size < need overhead z
      → (way (Reallocate b z) ws h).answer ≡ Granted block change
      → let granted = way (Allocate z) ws h in
      ReadAsOne (way (Reallocate b z) ws h) (way (Free b) granted.words granted.heap)

-- the promise, on every heap that passes
abbrev pub Moves : Way → Type 0
Moves way = (ws : List ℕ) (h : Heap) → Passes ws h → MovesAt way ws h
