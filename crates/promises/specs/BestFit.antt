-- BestFit (manual 5.2; document 02, request Six): on a heap that passes, a block that is granted from a bin comes from a smallest ordinary chunk that can
-- serve its need. Said of the chain alone: the lists of the bins do not occur.
use Rattle.std.specs.Prelude.{◌≡◌, ◌⊎◌, true, false, List, ℕ, ◌≤◌}
use Rattle.record.specs.declared.heap.Heap.{Heap}
use Rattle.record.specs.declared.kinds.Kind.TheVariants.{Ordinary}
use Rattle.record.specs.Heap.{table_of}
use Rattle.record.specs.Table.{small}
use Rattle.rules.specs.Shape.{Entry}
use Rattle.rules.specs.Kinds.{kind_of}
use Rattle.rules.specs.Check.{Passes}
use Rattle.promises.specs.Ways.{Way}
use Rattle.promises.specs.Room.{OnChain}
use Rattle.promises.specs.NewBlocks.{EachNewBlock}
use Rattle.promises.specs.Choice.{LiesIn, can}

-- e is an ordinary chunk of the chain that can serve n
pub record OrdinaryServes (ws : List ℕ) (h : Heap) (n : ℕ) (e : Entry) : Type 0 where
  pub member : OnChain ws h e
  pub ordinary : kind_of h e ≡ Ordinary
  pub serves : can h n e ≡ true

-- `from` is one, and none is smaller
pub record Smallest (ws : List ℕ) (h : Heap) (n : ℕ) (from : Entry) : Type 0 where
  pub itself : OrdinaryServes ws h n from
  pub least : (e : Entry) → OrdinaryServes ws h n e → from.size ≤ e.size

-- The block at b, granted for n, lies in the chunk `from` of the chain before the call, and in no other (`one_around`, rules/proofs/SpotLaws): it
-- is the chunk from which the block is cut (`CutFrom`, `Apart`). The block is granted from a bin if this chunk is ordinary. Donor and top are in no
-- bin: of a block from there nothing is said
pub record Fitted (ws : List ℕ) (h : Heap) (n b : ℕ) : Type 0 where
  pub from : Entry
  pub member : OnChain ws h from
  pub lies : LiesIn b from
  pub best : kind_of h from ≡ Ordinary → Smallest ws h n from

-- the promise on one heap, for each call that grants a new block
abbrev pub BestFitAt : Way → List ℕ → Heap → Type 0
BestFitAt = EachNewBlock Fitted

-- the promise, on every heap that passes
abbrev pub BestFit : Way → Type 0
BestFit way = (ws : List ℕ) (h : Heap) → Passes ws h → BestFitAt way ws h

-- What follows with `Choice`: if an ordinary chunk can serve n, and has exactly n bytes or n is not small, the block comes from a smallest one. (For
-- a small n the donor is tried before the larger bins)
abbrev pub FromSmallest : List ℕ → Heap → ℕ → ℕ → Type 0
FromSmallest ws h n b =
    (e : Entry) → OrdinaryServes ws h n e → (e.size ≡ n) ⊎ (small (table_of h) n ≡ false) → (from : Entry) × LiesIn b from × Smallest ws h n from

abbrev pub BestOfAny : Way → Type 0
BestOfAny way = (ws : List ℕ) (h : Heap) → Passes ws h → EachNewBlock FromSmallest way ws h
