-- AsFound (manual 5.2, 5.5; document 01, "The calls": only headers change): on a heap that passes, plain allocate leaves every word of the granted block as it
-- was found; so does reallocate of block 0, and of a block that moves, behind the words that were copied.
use Rattle.std.specs.Prelude.{◌≡◌, List, ℕ, ◌≤◌, ◌<◌, ℤ}
use Rattle.record.specs.declared.answers.Answer.TheVariants.{Granted}
use Rattle.record.specs.declared.heap.Heap.{Heap}
use Rattle.region.specs.declared.Block.{Block}
use Rattle.region.specs.Words.{word}
use Rattle.rules.specs.Shape.{Entry}
use Rattle.rules.specs.Kinds.{overhead, block_words}
use Rattle.rules.specs.Check.{Passes}
use Rattle.rules.specs.Serve.{need}
use Rattle.rules.specs.Statements.{Left}
use Rattle.rules.specs.Calls.{Allocate, Reallocate}
use Rattle.promises.specs.Ways.{Way}
use Rattle.promises.specs.Room.{HoldsBlock}

-- the words of the block at b, from number `first` to the end of its chunk, are those that were there
abbrev pub FoundFrom : ℕ → List ℕ → ℕ → Left → Type 0
FoundFrom first ws b left =
    (e : Entry) → HoldsBlock left.words left.heap b e → (k : ℕ) → first ≤ k → k < block_words e → word left.words b k ≡ word ws b k

-- the promise on one heap
pub record AsFoundAt (way : Way) (ws : List ℕ) (h : Heap) : Type 0 where
  pub allocate : (z : ℕ) (block : Block) (change : ℤ)
      → (way (Allocate z) ws h).answer ≡ Granted block change → FoundFrom 0 ws block.0 (way (Allocate z) ws h)
  pub no_block : (z : ℕ) (block : Block) (change : ℤ)
      → (way (Reallocate 0 z) ws h).answer ≡ Granted block change → FoundFrom 0 ws block.0 (way (Reallocate 0 z) ws h)
  pub moved : (b z : ℕ) (block : Block) (change : ℤ)
      → (old : Entry) → HoldsBlock ws h b old → old.size < need overhead z
      → (way (Reallocate b z) ws h).answer ≡ Granted block change → FoundFrom (block_words old) ws block.0 (way (Reallocate b z) ws h)

-- the promise, on every heap that passes
abbrev pub AsFound : Way → Type 0
AsFound way = (ws : List ℕ) (h : Heap) → Passes ws h → AsFoundAt way ws h
