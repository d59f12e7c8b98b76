-- PlacesApart (manual 2.3; document 01, "Words, chunks, blocks"): on a heap that passes, no chunk's place is a live block's place, and so no call accepts a place
-- of one sort as one of the other.
use Rattle.std.specs.Prelude.{◌≡◌, ◌≢◌, true, List, ℕ, ◌<◌}
use Rattle.record.specs.declared.answers.Answer.TheVariants.{Refused}
use Rattle.record.specs.declared.answers.Refusal.TheVariants.{NotLive, NotThere}
use Rattle.record.specs.declared.heap.Heap.{Heap}
use Rattle.rules.specs.Shape.{Entry}
use Rattle.rules.specs.Check.{Passes}
use Rattle.rules.specs.Serve.{permitted}
use Rattle.rules.specs.Calls.{Free, Reallocate, AskChunk}
use Rattle.promises.specs.Ways.{Way}
use Rattle.promises.specs.Room.{OnChain, HoldsBlock}

-- the promise on one heap
pub record PlacesApartAt (way : Way) (ws : List ℕ) (h : Heap) : Type 0 where
  -- the place of a chunk, given as a block. Block 0 is accepted by free, and reallocated as a new one
  pub free : (d : Entry) → OnChain ws h d → 0 < d.place → (way (Free d.place) ws h).answer ≡ Refused NotLive
  pub reallocate : (d : Entry) (z : ℕ) → OnChain ws h d → 0 < d.place → permitted z ≡ true
      → (way (Reallocate d.place z) ws h).answer ≡ Refused NotLive
  pub holder : (d : Entry) → OnChain ws h d → (way (AskChunk 3 d.place) ws h).answer ≡ Refused NotThere
  -- the place of a live block, given as a chunk
  pub asked : (b : ℕ) (e : Entry) → HoldsBlock ws h b e → (q : ℕ) → q ≢ 3 → (way (AskChunk q b) ws h).answer ≡ Refused NotThere

-- the promise, on every heap that passes
abbrev pub PlacesApart : Way → Type 0
PlacesApart way = (ws : List ℕ) (h : Heap) → Passes ws h → PlacesApartAt way ws h
