-- Zero is a real place (manual 5.8; document 02, request One): 0 is the place of the start and the number of a bin. Where there is no chunk or bin to
-- name, a question is answered none, which is told apart from 0.
use Rattle.std.specs.Prelude.{◌≡◌, true, List, [], ℕ, ◌<◌, Some, None}
use Rattle.lists.specs.Lists.{Mem}
use Rattle.record.specs.declared.answers.Answer.TheVariants.{Told}
use Rattle.record.specs.declared.heap.Heap.{Heap}
use Rattle.rules.specs.Shape.{Entry, bin_list}
use Rattle.rules.specs.Kinds.{in_use, end_size}
use Rattle.rules.specs.Check.{Passes}
use Rattle.promises.specs.Ways.{Way}
use Rattle.promises.specs.Room.{OnChain}
use Rattle.promises.specs.Telling.{of_chunk, of_bin}

-- the promise on one heap
pub record ZeroAt (way : Way) (ws : List ℕ) (h : Heap) : Type 0 where
  -- the start, at 0, has no chunk before it; the chunk above it, at 8, has the start
  pub of_start : of_chunk way ws h 6 0 ≡ Told None
  pub above_start : of_chunk way ws h 6 end_size ≡ Told (Some 0)
  -- a chunk in bin 0 is in a bin; a chunk in use, the donor and the top are in none
  pub in_bin_zero : (c : ℕ) → Mem c (bin_list ws h 0) → of_chunk way ws h 1 c ≡ Told (Some 0)
  pub in_use : (e : Entry) → OnChain ws h e → in_use e ≡ true → of_chunk way ws h 1 e.place ≡ Told None
  pub donor : 0 < h.donor.0 → of_chunk way ws h 1 h.donor.0 ≡ Told None
  pub top : of_chunk way ws h 1 h.top.0 ≡ Told None
  -- an empty bin has no first and no last chunk
  pub empty_bin : (i : ℕ) → i < h.bins → bin_list ws h i ≡ []
      → (of_bin way ws h 2 i ≡ Told None) × (of_bin way ws h 3 i ≡ Told None)

-- the promise, on every heap that passes
abbrev pub Zero : Way → Type 0
Zero way = (ws : List ℕ) (h : Heap) → Passes ws h → ZeroAt way ws h
