-- Coalescing (manual 5.4, 5.5; document 01, "The calls": Free, Reallocate): on a heap that passes, what joins when a chunk is given back, by free or as the
-- tail of a block that shrinks. With merging off nothing joins. With merging on an ordinary chunk just below joins, and any free chunk just
-- above; nothing joins a donor below, since a donor is not ordinary.
use Rattle.std.specs.Prelude.{◌≡◌, ◌≢◌, ◌⊎◌, true, false, cond, ◌&&◌, List, ◌∷◌, ◌++◌, ℕ, ◌+◌, ◌-◌, ◌≤◌, ℤ}
use Rattle.record.specs.declared.answers.Answer.TheVariants.{Granted}
use Rattle.record.specs.declared.heap.Heap.{Heap}
use Rattle.record.specs.declared.kinds.Kind.TheVariants.{Donor, Top}
use Rattle.record.specs.Table.{least}
use Rattle.region.specs.declared.Block.{Block}
use Rattle.rules.specs.Shape.{Entry, entry, shape, chunk_end}
use Rattle.rules.specs.Kinds.{kind_of, ordinary, is_free, overhead, used, unused}
use Rattle.rules.specs.Check.{Passes}
use Rattle.rules.specs.Serve.{need}
use Rattle.rules.specs.Statements.{Left}
use Rattle.rules.specs.Calls.{Free, Reallocate}
use Rattle.promises.specs.Ways.{Way}
use Rattle.promises.specs.Room.{HoldsBlock}
use Rattle.promises.specs.Splitting.{chain_left}

-- a free chunk from the start of the chunk a to the end of the chunk b
abbrev pub spanning : Entry → Entry → Entry
spanning a b = entry a.place (chunk_end b - a.place) unused

-- where the chunk begins that e becomes
abbrev pub begins_at : Heap → Entry → Entry → ℕ
begins_at h below e = cond (h.merge && ordinary h below) below.place e.place

-- The chunk e, between `low`, `below` and `above`, `high`, is given back on the record h. The chain afterwards, by the merge setting and the two neighbours;
-- and the places of donor and top: a chunk that joins one of them is the new one
pub record GivenBackAs (h : Heap) (low : List Entry) (below e above : Entry) (high : List Entry) (left : Left) : Type 0 where
  pub off : h.merge ≡ false → chain_left left ≡ low ++ below ∷ spanning e e ∷ above ∷ high
  pub alone : ordinary h below ≡ false → is_free h above ≡ false → chain_left left ≡ low ++ below ∷ spanning e e ∷ above ∷ high
  pub down : h.merge ≡ true → ordinary h below ≡ true → is_free h above ≡ false → chain_left left ≡ low ++ spanning below e ∷ above ∷ high
  pub up : h.merge ≡ true → ordinary h below ≡ false → is_free h above ≡ true → chain_left left ≡ low ++ below ∷ spanning e above ∷ high
  pub both : h.merge ≡ true → ordinary h below ≡ true → is_free h above ≡ true → chain_left left ≡ low ++ spanning below above ∷ high
  pub new_donor : h.merge ≡ true → kind_of h above ≡ Donor → left.heap.donor.0 ≡ begins_at h below e
  pub same_donor : (h.merge ≡ false) ⊎ (kind_of h above ≢ Donor) → left.heap.donor.0 ≡ h.donor.0
  pub new_top : h.merge ≡ true → kind_of h above ≡ Top → left.heap.top.0 ≡ begins_at h below e
  pub same_top : (h.merge ≡ false) ⊎ (kind_of h above ≢ Top) → left.heap.top.0 ≡ h.top.0

-- the promise on one heap. Start and end are never given back, so a chunk that is has both neighbours
pub record CoalescingAt (way : Way) (ws : List ℕ) (h : Heap) : Type 0 where
  -- a live block is freed
  pub free : (b : ℕ) (low : List Entry) (below e above : Entry) (high : List Entry)
      → shape ws h.bytes ≡ low ++ below ∷ e ∷ above ∷ high → HoldsBlock ws h b e
      → GivenBackAs h low below e above high (way (Free b) ws h)
  -- a block shrinks: its chunk keeps n bytes, and the tail above them is given back
  pub tail : (b z : ℕ) (block : Block) (change : ℤ) (low : List Entry) (e above : Entry) (high : List Entry)
      → shape ws h.bytes ≡ low ++ e ∷ above ∷ high → HoldsBlock ws h b e → need overhead z + least ≤ e.size
      → (way (Reallocate b z) ws h).answer ≡ Granted block change
      → let n = need overhead z in
      GivenBackAs h low (entry e.place n used) (entry (e.place + n) (e.size - n) used) above high (way (Reallocate b z) ws h)

-- the promise, on every heap that passes
abbrev pub Coalescing : Way → Type 0
Coalescing way = (ws : List ℕ) (h : Heap) → Passes ws h → CoalescingAt way ws h
