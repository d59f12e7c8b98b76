-- Apart (manual 5; document 01, "The calls", "Tempting shortcuts"): on a heap that passes, a new block overlaps no live one, and every live block
-- but the one that is freed or reallocated keeps its place, its length and its words.
use Rattle.std.specs.Prelude.{◌≡◌, ◌⊎◌, ◌≢◌, Bool, true, false, List, ℕ, ◌*◌, ◌≤◌, ◌<◌, eqb, ℤ}
use Rattle.record.specs.declared.answers.Answer.TheVariants.{Granted, Refused}
use Rattle.record.specs.declared.answers.Refusal.{Refusal}
use Rattle.record.specs.declared.heap.Heap.{Heap}
use Rattle.record.specs.Heap.{table_of}
use Rattle.region.specs.declared.Block.{Block}
use Rattle.region.specs.Words.{word}
use Rattle.rules.specs.Shape.{Entry, chunk_end}
use Rattle.rules.specs.Kinds.{live, overhead, block_of, block_words}
use Rattle.rules.specs.Check.{Passes}
use Rattle.rules.specs.Serve.{need, serves}
use Rattle.rules.specs.Statements.{Left}
use Rattle.rules.specs.Calls.{Call, Setup, Allocate, AllocateCleared, Free, Reallocate, SetMerge, Check, AskChunk, AskBin, Patrol}
use Rattle.promises.specs.Ways.{Way}
use Rattle.promises.specs.Room.{OnChain, HoldsBlock}
use Rattle.promises.specs.Refusing.{is_setup}

-- the first n words of a block at `to` are those that the block at `from` had
abbrev pub SameWords : List ℕ → ℕ → List ℕ → ℕ → ℕ → Type 0
SameWords before from after to n = (k : ℕ) → k < n → word after to k ≡ word before from k

-- the live block of the chunk e keeps its place, its length and its words
pub record Keeps (ws words : List ℕ) (heap : Heap) (e : Entry) : Type 0 where
  pub held : HoldsBlock words heap (block_of e) e
  pub same : SameWords ws (block_of e) words (block_of e) (block_words e)

-- every live block is kept; every live block but that at b
abbrev pub KeepsAll : List ℕ → Heap → Left → Type 0
KeepsAll ws h left = (e : Entry) → OnChain ws h e → live h e ≡ true → Keeps ws left.words left.heap e

abbrev pub KeepsOthers : List ℕ → Heap → ℕ → Left → Type 0
KeepsOthers ws h b left = (e : Entry) → OnChain ws h e → live h e ≡ true → block_of e ≢ b → Keeps ws left.words left.heap e

-- no live block is at b afterwards
abbrev pub Gone : ℕ → Left → Type 0
Gone b left = (e : Entry) → HoldsBlock left.words left.heap b e → ⊥

-- every block that is live afterwards was live before; every one but that at b
abbrev pub NoneNew : List ℕ → Heap → Left → Type 0
NoneNew ws h left =
    (e : Entry) → OnChain left.words left.heap e → live left.heap e ≡ true → OnChain ws h e × (live h e ≡ true)

abbrev pub NoneNewBut : List ℕ → Heap → ℕ → Left → Type 0
NoneNewBut ws h b left =
    (e : Entry) → OnChain left.words left.heap e → live left.heap e ≡ true
    → (block_of e ≡ b) ⊎ (OnChain ws h e × (live h e ≡ true))

-- every block that is live afterwards was live before, and is not at b
abbrev pub NoOthers : List ℕ → Heap → ℕ → Left → Type 0
NoOthers ws h b left =
    (e : Entry) → OnChain left.words left.heap e → live left.heap e ≡ true
    → OnChain ws h e × (live h e ≡ true) × (block_of e ≢ b)

-- the chunk e has at least n bytes, lies inside a chunk of the old chain that can serve n, and overlaps no chunk of a live block
pub record CutFrom (ws : List ℕ) (h : Heap) (n : ℕ) (e from : Entry) : Type 0 where
  pub member : OnChain ws h from
  pub serves : serves (table_of h) h.donor.0 h.top.0 n from ≡ true
  pub starts : from.place ≤ e.place
  pub ends : chunk_end e ≤ chunk_end from
  pub enough : n ≤ e.size
  pub apart : (d : Entry) → OnChain ws h d → live h d ≡ true → (chunk_end d ≤ e.place) ⊎ (chunk_end e ≤ d.place)

-- the block at b is live afterwards, and its chunk is cut from one that can serve the need n
abbrev pub New : List ℕ → Heap → ℕ → ℕ → Left → Type 0
New ws h n b left =
    (e : Entry) × (from : Entry) × (HoldsBlock left.words left.heap b e × CutFrom ws h n e from)

-- every word of the block at b, up to the end of its chunk, is 0
abbrev pub Clear : ℕ → Left → Type 0
Clear b left =
    (e : Entry) → HoldsBlock left.words left.heap b e → (k : ℕ) → k < block_words e → word left.words b k ≡ 0

-- the block at b stays at its place: its chunk, once `old`, is now e, with at least n bytes and no more than before,
-- and the words that it keeps are the same
pub record Stays (ws : List ℕ) (n b : ℕ) (old : Entry) (words : List ℕ) (heap : Heap) (e : Entry) : Type 0 where
  pub held : HoldsBlock words heap b e
  pub enough : n ≤ e.size
  pub no_more : e.size ≤ old.size
  pub same : SameWords ws b words b (block_words e)

-- the calls that neither grant nor free: free of block 0, the merge setting, the check, the questions, the patrol
abbrev pub only_looks : Call → Bool
only_looks (Setup table donor merge) = false
only_looks (Allocate z) = false
only_looks (AllocateCleared count size) = false
only_looks (Free b) = eqb b 0
only_looks (Reallocate b z) = false
only_looks (SetMerge on) = true
only_looks Check = true
only_looks (AskChunk q p) = true
only_looks (AskBin q i) = true
only_looks (Patrol f) = true

-- the promise on one heap, call by call. Setup is left out: it lays out the region anew
pub record ApartAt (way : Way) (ws : List ℕ) (h : Heap) : Type 0 where
  -- the granted block is new; the live blocks are those of before and this one
  pub allocate : (z : ℕ) (block : Block) (change : ℤ)
      → let left = way (Allocate z) ws h in
      left.answer ≡ Granted block change
      → New ws h (need overhead z) block.0 left × KeepsAll ws h left × NoneNewBut ws h block.0 left
  -- the same of a cleared block, all of whose words are 0
  pub cleared : (count size : ℕ) (block : Block) (change : ℤ)
      → let left = way (AllocateCleared count size) ws h in
      left.answer ≡ Granted block change
      → New ws h (need overhead (count * size)) block.0 left × KeepsAll ws h left × NoneNewBut ws h block.0 left × Clear block.0 left
  -- the same where block 0 is reallocated
  pub no_block : (z : ℕ) (block : Block) (change : ℤ)
      → let left = way (Reallocate 0 z) ws h in
      left.answer ≡ Granted block change
      → New ws h (need overhead z) block.0 left × KeepsAll ws h left × NoneNewBut ws h block.0 left
  -- a block that outgrows its chunk moves: the new block is new and begins with the words of the whole old one, the old one is gone,
  -- all others are kept
  pub moved : (b z : ℕ) (block : Block) (change : ℤ)
      → (e : Entry) → HoldsBlock ws h b e → e.size < need overhead z
      → let left = way (Reallocate b z) ws h in
      left.answer ≡ Granted block change
      → New ws h (need overhead z) block.0 left × KeepsOthers ws h b left × Gone b left × NoneNewBut ws h block.0 left
      × SameWords ws b left.words block.0 (block_words e)
  -- a block for which its chunk has room stays at its place
  pub stays : (b z : ℕ) (block : Block) (change : ℤ)
      → (old : Entry) → HoldsBlock ws h b old → need overhead z ≤ old.size
      → let left = way (Reallocate b z) ws h in
      left.answer ≡ Granted block change
      → (block.0 ≡ b) × ((e : Entry) × Stays ws (need overhead z) b old left.words left.heap e)
      × KeepsOthers ws h b left × NoneNewBut ws h b left
  -- the freed block is gone, and no other
  pub free : (b : ℕ) (e : Entry) → HoldsBlock ws h b e
      → KeepsOthers ws h b (way (Free b) ws h) × NoOthers ws h b (way (Free b) ws h)
  -- calls that neither grant nor free, and refused calls, keep all live blocks and add none
  pub looks : (call : Call) → only_looks call ≡ true
      → KeepsAll ws h (way call ws h) × NoneNew ws h (way call ws h)
  pub refused : (call : Call) → is_setup call ≡ false → (r : Refusal)
      → (way call ws h).answer ≡ Refused r → KeepsAll ws h (way call ws h) × NoneNew ws h (way call ws h)

-- the promise, on every heap that passes
abbrev pub Apart : Way → Type 0
Apart way = (ws : List ℕ) (h : Heap) → Passes ws h → ApartAt way ws h
