-- Mended (manual 9; document 02, request Two): a heap that passed the check was damaged in links and free sizes, its record whole, its patrol at the
-- start. A full patrol, with any number of chunks a run, undoes the damage exactly where each chunk's next one is still found; and so
-- in the document's two cases.
use Rattle.std.specs.Prelude.{◌≡◌, ◌⊎◌, ◌≢◌, true, false, List, ℕ, ◌+◌, ◌-◌, ◌/◌, ◌<◌, length, get_or, Some}
use Rattle.record.specs.declared.heap.Heap.{Heap}
use Rattle.region.specs.Words.{word, forward, backward, size}
use Rattle.rules.specs.Shape.{Entry, chunk_end, flags_at}
use Rattle.rules.specs.Kinds.{end_size, is_free}
use Rattle.rules.specs.Check.{Passes}
use Rattle.rules.specs.Patrol.{skips, broken, next_of}
use Rattle.promises.specs.Ways.{Way}
use Rattle.promises.specs.Room.{OnChain}
use Rattle.promises.specs.FullPatrol.{FullPatrol}

-- a chunk of the chain below the end chunk
abbrev pub BelowEnd : List ℕ → Heap → Entry → Type 0
BelowEnd ws h e = OnChain ws h e × (e.place + end_size < h.bytes)

-- the words of a chunk that the patrol mends: the forward link (the end's apart), the backward link, and a free chunk's size
abbrev pub LinkOrSize : Heap → Entry → ℕ → Type 0
LinkOrSize h e i =
    ((e.place + end_size < h.bytes) × (i ≡ e.place / 4 + forward))
    ⊎ ((i ≡ e.place / 4 + backward) ⊎ ((is_free h e ≡ true) × (i ≡ e.place / 4 + size)))

-- the words vs are those of a heap, damaged at most in such words of its chunks, with all flags whole
pub record Damaged (ws : List ℕ) (h : Heap) (vs : List ℕ) : Type 0 where
  pub long : length vs ≡ length ws
  pub elsewhere : (i : ℕ) → ((e : Entry) → OnChain ws h e → LinkOrSize h e i → ⊥) → get_or vs i 0 ≡ get_or ws i 0
  pub flags : (e : Entry) → OnChain ws h e → flags_at vs e.place ≡ flags_at ws e.place

-- the true next chunk of each chunk is the one that is believed, or found by the backward walk, on the damaged words
abbrev pub NextFound : List ℕ → Heap → List ℕ → Type 0
NextFound ws h vs = (e : Entry) → BelowEnd ws h e → next_of vs (h.bytes - end_size) e.place ≡ Some (chunk_end e)

-- all forward links are whole
abbrev pub ForwardWhole : List ℕ → Heap → List ℕ → Type 0
ForwardWhole ws h vs = (e : Entry) → OnChain ws h e → word vs e.place forward ≡ word ws e.place forward

-- no link of the chain has the sign of a skipped chunk, on the damaged words
abbrev pub NoSign : List ℕ → Heap → List ℕ → Type 0
NoSign ws h vs = (e : Entry) → BelowEnd ws h e → skips vs e.place (chunk_end e) ≡ false

-- the forward link of the chunk e is broken, and nothing else is damaged
pub record OneBroken (ws : List ℕ) (h : Heap) (vs : List ℕ) (e : Entry) : Type 0 where
  pub chunk : BelowEnd ws h e
  pub long : length vs ≡ length ws
  pub elsewhere : (i : ℕ) → i ≢ e.place / 4 + forward → get_or vs i 0 ≡ get_or ws i 0
  pub broken : broken vs (h.bytes - end_size) e.place (word vs e.place forward) ≡ true

-- a full patrol leads from the damaged words back to those of before, and the record is as it was
abbrev pub Undone : Way → ℕ → List ℕ → Heap → List ℕ → Type 0
Undone way f ws h vs = FullPatrol way f (record { words = vs; heap = h }) (record { words = ws; heap = h })

-- the promise
pub record Mended (way : Way) : Type 0 where
  pub found : (ws : List ℕ) (h : Heap) (vs : List ℕ) → Passes ws h → h.patrol.0 ≡ 0
      → Damaged ws h vs → NextFound ws h vs → (f : ℕ) → 0 < f → Undone way f ws h vs
  -- backward links and free sizes: undone exactly if, and only if, no link has the sign of a skipped chunk
  pub links_back : (ws : List ℕ) (h : Heap) (vs : List ℕ) → Passes ws h → h.patrol.0 ≡ 0
      → Damaged ws h vs → ForwardWhole ws h vs → NoSign ws h vs → (f : ℕ) → 0 < f → Undone way f ws h vs
  pub only_without : (ws : List ℕ) (h : Heap) (vs : List ℕ) → Passes ws h → h.patrol.0 ≡ 0
      → Damaged ws h vs → ForwardWhole ws h vs → (f : ℕ) → Undone way f ws h vs → NoSign ws h vs
  -- one broken forward link
  pub one_link : (ws : List ℕ) (h : Heap) (vs : List ℕ) (e : Entry) → Passes ws h → h.patrol.0 ≡ 0
      → OneBroken ws h vs e → (f : ℕ) → 0 < f → Undone way f ws h vs
