-- Room (manual 5.2, 6; document 01, "The calls": Allocate, Cleared allocate, Reallocate; "Numbers of refusal", number 7):
-- on a heap that passes, a request is refused for lack of room exactly when no chunk of the chain can serve its need.
use Rattle.std.specs.Prelude.{◌≡◌, ◌↔◌, true, false, List, ℕ, ◌*◌, ◌≤◌, ◌<◌}
use Rattle.lists.specs.Lists.{Mem}
use Rattle.record.specs.declared.answers.Answer.TheVariants.{Refused}
use Rattle.record.specs.declared.answers.Refusal.TheVariants.{NoRoom}
use Rattle.record.specs.declared.heap.Heap.{Heap}
use Rattle.record.specs.Heap.{table_of}
use Rattle.rules.specs.Shape.{Entry, shape}
use Rattle.rules.specs.Kinds.{live, overhead, block_of}
use Rattle.rules.specs.Check.{Passes}
use Rattle.rules.specs.Serve.{need, permitted, serves}
use Rattle.rules.specs.Calls.{Call, Allocate, AllocateCleared, Reallocate}
use Rattle.promises.specs.Ways.{Way}

-- the chunk e is on the chain
abbrev pub OnChain : List ℕ → Heap → Entry → Type 0
OnChain ws h e = Mem e (shape ws h.bytes)

-- the chunk e is on the chain and holds the live block at b
pub record HoldsBlock (ws : List ℕ) (h : Heap) (b : ℕ) (e : Entry) : Type 0 where
  pub member : OnChain ws h e
  pub live : live h e ≡ true
  pub block : block_of e ≡ b

-- no chunk of the chain can serve n
abbrev pub NoneServes : List ℕ → Heap → ℕ → Type 0
NoneServes ws h n =
    (e : Entry) → OnChain ws h e → serves (table_of h) h.donor.0 h.top.0 n e ≡ false

-- the call is refused for lack of room exactly when no chunk can serve the need of z bytes
abbrev pub OnlyForRoom : Way → Call → List ℕ → Heap → ℕ → Type 0
OnlyForRoom way call ws h z =
    ((way call ws h).answer ≡ Refused NoRoom) ↔ NoneServes ws h (need overhead z)

-- the promise on one heap, for each call that asks for a permitted size
pub record RoomAt (way : Way) (ws : List ℕ) (h : Heap) : Type 0 where
  pub allocate : (z : ℕ) → permitted z ≡ true
      → OnlyForRoom way (Allocate z) ws h z
  -- the need of a cleared block is that of the exact product
  pub cleared : (count size : ℕ) → permitted (count * size) ≡ true
      → OnlyForRoom way (AllocateCleared count size) ws h (count * size)
  -- block 0 is reallocated as a new one is allocated
  pub no_block : (z : ℕ) → permitted z ≡ true
      → OnlyForRoom way (Reallocate 0 z) ws h z
  -- a block that outgrows its chunk needs another chunk
  pub outgrown : (b z : ℕ) → permitted z ≡ true
      → (e : Entry) → HoldsBlock ws h b e → e.size < need overhead z
      → OnlyForRoom way (Reallocate b z) ws h z
  -- a block for which its chunk has room is never refused for lack of room
  pub fitting : (b z : ℕ)
      → (e : Entry) → HoldsBlock ws h b e → need overhead z ≤ e.size
      → (way (Reallocate b z) ws h).answer ≡ Refused NoRoom → ⊥

-- the promise, on every heap that passes
abbrev pub Room : Way → Type 0
Room way = (ws : List ℕ) (h : Heap) → Passes ws h → RoomAt way ws h
