-- Refused (manual 6; document 01, "Numbers of refusal"; document 02, request Two): a call is refused exactly with the first number whose reason holds,
-- and a refused call changes nothing. The reasons stand in the order of the document's table.
use Rattle.std.specs.Prelude.{◌≡◌, ◌↔◌, ◌⊎◌, ◌≢◌, Bool, true, false, List, ℕ, suc, ◌+◌, ◌*◌, ◌-◌, ◌%◌, ◌≤◌, ◌<◌, pos, length, Some, None}
use Rattle.record.specs.declared.answers.Answer.TheVariants.{Refused}
use Rattle.record.specs.declared.answers.Refusal.{Refusal}
use Rattle.record.specs.declared.answers.Refusal.TheVariants.{RegionLength, BadTable, DonorSize, HeapFails, BlockSize, NotLive, NoRoom, NotThere, RunSize, BeyondMending}
use Rattle.record.specs.declared.heap.Heap.{Heap}
use Rattle.record.specs.Answers.{number_of, figures, no_counts, figures_of}
use Rattle.record.specs.Heap.{empty}
use Rattle.record.specs.Table.{least, ValidTable}
use Rattle.rules.specs.Shape.{Entry, heap_bytes}
use Rattle.rules.specs.Kinds.{overhead, end_size}
use Rattle.rules.specs.Check.{fewest_words, most_words, Passes}
use Rattle.rules.specs.Setup.{ends_and_top}
use Rattle.rules.specs.Serve.{need, most_bytes}
use Rattle.rules.specs.Patrol.{next_of}
use Rattle.rules.specs.Calls.{Call, Setup, Allocate, AllocateCleared, Free, Reallocate, SetMerge, Check, AskChunk, AskBin, Patrol}
use Rattle.promises.specs.Ways.{Way}
use Rattle.promises.specs.Room.{OnChain, HoldsBlock, NoneServes}

-- 1: too few words, or too many
abbrev pub WrongLength : List ℕ → Type 0
WrongLength ws = (length ws < fewest_words) ⊎ (most_words < length ws)

-- 3: the donor size is not 0, and is below 24, no multiple of 8, or leaves too little for start, end and top
abbrev pub WrongDonor : List ℕ → ℕ → Type 0
WrongDonor ws donor =
    (0 < donor) × ((donor < least) ⊎ ((donor % 8 ≢ 0) ⊎ (heap_bytes (length ws) < donor + ends_and_top)))

-- every call but setup gets a record
abbrev pub is_setup : Call → Bool
is_setup (Setup table donor merge) = true
is_setup (Allocate z) = false
is_setup (AllocateCleared count size) = false
is_setup (Free b) = false
is_setup (Reallocate b z) = false
is_setup (SetMerge on) = false
is_setup Check = false
is_setup (AskChunk q p) = false
is_setup (AskBin q i) = false
is_setup (Patrol f) = false

-- 4: every call but setup and the patrol asks that the heap pass the check
abbrev pub asks_check : Call → Bool
asks_check (Setup table donor merge) = false
asks_check (Allocate z) = true
asks_check (AllocateCleared count size) = true
asks_check (Free b) = true
asks_check (Reallocate b z) = true
asks_check (SetMerge on) = true
asks_check Check = true
asks_check (AskChunk q p) = true
asks_check (AskBin q i) = true
asks_check (Patrol f) = false

-- 4 of the patrol: the region's length or the recorded heap bytes are wrong, or the place is no multiple of 8 up to the end chunk
abbrev pub NoPatrol : List ℕ → Heap → Type 0
NoPatrol ws h =
    WrongLength ws
    ⊎ ((h.bytes ≢ heap_bytes (length ws)) ⊎ ((h.patrol.0 % 8 ≢ 0) ⊎ (h.bytes < h.patrol.0 + end_size)))

-- 5: the size is 0 or too large
abbrev pub WrongSize : ℕ → Type 0
WrongSize z = (z ≡ 0) ⊎ (most_bytes < z)

-- 6: b is neither 0 nor a live block
abbrev pub NoBlock : List ℕ → Heap → ℕ → Type 0
NoBlock ws h b = (0 < b) × ((e : Entry) → HoldsBlock ws h b e → ⊥)

-- 7, for a block that needs n bytes: its chunk has fewer (block 0 has no chunk), and no chunk can serve n
abbrev pub NoPlace : List ℕ → Heap → ℕ → ℕ → Type 0
NoPlace ws h b n = ((e : Entry) → HoldsBlock ws h b e → e.size < n) × NoneServes ws h n

-- 8: questions are numbered from 1 to `most`, and q is none of them
abbrev pub NoQuestion : ℕ → ℕ → Type 0
NoQuestion most q = (q ≡ 0) ⊎ (most < q)

-- question 3 is asked of a live block, every other of a chunk
abbrev pub AskedOf : List ℕ → Heap → ℕ → ℕ → Entry → Type 0
AskedOf ws h q p e = (q ≡ 3 → HoldsBlock ws h p e) × (q ≢ 3 → OnChain ws h e × (e.place ≡ p))

-- 12: a run of so many chunks from the one at c meets a chunk whose next one is not found. All is judged on the words as they came:
-- what the run mends on its way makes no difference
pub data Lost (ws : List ℕ) (end : ℕ) : ℕ → ℕ → Type 0 where
  lost_here : {f c : ℕ} → c ≢ end → next_of ws end c ≡ None → Lost ws end (suc f) c
  lost_later : {f c v : ℕ} → c ≢ end → next_of ws end c ≡ Some v → Lost ws end f v → Lost ws end (suc f) c

-- the reason of each number, for each call that can give it
pub data Because (ws : List ℕ) (h : Heap) : Call → Refusal → Type 0 where
  -- 1, 2, 3
  setup_length : {table : List ℕ} {donor : ℕ} {merge : Bool} → WrongLength ws
      → Because ws h (Setup table donor merge) RegionLength
  setup_table : {table : List ℕ} {donor : ℕ} {merge : Bool} → (ValidTable table → ⊥)
      → Because ws h (Setup table donor merge) BadTable
  setup_donor : {table : List ℕ} {donor : ℕ} {merge : Bool} → WrongDonor ws donor
      → Because ws h (Setup table donor merge) DonorSize
  -- 4
  fails : {call : Call} → asks_check call ≡ true → (Passes ws h → ⊥) → Because ws h call HeapFails
  patrol_fails : {f : ℕ} → NoPatrol ws h → Because ws h (Patrol f) HeapFails
  -- 5
  allocate_size : {z : ℕ} → WrongSize z → Because ws h (Allocate z) BlockSize
  cleared_size : {count size : ℕ} → WrongSize (count * size) → Because ws h (AllocateCleared count size) BlockSize
  reallocate_size : {b z : ℕ} → WrongSize z → Because ws h (Reallocate b z) BlockSize
  -- 6
  free_not_live : {b : ℕ} → NoBlock ws h b → Because ws h (Free b) NotLive
  reallocate_not_live : {b z : ℕ} → NoBlock ws h b → Because ws h (Reallocate b z) NotLive
  -- 7
  allocate_room : {z : ℕ} → NoneServes ws h (need overhead z) → Because ws h (Allocate z) NoRoom
  cleared_room : {count size : ℕ} → NoneServes ws h (need overhead (count * size))
      → Because ws h (AllocateCleared count size) NoRoom
  reallocate_room : {b z : ℕ} → NoPlace ws h b (need overhead z) → Because ws h (Reallocate b z) NoRoom
  -- 8
  ask_no_chunk : {q p : ℕ} → NoQuestion 9 q ⊎ ((e : Entry) → AskedOf ws h q p e → ⊥) → Because ws h (AskChunk q p) NotThere
  ask_no_bin : {q i : ℕ} → NoQuestion 3 q ⊎ (h.bins ≤ i) → Because ws h (AskBin q i) NotThere
  -- 10, 12
  patrol_none : {f : ℕ} → f ≡ 0 → Because ws h (Patrol f) RunSize
  patrol_lost : {f : ℕ} → Lost ws (h.bytes - end_size) f h.patrol.0 → Because ws h (Patrol f) BeyondMending

-- the order of the refusals is that of their numbers, but that 10 comes first. It is the order of every call: only the questions
-- give 8, and they give no 5, 6 or 7
abbrev pub order_of : Refusal → ℕ
order_of RegionLength = 1
order_of BadTable = 2
order_of DonorSize = 3
order_of HeapFails = 4
order_of BlockSize = 5
order_of NotLive = 6
order_of NoRoom = 7
order_of NotThere = 8
order_of RunSize = 0
order_of BeyondMending = 12

-- r is the first in that order whose reason holds
pub record First (ws : List ℕ) (h : Heap) (call : Call) (r : Refusal) : Type 0 where
  pub because : Because ws h call r
  pub before : (q : Refusal) → order_of q < order_of r → Because ws h call q → ⊥

-- the record that a refused call gives: the one that came; setup gives an empty one
abbrev pub refused_record : Call → Heap → Heap
refused_record (Setup table donor merge) h = empty
refused_record (Allocate z) h = h
refused_record (AllocateCleared count size) h = h
refused_record (Free b) h = h
refused_record (Reallocate b z) h = h
refused_record (SetMerge on) h = h
refused_record Check h = h
refused_record (AskChunk q p) h = h
refused_record (AskBin q i) h = h
refused_record (Patrol f) h = h

-- the promise: a refusal is given exactly for the first reason that holds, and changes nothing
pub record Refusing (way : Way) : Type 0 where
  pub exactly : (call : Call) (ws : List ℕ) (h : Heap) (r : Refusal)
      → ((way call ws h).answer ≡ Refused r) ↔ First ws h call r
  -- offset, value, change and counts are 0, and it is no answer of none
  pub figures : (call : Call) (ws : List ℕ) (h : Heap) (r : Refusal) → (way call ws h).answer ≡ Refused r
      → figures_of (way call ws h).answer ≡ figures (number_of r) 0 0 false (pos 0) no_counts
  pub heap : (call : Call) (ws : List ℕ) (h : Heap) (r : Refusal) → (way call ws h).answer ≡ Refused r
      → (way call ws h).heap ≡ refused_record call h
  pub words : (call : Call) (ws : List ℕ) (h : Heap) (r : Refusal) → (way call ws h).answer ≡ Refused r
      → (way call ws h).words ≡ ws
