-- Fresh (manual 5.1; document 01, "The calls": Setup): what an accepted setup leaves, whatever the region held. The chain is start, donor if one was asked for,
-- top and end, so that no block is live; the record has the table and the merge setting that were asked for, empty bins and no used bytes; a free chunk
-- keeps what lies above its header.
use Rattle.std.specs.Prelude.{◌≡◌, Bool, List, [], ◌∷◌, ◌++◌, ℕ, ◌+◌, ◌*◌, ◌-◌, ◌≤◌, ◌<◌, length}
use Rattle.record.specs.declared.heap.Heap.{Heap}
use Rattle.record.specs.Heap.{table_of}
use Rattle.region.specs.Words.{word}
use Rattle.rules.specs.Shape.{Entry, entry, bin_list, heap_bytes}
use Rattle.rules.specs.Kinds.{end_size, used, unused}
use Rattle.rules.specs.Setup.{donor_chunk}
use Rattle.rules.specs.Statements.{Left}
use Rattle.rules.specs.Calls.{Setup}
use Rattle.promises.specs.Ways.{Way}
use Rattle.promises.specs.Room.{OnChain}
use Rattle.promises.specs.Kept.{Accepted}
use Rattle.promises.specs.Splitting.{chain_left}

-- the chain of a fresh heap
abbrev pub first_chain : ℕ → ℕ → List Entry
first_chain bytes donor =
    let top = end_size + donor in
    let end = bytes - end_size in
    entry 0 end_size used ∷ donor_chunk donor ++ entry top (end - top) unused ∷ entry end end_size used ∷ []

-- `sizes` is the table, and `on` the merge setting, that were asked for
pub record FreshAs (ws sizes : List ℕ) (donor : ℕ) (on : Bool) (left : Left) : Type 0 where
  pub bytes : left.heap.bytes ≡ heap_bytes (length ws)
  pub chain : chain_left left ≡ first_chain (heap_bytes (length ws)) donor
  pub table : table_of left.heap ≡ sizes
  pub merge : left.heap.merge ≡ on
  pub bins : (i : ℕ) → bin_list left.words left.heap i ≡ []
  pub used : left.heap.used ≡ 0
  pub patrol : left.heap.patrol.0 ≡ 0
  -- the six words of a free chunk's header are numbered from 0
  pub found : (e : Entry) → OnChain left.words left.heap e → e.flags ≡ unused
      → (k : ℕ) → 6 ≤ k → 4 * k < e.size → word left.words e.place k ≡ word ws e.place k

-- the promise
abbrev pub Fresh : Way → Type 0
Fresh way =
    (table : List ℕ) (donor : ℕ) (merge : Bool) (ws : List ℕ) (h : Heap)
    → Accepted (way (Setup table donor merge) ws h).answer → FreshAs ws table donor merge (way (Setup table donor merge) ws h)
