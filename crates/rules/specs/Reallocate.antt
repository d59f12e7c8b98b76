-- Reallocate (manual 5.5; document 01, "The calls"); refusals 4, 5, 6, 7.
use Rattle.std.specs.Prelude.{Bool, not, cond, ◌&&◌, List, [], ◌∷◌, ◌++◌, map, ℕ, ◌+◌, ◌-◌, eqb, leb, ltb, is_none}
use Rattle.lists.specs.Lists.{numbers_from}
use Rattle.record.specs.declared.answers.Refusal.{Refusal}
use Rattle.record.specs.declared.answers.Refusal.TheVariants.{BlockSize, NotLive, NoRoom}
use Rattle.record.specs.declared.heap.Heap.{Heap}
use Rattle.record.specs.Table.{least}
use Rattle.region.specs.Words.{Store, put, word, forward}
use Rattle.rules.specs.Shape.{Entry, entry, chunk_end}
use Rattle.rules.specs.Kinds.{overhead, block_of, block_words, used}
use Rattle.rules.specs.Serve.{need, permitted}
use Rattle.rules.specs.Draft.{Draft, as_read, also_writes, Spot, now_uses}
use Rattle.rules.specs.Cut.{Grant}
use Rattle.rules.specs.Join.{release}
use Rattle.rules.specs.Outcome.{Outcome, Refusals, judged, heap_fails, made, grants}
use Rattle.rules.specs.Allocate.{allocate, source_of, grant}
use Rattle.rules.specs.Free.{is_live, block_spot, free_block}

-- the stores that copy the whole old block to the start of the new one
abbrev pub copied : List ℕ → Entry → Entry → List Store
copied ws old new =
    map (λ k. put (block_of new) k (word ws (block_of old) k)) (numbers_from 0 (block_words old))

-- the chunk keeps n bytes, and its forward link leads to their end; the tail above is split off and given back
abbrev pub shrunk : Spot → ℕ → Draft → Grant
shrunk s n d =
    let e = s.here in
    let kept = entry e.place n used in
    let tail = entry (e.place + n) (e.size - n) used in
    let split = also_writes (put kept.place forward (chunk_end kept) ∷ []) d in
    record {
      granted = kept;
      draft = now_uses e.size n (release (s.low ++ kept ∷ []) tail s.high split);
    }

-- a new block is granted; the old one is copied to its start and given back
abbrev pub moved : List ℕ → Spot → ℕ → Draft → Grant
moved ws s n d =
    let g = grant n d in
    record {
      granted = g.granted;
      draft = free_block (block_of s.here) (also_writes (copied ws s.here g.granted) g.draft);
    }

-- a block whose chunk has fewer than n bytes moves; a chunk with n + 24 or more gives its tail back; any other stays as it is
unfoldable pub resized : List ℕ → Spot → ℕ → Draft → Grant
resized ws s n d =
    cond (ltb s.here.size n) (moved ws s n d)
    (cond (leb (n + least) s.here.size) (shrunk s n d) (record { granted = s.here; draft = d }))

-- the live block at b gets room for z bytes
abbrev pub resizing : List ℕ → Draft → ℕ → ℕ → Grant
resizing ws d b z = resized ws (block_spot d b) (need overhead z) d

-- the refusals in their order, behind `fails`, that of a heap that fails
abbrev pub resize_refusals : Bool × Refusal → Draft → ℕ → ℕ → Refusals
resize_refusals fails d b z =
    let n = need overhead z in
    fails
    ∷ (not (permitted z), BlockSize)
    ∷ (not (is_live d b), NotLive)
    ∷ (ltb (block_spot d b).here.size n && is_none (source_of n d), NoRoom)
    ∷ []

-- the outcome of an accepted call on a live block
abbrev pub resized_to : List ℕ → Draft → ℕ → ℕ → Outcome
resized_to ws d b z =
    let g = resizing ws d b z in
    made (grants (block_spot d b).here.size g.granted) g.draft

-- the call on a block that is not 0
unfoldable pub resize : List ℕ → Heap → ℕ → ℕ → Outcome
resize ws h b z =
    let before = as_read ws h in
    judged h (resize_refusals (heap_fails ws h) before b z) (resized_to ws before b z)

-- block 0: as allocate
unfoldable pub reallocate : List ℕ → Heap → ℕ → ℕ → Outcome
reallocate ws h b z = cond (eqb b 0) (allocate ws h z) (resize ws h b z)
