-- The kind of a chunk, and its block (manual 2.3, 2.4; document 01, "Words, chunks, blocks").
-- The eight bytes between a chunk's place and its block's stand in `overhead` and nowhere else in the rules.
use Rattle.std.specs.Prelude.{Bool, true, false, cond, List, ℕ, ◌+◌, ◌-◌, ◌/◌, ◌%◌, eqb}
use Rattle.lists.specs.Lists.{head_or, keep}
use Rattle.record.specs.declared.heap.Heap.{Heap}
use Rattle.record.specs.declared.kinds.Kind.{Kind}
use Rattle.record.specs.declared.kinds.Kind.TheVariants.{Start, InUse, Ordinary, Donor, Top, End}
use Rattle.rules.specs.Shape.{Entry, entry, chunk_end}

-- the flags of a free chunk and of one in use
abbrev pub unused : ℕ
unused = 0

abbrev pub used : ℕ
used = 1

-- the size of the start chunk and of the end chunk: two header words and no block
abbrev pub end_size : ℕ
end_size = 8

-- bit 0 means in use
unfoldable pub in_use : Entry → Bool
in_use e = eqb (e.flags % 2) 1

-- start and end are known by their places, a chunk in use by its flag, top and donor by the record;
-- every other free chunk is ordinary
unfoldable pub kind_at : ℕ → ℕ → ℕ → Entry → Kind
kind_at bytes donor top e =
    cond (eqb e.place 0) Start
    (cond (eqb (e.place + end_size) bytes) End
    (cond (in_use e) InUse
    (cond (eqb e.place top) Top
    (cond (eqb e.place donor) Donor Ordinary))))

-- the kind of a chunk by the record
abbrev pub kind_of : Heap → Entry → Kind
kind_of h e = kind_at h.bytes h.donor.0 h.top.0 e

-- tests of a kind: ordinary; free; holding a live block
abbrev pub ordinary_kind : Kind → Bool
ordinary_kind Start = false
ordinary_kind InUse = false
ordinary_kind Ordinary = true
ordinary_kind Donor = false
ordinary_kind Top = false
ordinary_kind End = false

abbrev pub free_kind : Kind → Bool
free_kind Start = false
free_kind InUse = false
free_kind Ordinary = true
free_kind Donor = true
free_kind Top = true
free_kind End = false

abbrev pub live_kind : Kind → Bool
live_kind Start = false
live_kind InUse = true
live_kind Ordinary = false
live_kind Donor = false
live_kind Top = false
live_kind End = false

-- the same tests of a chunk
abbrev pub ordinary : Heap → Entry → Bool
ordinary h e = ordinary_kind (kind_of h e)

abbrev pub is_free : Heap → Entry → Bool
is_free h e = free_kind (kind_of h e)

abbrev pub live : Heap → Entry → Bool
live h e = live_kind (kind_of h e)

-- a block starts above the two header words of its chunk and runs to the chunk's end
abbrev pub overhead : ℕ
overhead = 8

abbrev pub block_of : Entry → ℕ
block_of e = e.place + overhead

abbrev pub block_end : Entry → ℕ
block_end e = chunk_end e

abbrev pub block_words : Entry → ℕ
block_words e = (block_end e - block_of e) / 4

-- the chunk is at c; the chunk holds the live block at b
abbrev pub is_at : ℕ → Entry → Bool
is_at c e = eqb e.place c

abbrev pub holds_block : Heap → ℕ → Entry → Bool
holds_block h b e = cond (live h e) (eqb (block_of e) b) false

-- the entry that stands in where a list has no chunk: it is marked in use, so nothing joins it, and holds no bytes
abbrev pub outside : Entry
outside = entry 0 0 used

-- the size of the chunk at c, read from the chain
abbrev pub size_on : List Entry → ℕ → ℕ
size_on es c = (head_or outside (keep (is_at c) es)).size
