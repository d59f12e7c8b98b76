-- How the region is read (manual 2; document 01, "Words, chunks, blocks"): the chunks in address order, as a list of entries (the chain),
-- and a bin's free list, as a list of places. Every rule is stated over these two.
use Rattle.std.specs.Prelude.{true, false, ◌&&◌, List, [], ◌∷◌, ℕ, zero, suc, ◌+◌, ◌-◌, ◌*◌, ◌/◌, ◌%◌, eqb, ltb, get_or}
use Rattle.record.specs.declared.heap.Heap.{Heap}
use Rattle.region.specs.Words.{word, forward, backward, next_in_bin}

-- a chunk of the chain: its place, the distance to the next chunk, and the three low bits of its second word
pub record Entry : Type 0 where
  pub place : ℕ
  pub size : ℕ
  pub flags : ℕ

abbrev pub entry : ℕ → ℕ → ℕ → Entry
entry p s f = record { place = p; size = s; flags = f }

-- where a chunk ends, and the next one begins
abbrev pub chunk_end : Entry → ℕ
chunk_end e = e.place + e.size

-- the flags of the chunk at c: the low three bits of its second word
abbrev pub flags_at : List ℕ → ℕ → ℕ
flags_at ws c = word ws c backward % 8

-- the chain from the chunk at c on: forward links are followed while they go up and stay inside the heap;
-- the last chunk is taken to reach the end of the heap bytes. The first argument is fuel: `bytes` steps
-- always suffice, since each goes up (`shape_steps`)
abbrev pub shape_from : ℕ → List ℕ → ℕ → ℕ → List Entry
shape_from zero ws bytes c = entry c (bytes - c) (flags_at ws c) ∷ []
shape_from (suc steps) ws bytes c =
    let next : ℕ = word ws c forward in
    elim (ltb c next && ltb next bytes) [
      | true ↦ entry c (next - c) (flags_at ws c) ∷ shape_from steps ws bytes next
      | false ↦ entry c (bytes - c) (flags_at ws c) ∷ []
    ]

-- the whole chain: it begins at 0
unfoldable pub shape : List ℕ → ℕ → List Entry
shape ws bytes = shape_from bytes ws bytes 0

-- a bin's places from c on: forward bin links are followed to the first 0. The first argument is fuel:
-- a list of different chunks never uses up `bytes` steps (`members_steps`), links that form a circle do
abbrev pub members_from : ℕ → List ℕ → ℕ → List ℕ
members_from zero ws c = []
members_from (suc steps) ws c =
    elim (eqb c 0) [ true ↦ [] | false ↦ c ∷ members_from steps ws (word ws c next_in_bin) ]

-- the list with this head
unfoldable pub members : List ℕ → ℕ → ℕ → List ℕ
members ws bytes head = members_from bytes ws head

-- the list of bin i
abbrev pub bin_list : List ℕ → Heap → ℕ → List ℕ
bin_list ws h i = members ws h.bytes (get_or h.heads i 0)

-- the heap bytes of a region of so many words; an odd last word is left out
abbrev pub heap_bytes : ℕ → ℕ
heap_bytes words = words * 4 / 8 * 8
