-- What the code does to the words and to the bins' ends, call by call: these definitions mirror the code.
-- Nobody needs to believe them: `proofs/` shows that on a heap's lists they do what the rules say.
use Rattle.std.specs.Prelude.{ℕ, zero, suc, ◌+◌, ◌-◌, ◌*◌, ◌/◌, ◌%◌, ◌^◌, Bool, true, false, cond, List, Option, Some, None, ◌==◌, nat_le, slice_index, slice_index_or, slice_set}
use Rattle.bins.specs.declared.Slot.{Slot}
use Rattle.books.specs.Books.{Books, books}
use Rattle.record.specs.Heap.{at}
use Rattle.region.specs.declared.Chunk.{Chunk}
use Rattle.region.specs.Words.{word, store, size, next_in_bin, previous_in_bin, bin}

-- the words with one of the two arrays of ends
pub record Side : Type 0 where
  pub words : List ℕ
  pub ends : List ℕ

abbrev pub side : List ℕ → List ℕ → Side
side ws ends = record { words = ws; ends = ends }

unfoldable pub link_m : Side → ℕ → ℕ → ℕ → ℕ → Side
link_m s i from number to =
    cond (from == 0) (side s.words (slice_set s.ends i to)) (side (store s.words from number to) s.ends)

unfoldable pub leave_m : Books → ℕ → Books
leave_m b c =
    let next : ℕ = word b.words c next_in_bin in
    let previous : ℕ = word b.words c previous_in_bin in
    let i : ℕ = word b.words c bin / 8 in
    let front : Side = link_m (side b.words b.heads) i previous next_in_bin next in
    let back : Side = link_m (side front.words b.tails) i next previous_in_bin previous in
    books back.words front.ends back.ends

-- a place in the list of bin i
abbrev pub slot : ℕ → ℕ → ℕ → Slot
slot i before after = record { bin = i; before = before; after = after }

-- the chunk at c is put there
unfoldable pub put_m : Books → Slot → ℕ → Books
put_m b s c =
    let i : ℕ = s.bin in
    let front : Side = link_m (side b.words b.heads) i s.before next_in_bin c in
    let own : List ℕ = store (store front.words c previous_in_bin s.before) c next_in_bin s.after in
    let back : Side = link_m (side own b.tails) i s.after previous_in_bin c in
    books (store back.words c bin (i % 32 * 8)) front.ends back.ends

-- the chunk that a link or an end names; 0 is none
abbrev pub chunk_or_none : ℕ → Option Chunk
chunk_or_none c = cond (c == 0) None (Some (at c))

-- the steps that a search takes along a list at most
abbrev pub steps : ℕ
steps = 8192

unfoldable pub first_fit_m : ℕ → List ℕ → ℕ → ℕ → ℕ
first_fit_m zero ws need c = 0
first_fit_m (suc left) ws need c =
    elim (c == 0) [
      | true ↦ 0
      | false ↦ elim (nat_le need (word ws c size)) [ true ↦ c | false ↦ first_fit_m left ws need (word ws c next_in_bin) ]
    ]

-- the member of bin i before the one at c; before the end of the list, at 0, stands the tail
unfoldable pub member_before_m : List ℕ → List ℕ → ℕ → ℕ → ℕ
member_before_m ws tails i c = cond (c == 0) (slice_index tails i) (word ws c previous_in_bin)

-- the place of a chunk of s bytes in bin i: at the head of a bin of the small array, in any other before the first larger member
unfoldable pub slot_m : Books → Bool → ℕ → ℕ → Slot
slot_m b small i s =
    let head : ℕ = slice_index_or b.heads i 0 in
    let larger : ℕ = first_fit_m steps b.words ((s + 1) % 2 ^ 32) head in
    cond small (slot i 0 head) (slot i (member_before_m b.words b.tails i larger) larger)

-- the chunk at c, of s bytes, is put there
unfoldable pub put_into_m : Books → Bool → ℕ → ℕ → ℕ → Books
put_into_m b small i c s = put_m b (slot_m b small i s) c

-- the first end that is not 0 among so many from bin i on
unfoldable pub some_end : ℕ → List ℕ → ℕ → ℕ
some_end zero ends i = 0
some_end (suc left) ends i =
    elim (slice_index ends i == 0) [ true ↦ some_end left ends (suc i) | false ↦ slice_index_or ends i 0 ]

unfoldable pub next_occupied_m : List ℕ → ℕ → ℕ → ℕ
next_occupied_m heads i bins = some_end (bins - suc i) heads (suc i)
