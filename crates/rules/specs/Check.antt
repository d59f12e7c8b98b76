-- The check (manual 4; document 01, "The check" and the sections that it refers to): the invariant of a heap, part by part in the
-- document's order, each part also as a test; and the four counts.
use Rattle.std.specs.Prelude.{◌≡◌, Bool, true, false, not, ◌&&◌, ◌||◌, List, [], ◌∷◌, ℕ, ◌+◌, ◌*◌, ◌%◌, ◌≤◌, ◌<◌, eqb, leb, ltb, length, get_or, drop, Option, Some, None}
use Rattle.lists.specs.Lists.{Mem, head_or, last_or, every, any, keep, total, numbers_from, Distinct, distinct, Ascending, ascending}
use Rattle.record.specs.declared.answers.Counts.{Counts}
use Rattle.record.specs.declared.heap.Heap.{Heap}
use Rattle.record.specs.Heap.{places, table_of}
use Rattle.record.specs.Table.{least, ValidTable, valid_table, bin_of, small_bins}
use Rattle.region.specs.Words.{word, forward, backward, size, next_in_bin, previous_in_bin, bin}
use Rattle.rules.specs.Shape.{Entry, shape, bin_list, heap_bytes, chunk_end}
use Rattle.rules.specs.Kinds.{used, unused, end_size, ordinary, is_free, live, outside, size_on}

-- The region has 10 to 16,384 words, and the record has the heap bytes of that length.
abbrev pub fewest_words : ℕ
fewest_words = 10

abbrev pub most_words : ℕ
most_words = 16384

pub record Fits (ws : List ℕ) (h : Heap) : Type 0 where
  pub enough : fewest_words ≤ length ws
  pub not_too_many : length ws ≤ most_words
  pub bytes : h.bytes ≡ heap_bytes (length ws)

abbrev pub fits : List ℕ → Heap → Bool
fits ws h = leb fewest_words (length ws) && leb (length ws) most_words && eqb h.bytes (heap_bytes (length ws))

-- from index n on an array holds only 0
abbrev pub Unused : ℕ → List ℕ → Type 0
Unused n l = (i : ℕ) → n ≤ i → get_or l i 0 ≡ 0

abbrev pub unused_from : ℕ → List ℕ → Bool
unused_from n l = every (λ v. eqb v 0) (drop n l)

-- The record's three arrays have 32 elements; its table is valid; past the bin count all elements are 0.
pub record Tabled (h : Heap) : Type 0 where
  pub size_places : length h.sizes ≡ places
  pub head_places : length h.heads ≡ places
  pub tail_places : length h.tails ≡ places
  pub bins : h.bins ≤ places
  pub valid : ValidTable (table_of h)
  pub sizes_end : Unused h.bins h.sizes
  pub heads_end : Unused h.bins h.heads
  pub tails_end : Unused h.bins h.tails

abbrev pub tabled : Heap → Bool
tabled h =
    eqb (length h.sizes) places && eqb (length h.heads) places && eqb (length h.tails) places
    && leb h.bins places && valid_table (table_of h)
    && unused_from h.bins h.sizes && unused_from h.bins h.heads && unused_from h.bins h.tails

-- Forward links lead up from 0 to the end chunk, which is the last 8 bytes and whose forward link is 0;
-- every chunk is at a multiple of 8.
pub record Chained (ws : List ℕ) (h : Heap) (es : List Entry) : Type 0 where
  pub reaches_end : (last_or outside es).place + end_size ≡ h.bytes
  pub ends_there : word ws (last_or outside es).place forward ≡ 0
  pub eights : (e : Entry) → Mem e es → e.place % 8 ≡ 0

abbrev pub chained : List ℕ → Heap → List Entry → Bool
chained ws h es =
    eqb ((last_or outside es).place + end_size) h.bytes && eqb (word ws (last_or outside es).place forward) 0
    && every (λ e. eqb (e.place % 8) 0) es

-- Start and end have 8 bytes each and are in use. (`reaches_end` says the end's size.)
pub record Ended (es : List Entry) : Type 0 where
  pub start_size : (head_or outside es).size ≡ end_size
  pub start_used : (head_or outside es).flags ≡ used
  pub end_used : (last_or outside es).flags ≡ used

abbrev pub ended : List Entry → Bool
ended es =
    eqb (head_or outside es).size end_size && eqb (head_or outside es).flags used
    && eqb (last_or outside es).flags used

-- Each backward link is the place of the chunk before, with the flags in its low bits; p is the place before the first chunk,
-- 0 for the whole chain.
abbrev pub Backed : List ℕ → ℕ → List Entry → Type 0
Backed ws p [] = Unit {0}
Backed ws p (e ∷ es) = (word ws e.place backward ≡ p + e.flags) × Backed ws e.place es

abbrev pub backed : List ℕ → ℕ → List Entry → Bool
backed ws p [] = true
backed ws p (e ∷ es) = eqb (word ws e.place backward) (p + e.flags) && backed ws e.place es

-- Flag bits 1 and 2 are 0; every chunk but start and end has at least 24 bytes; a free chunk's size word is its size.
pub record Sound (ws : List ℕ) (h : Heap) (e : Entry) : Type 0 where
  pub flags : e.flags ≤ used
  pub room : 0 < e.place → e.place + end_size < h.bytes → least ≤ e.size
  pub sized : e.flags ≡ unused → word ws e.place size ≡ e.size

abbrev pub sound : List ℕ → Heap → Entry → Bool
sound ws h e =
    leb e.flags used
    && (not (ltb 0 e.place) || (not (ltb (e.place + end_size) h.bytes) || leb least e.size))
    && (not (eqb e.flags unused) || eqb (word ws e.place size) e.size)

-- Both bin links and the bin word of the chunk at c are 0.
pub record Unbinned (ws : List ℕ) (c : ℕ) : Type 0 where
  pub next : word ws c next_in_bin ≡ 0
  pub previous : word ws c previous_in_bin ≡ 0
  pub bin : word ws c bin ≡ 0

abbrev pub unbinned : List ℕ → ℕ → Bool
unbinned ws c = eqb (word ws c next_in_bin) 0 && eqb (word ws c previous_in_bin) 0 && eqb (word ws c bin) 0

-- The chunk e is free, at c, and in no bin, as donor and top are.
pub record Reserved (ws : List ℕ) (c : ℕ) (e : Entry) : Type 0 where
  pub here : e.place ≡ c
  pub free : e.flags ≡ unused
  pub out : Unbinned ws c

abbrev pub reserved : List ℕ → ℕ → Entry → Bool
reserved ws c e = eqb e.place c && eqb e.flags unused && unbinned ws c

-- The top chunk is directly below the end chunk.
abbrev pub TopIs : List ℕ → Heap → Entry → Type 0
TopIs ws h e = Reserved ws h.top.0 e × (chunk_end e + end_size ≡ h.bytes)

abbrev pub top_is : List ℕ → Heap → Entry → Bool
top_is ws h e = reserved ws h.top.0 e && eqb (chunk_end e + end_size) h.bytes

-- The donor, if there is one, is below the top chunk.
abbrev pub DonorIs : List ℕ → Heap → Entry → Type 0
DonorIs ws h e = Reserved ws h.donor.0 e × (h.donor.0 < h.top.0)

abbrev pub donor_is : List ℕ → Heap → Entry → Bool
donor_is ws h e = reserved ws h.donor.0 e && ltb h.donor.0 h.top.0

-- A doubly linked list: each member's backward bin link is the member before (p for the first, 0 for a whole list),
-- its forward bin link the next one (0 for the last).
abbrev pub Linked : List ℕ → ℕ → List ℕ → Type 0
Linked ws p [] = Unit {0}
Linked ws p (c ∷ cs) =
    (word ws c previous_in_bin ≡ p) × (word ws c next_in_bin ≡ head_or 0 cs) × Linked ws c cs

abbrev pub linked : List ℕ → ℕ → List ℕ → Bool
linked ws p [] = true
linked ws p (c ∷ cs) =
    eqb (word ws c previous_in_bin) p && eqb (word ws c next_in_bin) (head_or 0 cs) && linked ws c cs

-- `bin_of` answered bin i, as a test
abbrev pub is_bin : ℕ → Option ℕ → Bool
is_bin i (Some j) = eqb i j
is_bin i None = false

-- The chunk e is ordinary and bin i takes its size.
abbrev pub BelongsTo : Heap → ℕ → Entry → Type 0
BelongsTo h i e = (ordinary h e ≡ true) × (bin_of (table_of h) e.size ≡ Some i)

abbrev pub belongs_to : Heap → ℕ → Entry → Bool
belongs_to h i e = ordinary h e && is_bin i (bin_of (table_of h) e.size)

-- The list cs of bin i: doubly linked, its last member at the tail; no member twice; each member an ordinary chunk of the chain
-- that belongs to bin i, as its bin word says; outside the small array in non-descending order of size (manual 3.3; document 02, request Five).
-- (No field for the head: `bin_list` begins there.)
pub record Listed (ws : List ℕ) (h : Heap) (es : List Entry) (i : ℕ) (cs : List ℕ) : Type 0 where
  pub tail : get_or h.tails i 0 ≡ last_or 0 cs
  pub links : Linked ws 0 cs
  pub once : Distinct cs
  pub chunks : (c : ℕ) → Mem c cs → (e : Entry) × Mem e es × ((e.place ≡ c) × BelongsTo h i e)
  pub words : (c : ℕ) → Mem c cs → word ws c bin ≡ 8 * i
  pub order : small_bins (table_of h) ≤ i → Ascending (size_on es) cs

abbrev pub listed : List ℕ → Heap → List Entry → ℕ → List ℕ → Bool
listed ws h es i cs =
    eqb (get_or h.tails i 0) (last_or 0 cs) && linked ws 0 cs && distinct cs
    && every (λ c. any (λ e. eqb e.place c && belongs_to h i e) es) cs
    && every (λ c. eqb (word ws c bin) (8 * i)) cs
    && (not (leb (small_bins (table_of h)) i) || ascending (size_on es) cs)

-- The chunk e is in the list of the bin that takes its size.
abbrev pub InItsBin : List ℕ → Heap → Entry → Type 0
InItsBin ws h e =
    (i : ℕ) × (bin_of (table_of h) e.size ≡ Some i) × ((i < h.bins) × Mem e.place (bin_list ws h i))

abbrev pub in_bin : List ℕ → Heap → ℕ → Option ℕ → Bool
in_bin ws h c (Some i) = ltb i h.bins && any (eqb c) (bin_list ws h i)
in_bin ws h c None = false

abbrev pub in_its_bin : List ℕ → Heap → Entry → Bool
in_its_bin ws h e = in_bin ws h e.place (bin_of (table_of h) e.size)

-- Used bytes: the sizes of the chunks of live blocks, added up. Free bytes: those of ordinary chunks, donor and top.
abbrev pub used_bytes : Heap → List Entry → ℕ
used_bytes h es = total (λ e. e.size) (keep (live h) es)

abbrev pub free_bytes : Heap → List Entry → ℕ
free_bytes h es = total (λ e. e.size) (keep (is_free h) es)

-- A chunk of the chain is at c; start and end count. The patrol's place has to be such a place (manual 4; document 02, request Two).
abbrev pub IsChunk : List Entry → ℕ → Type 0
IsChunk es c = (e : Entry) × Mem e es × (e.place ≡ c)

abbrev pub is_chunk : List Entry → ℕ → Bool
is_chunk es c = any (λ e. eqb e.place c) es

-- The heap passes the check with the chain es.
pub record PassesAs (ws : List ℕ) (h : Heap) (es : List Entry) : Type 0 where
  pub fits : Fits ws h
  pub table : Tabled h
  pub chain : Chained ws h es
  pub ends : Ended es
  pub backward : Backed ws 0 es
  pub chunks : (e : Entry) → Mem e es → Sound ws h e
  pub top : (e : Entry) × Mem e es × TopIs ws h e
  pub donor : 0 < h.donor.0 → (e : Entry) × Mem e es × DonorIs ws h e
  pub bins : (i : ℕ) → i < h.bins → Listed ws h es i (bin_list ws h i)
  pub binned : (e : Entry) → Mem e es → ordinary h e ≡ true → InItsBin ws h e
  pub used : h.used ≡ used_bytes h es
  pub patrol : IsChunk es h.patrol.0

-- The heap passes, with the chain as it is read.
abbrev pub Passes : List ℕ → Heap → Type 0
Passes ws h = PassesAs ws h (shape ws h.bytes)

-- `PassesAs` and `Passes` as tests (`passes_iff`).
unfoldable pub passes_as : List ℕ → Heap → List Entry → Bool
passes_as ws h es =
    fits ws h && tabled h && chained ws h es && ended es && backed ws 0 es && every (sound ws h) es
    && any (top_is ws h) es
    && (not (ltb 0 h.donor.0) || any (donor_is ws h) es)
    && every (λ i. listed ws h es i (bin_list ws h i)) (numbers_from 0 h.bins)
    && every (λ e. not (ordinary h e) || in_its_bin ws h e) es
    && eqb h.used (used_bytes h es)
    && is_chunk es h.patrol.0

unfoldable pub passes : List ℕ → Heap → Bool
passes ws h = passes_as ws h (shape ws h.bytes)

-- The four counts: chunks, start and end among them; ordinary chunks; used bytes; free bytes.
abbrev pub counts_of : Heap → List Entry → Counts
counts_of h es =
    record {
      chunks = length es;
      ordinary = length (keep (ordinary h) es);
      used = used_bytes h es;
      free = free_bytes h es;
    }
