-- A draft: the record, chain, lists and stores of a heap that a call is building. A step changes them together.
-- The steps here take a chunk out of a bin, put one into a bin, and link chunks into the chain (manual 5; document 01, "The calls").
use Rattle.std.specs.Prelude.{Bool, true, false, cond, Option, Some, None, List, [], ◌∷◌, ◌++◌, ℕ, ◌+◌, ◌*◌, ◌-◌, eqb, ltb, set}
use Rattle.lists.specs.Lists.{head_or, last_or, keep, up_to, past, on_from}
use Rattle.record.specs.declared.heap.Heap.{Heap}
use Rattle.record.specs.Heap.{table_of, with_ends, with_donor, with_top, with_used, with_patrol}
use Rattle.record.specs.Table.{small_bins, bin_of}
use Rattle.region.specs.Words.{Store, put, forward, backward, size, next_in_bin, previous_in_bin, bin}
use Rattle.record.specs.declared.kinds.Kind.{Kind}
use Rattle.record.specs.declared.kinds.Kind.TheVariants.{Start, InUse, Ordinary, Donor, Top, End}
use Rattle.rules.specs.Shape.{Entry, shape, bin_list, chunk_end}
use Rattle.rules.specs.Kinds.{unused, outside, size_on}

-- the stores stand in the order in which they are made
pub record Draft : Type 0 where
  pub heap : Heap
  pub chain : List Entry
  pub lists : ℕ → List ℕ
  pub stores : List Store

-- the draft with which a call begins: the heap as it is read, and no stores
unfoldable pub as_read : List ℕ → Heap → Draft
as_read ws h = record { heap = h; chain = shape ws h.bytes; lists = bin_list ws h; stores = [] }

-- more stores, after the others
abbrev pub also_writes : List Store → Draft → Draft
also_writes ss d = record { heap = d.heap; chain = d.chain; lists = d.lists; stores = d.stores ++ ss }

-- another record
abbrev pub with_heap : Heap → Draft → Draft
with_heap h d = record { heap = h; chain = d.chain; lists = d.lists; stores = d.stores }

-- used bytes when a chunk in use of `before` bytes becomes one of `after`; 0 stands for no chunk
abbrev pub now_uses : ℕ → ℕ → Draft → Draft
now_uses before after d = with_heap (with_used d.heap (d.heap.used + after - before)) d

-- another place of the patrol
abbrev pub patrols_at : ℕ → Draft → Draft
patrols_at c d = with_heap (with_patrol d.heap c) d

-- the bin links where xs and ys meet in one list: the forward link of the last of xs and the backward link of the first of ys.
-- An empty part has no link to write; head and tail are `relist`'s
abbrev pub followed_by : List ℕ → ℕ → List Store
followed_by [] v = []
followed_by (x ∷ xs) v = put (last_or x xs) next_in_bin v ∷ []

abbrev pub preceded_by : List ℕ → ℕ → List Store
preceded_by [] v = []
preceded_by (y ∷ ys) v = put y previous_in_bin v ∷ []

abbrev pub meet : List ℕ → List ℕ → List Store
meet xs ys = followed_by xs (head_or 0 ys) ++ preceded_by ys (last_or 0 xs)

-- bin i gets the list cs, whose links the stores ss write; head and tail become its first and last member, 0 if it is empty
abbrev pub relist : ℕ → List ℕ → List Store → Draft → Draft
relist i cs ss d =
    record {
      heap = with_ends d.heap (set d.heap.heads i (head_or 0 cs)) (set d.heap.tails i (last_or 0 cs));
      chain = d.chain;
      lists = λ j. cond (eqb j i) cs (d.lists j);
      stores = d.stores ++ ss;
    }

-- the chunk at c leaves bin i: its two neighbours in the list are linked to each other
unfoldable pub leave : ℕ → ℕ → Draft → Draft
leave i c d =
    let xs = up_to (eqb c) (d.lists i) in
    let ys = past (eqb c) (d.lists i) in
    relist i (xs ++ ys) (meet xs ys) d

-- the chunk at c is put into bin i between xs and ys; its bin word is 8 times the bin's number
unfoldable pub put_between : ℕ → List ℕ → ℕ → List ℕ → Draft → Draft
put_between i xs c ys d =
    relist i (xs ++ c ∷ ys) (meet xs (c ∷ []) ++ meet (c ∷ []) ys ++ put c bin (8 * i) ∷ []) d

-- the chunk at c is larger than the chunk e
abbrev pub larger : List Entry → Entry → ℕ → Bool
larger es e c = ltb e.size (size_on es c)

-- the chunk e is put into bin i: at the head of a bin of the small array (last in, first out); in any other before the first larger chunk,
-- and so behind those of equal size (manual 3.3; document 02, request Five)
unfoldable pub put_into : ℕ → Entry → Draft → Draft
put_into i e d =
    let cs = d.lists i in
    let is_larger = larger d.chain e in
    cond (ltb i (small_bins (table_of d.heap)))
    (put_between i [] e.place cs d)
    (put_between i (up_to is_larger cs) e.place (on_from is_larger cs) d)

-- a step on the bin that `bin_of` answered. The case without a bin can't be reached: the check asks for a valid table, a chunk has at least
-- 24 bytes, and in a valid table every size from 24 on has a bin (`bin_from`, record/proofs/TableLaws.antt)
abbrev pub on_bin : (ℕ → Draft → Draft) → Option ℕ → Draft → Draft
on_bin step (Some i) d = step i d
on_bin step None d = d

-- an ordinary chunk leaves the bin of its size
unfoldable pub leave_bin : Entry → Draft → Draft
leave_bin e d = on_bin (λ i. leave i e.place) (bin_of (table_of d.heap) e.size) d

-- a free chunk is put into the bin of its size
unfoldable pub put_in_bin : Entry → Draft → Draft
put_in_bin e d = on_bin (λ i. put_into i e) (bin_of (table_of d.heap) e.size) d

-- the bin links and the bin word of a chunk in no bin: all 0
abbrev pub no_bin_words : ℕ → List Store
no_bin_words c = put c next_in_bin 0 ∷ put c previous_in_bin 0 ∷ put c bin 0 ∷ []

-- a free chunk settles: it becomes the donor or the top, which are in no bin, or is put into its bin
unfoldable pub settle : Kind → Entry → Draft → Draft
settle Donor e d = also_writes (no_bin_words e.place) (with_heap (with_donor d.heap e.place) d)
settle Top e d = also_writes (no_bin_words e.place) (with_heap (with_top d.heap e.place) d)
settle Ordinary e d = put_in_bin e d
settle Start e d = d
settle InUse e d = d
settle End e d = d

-- the store of the size word, which only a free chunk has
abbrev pub size_stores : Entry → Bool → List Store
size_stores e true = put e.place size e.size ∷ []
size_stores e false = []

-- the stores of the headers of neighbouring chunks es, where the chunk before them is at p: both links, and a free one's size
abbrev pub headers : ℕ → List Entry → List Store
headers p [] = []
headers p (e ∷ es) =
    put e.place forward (chunk_end e) ∷ put e.place backward (p + e.flags)
    ∷ size_stores e (eqb e.flags unused) ++ headers e.place es

-- the chain becomes `low`, then the new chunks es, then `high`: the headers of es are written, and the backward link of the chunk above them
unfoldable pub relink : List Entry → List Entry → List Entry → Draft → Draft
relink low es high d =
    let below = last_or outside low in
    let above = head_or outside high in
    record {
      heap = d.heap;
      chain = low ++ es ++ high;
      lists = d.lists;
      stores =
          d.stores ++ headers below.place es
          ++ put above.place backward ((last_or below es).place + above.flags) ∷ [];
    }

-- the chain at one of its chunks: what is below it, the chunk, what is above it
pub record Spot : Type 0 where
  pub low : List Entry
  pub here : Entry
  pub high : List Entry

-- the spot of the first chunk for which a test holds; `outside` if there is none
abbrev pub spot : (Entry → Bool) → List Entry → Spot
spot p es =
    record { low = up_to p es; here = head_or outside (keep p es); high = past p es }
