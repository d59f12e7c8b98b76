-- The rules' steps on a heap in the making, beside what the code makes of its books: a chunk leaves its bin, a chunk is linked in,
-- a chunk is put into its bin. After each step the books are those of the draft. Assumes nothing.
use mathlib.Core.Path.{◌≡◌, refl, sym, ap}
use mathlib.Core.Logic.{◌≢◌}
use mathlib.Core.List.{List, [], ◌∷◌, ◌++◌}
use Prim.Native.Nat.{ℕ, ◌+◌, ◌-◌, ◌/◌, ◌%◌, ◌^◌, ◌≤◌, ◌<◌}
use native.Mathlib.Decide.{dec_lt}
use native.Mathlib.Nat.{add-zero}
use native.Mathlib.Omega.{arith}
use lib.Dec.{eqb, ltb}
use lib.ListN.{length, length-take}
use Rattle.lists.specs.Lists.{Mem, head_or, last_or, up_to, past}
use Rattle.lists.proofs.CountLaws.{distinct_fits}
use Rattle.record.specs.declared.heap.Heap.{Heap}
use Rattle.record.specs.declared.kinds.Kind.{Kind}
use Rattle.record.specs.declared.kinds.Kind.TheVariants.{Start, InUse, Ordinary, Donor, Top, End}
use Rattle.std.specs.Prelude.{Some}
use Rattle.record.specs.Heap.{table_of, summary_of, with_summary, with_ends}
use Rattle.record.specs.Table.{small_bins, bin_of}
use Rattle.record.proofs.TableLaws.{bin_from}
use Rattle.region.specs.Words.{Store, put, written, backward, forward, size}
use Rattle.region.proofs.WordsLaws.{written_append}
use Rattle.headers.specs.Headers.{above_words, free_words}
use Rattle.rules.specs.Shape.{Entry, entry, bin_list}
use Rattle.rules.specs.Kinds.{unused, outside}
use Rattle.rules.specs.Check.{Passes}
use Rattle.rules.specs.Draft.{Draft, as_read, meet, leave, leave_bin, larger, put_between, put_in_bin, no_bin_words, relink, settle}
use Rattle.rules.specs.Join.{joined_as}
use Rattle.books.specs.Books.{Books, books, books_of}
use Rattle.bins.specs.Bins.{leave_m}
use Rattle.bins.proofs.BinsMeaning.{member_leaves, put_into_is}
use Rattle.books.proofs.SegmentLaws.{PassBy}
use Rattle.books.proofs.HeapBooks.{list_short}
use Rattle.books.proofs.BooksLaws.{Far, put_stores, put_at}
use Rattle.books.proofs.WayLaws.{OnWay, way_begins, way_keeps, way_leaves, way_left_far, way_stays, way_remains}
use Rattle.settling.specs.Settling.{arrival, put_binned_m, put_in_bin_m, also_written, settle_m, settled_m}
use Rattle.drafts.proofs.PutLaws.{put_between_lem}
use Rattle.drafts.proofs.LinkLaws.{link_stores, relink_written}
use Rattle.drafts.proofs.WaitingLaws.{MembersSized}

-- a header at y is not above the chunk at x, or stands clear above that one's header
abbrev pub Clears : ℕ → ℕ → Type 0
Clears x y = (y % 8 ≡ 0) × (x < y → x + 24 ≤ y)

-- all stores are to the first three words of headers that the one at x does not reach into
abbrev pub HeaderStores : ℕ → List Store → Type 0
HeaderStores x [] = Unit {0}
HeaderStores x (s ∷ ss) = (s.number ≤ 2) × Clears x s.chunk × HeaderStores x ss

-- so none is to a link or a bin word of the chunk at x
header_stores_off : (x : ℕ) (ss : List Store) → x % 8 ≡ 0 → HeaderStores x ss → PassBy ss x
header_stores_off x [] z a = (tt, tt, tt)
header_stores_off x (s ∷ ss) z (a, (e, f), r) =
    let (nexts, previouses, bins) = header_stores_off x ss z r in
    let (next, previous, bin) = apart s.chunk s.number a e (dec_lt x s.chunk) f in
    ((next, nexts), (previous, previouses), (bin, bins))
  where
    apart : (y n : ℕ) → n ≤ 2 → y % 8 ≡ 0 → Dec (x < y) → (x < y → x + 24 ≤ y)
        → (x / 4 + 3 ≢ y / 4 + n) × (x / 4 + 4 ≢ y / 4 + n) × (x / 4 + 5 ≢ y / 4 + n)
    apart y n a e (yes l) f = let g = f l in omega arith
    apart y n a e (no l) f = omega arith

-- on the way from a heap that passes chunks have left bins, and nothing else has changed for those that are still there
pub record Follows (ws : List ℕ) (h : Heap) (d : Draft) : Type 0 where
  pub way : OnWay (books_of ws d) d.lists h.bins
  pub from : (j c : ℕ) → j < h.bins → Mem c (d.lists j) → Mem c (bin_list ws h j)
  pub table : table_of d.heap ≡ table_of h
  pub heap : d.heap ≡ with_ends h d.heap.heads d.heap.tails

pub follows_begins : (ws : List ℕ) (h : Heap) → Passes ws h → Follows ws h (as_read ws h)
unfolding as_read
follows_begins ws h p =
    record { way = way_begins ws h p; from = λ j c l m. m; table = refl; heap = refl }

-- the chunk e leaves its bin, which makes `after` of the draft d
pub record LeavesBin (ws : List ℕ) (h : Heap) (d : Draft) (e : Entry) (after : Draft) : Type 0 where
  pub is : leave_m (books_of ws d) e.place ≡ books_of ws after
  pub follows : Follows ws h after
  pub keeps : (j c : ℕ) → c ≢ e.place → Mem c (d.lists j) → Mem c (after.lists j)
  pub far : (j c : ℕ) → j < h.bins → Mem c (after.lists j) → Far e.place c

-- a chunk of s bytes at c takes its place, which makes `after` of a draft with the books b
pub record Settled (ws : List ℕ) (h : Heap) (b : Books) (k : Kind) (c s : ℕ) (after : Draft) : Type 0 where
  pub is : settle_m b (table_of h) (arrival k c s) ≡ books_of ws after
  pub heap : after.heap ≡ with_ends (with_summary h (settled_m (summary_of h) k c)) after.heap.heads after.heap.tails

module _ (ws : List ℕ) (h : Heap) (d : Draft) (f : Follows ws h d) where
  module _ (e : Entry) (i : ℕ) (l : i < h.bins) (t : bin_of (table_of h) e.size ≡ Some i) (m : Mem e.place (d.lists i)) where
    leaves_is : leave_bin e d ≡ leave i e.place d
    unfolding leave_bin
    leaves_is = rw (f.table, t)

    pub leave_step : LeavesBin ws h d e (leave_bin e d)
    unfolding leave
    leave_step =
        rw leaves_is
        (let w = way_leaves (books_of ws d) d.lists h.bins f.way i e.place l m in
        let xs = up_to (eqb e.place) (d.lists i) in
        let ys = past (eqb e.place) (d.lists i) in
        let a = written_append d.stores (meet xs ys) ws in
        record {
          is = rw a (member_leaves f.way i e.place l m);
          follows =
              record {
                way = rw a w;
                from = λ j c lj k. f.from j c lj (way_stays (books_of ws d) d.lists h.bins f.way i e.place l m j k);
                table = f.table;
                heap = rw f.heap;
              };
          keeps = λ j c ne k. way_remains (books_of ws d) d.lists h.bins f.way i e.place l m j ne k;
          far = λ j c lj k. way_left_far (books_of ws d) d.lists h.bins f.way i e.place l m j c lj k;
        })

  -- the chain is linked anew between low and high, clear of the headers of all that are in bins
  pub relink_follows : (low es high : List Entry) → ((j x : ℕ) → j < h.bins → Mem x (d.lists j) → HeaderStores x (link_stores low es high))
      → Follows ws h (relink low es high d)
  unfolding relink
  relink_follows low es high g =
      record {
        way =
            rw (relink_written ws low es high d)
            (way_keeps (books_of ws d) d.lists h.bins f.way (link_stores low es high)
            (λ j x l m. header_stores_off x (link_stores low es high) ((f.way.holds j l).nodes x m).eight (g j x l m)));
        from = f.from;
        table = f.table;
        heap = f.heap;
      }

  -- a free chunk from one place to another is linked in between low and high
  module _ (low high : List Entry) (c to : ℕ) (up : c ≤ to) (next : (head_or outside high).place ≡ to)
      (small : c + (head_or outside high).flags < 4294967296) where
    abbrev linked : Draft
    linked = relink low (entry c (to - c) unused ∷ []) high d

    abbrev header_stores : List Store
    header_stores =
        put c forward to ∷ put c backward (last_or outside low).place ∷ put c size (to - c)
        ∷ put to backward (c + (head_or outside high).flags) ∷ []

    linked_words_lem : written ws linked.stores ≡ written (written ws d.stores) header_stores
    unfolding relink
    linked_words_lem =
        let z : c + (to - c) ≡ to = omega arith in
        rw (z, next, add-zero, written_append, written_append)

    pub link_step : also_written (also_written (books_of ws d) (free_words (last_or outside low).place c to)) (above_words c to (head_or outside high).flags) ≡ books_of ws linked
    unfolding relink free_words above_words
    link_step =
        let m : (c + (head_or outside high).flags) % 2 ^ 32 ≡ c + (head_or outside high).flags = omega arith in
        rw (m, linked_words_lem)

    -- no member's header reaches up to one that is written
    pub link_follows : ((j x : ℕ) → j < h.bins → Mem x (bin_list ws h j) → (x < c → x + 24 ≤ c) × (x < to → x + 24 ≤ to))
        → c % 8 ≡ 0 → to % 8 ≡ 0 → Follows ws h linked
    link_follows g zc zt =
        relink_follows low (entry c (to - c) unused ∷ []) high
        (λ j x l m.
        let (below_new, below_next) = g j x l (f.from j x l m) in
        let a : Clears x c = (zc, below_new) in
        let b : Clears x (head_or outside high).place = rw next (zt, below_next) in
        ((omega arith, a, (omega arith, a, (omega arith, a, (omega arith, b, tt))))))

  -- a chunk is put into the bin of its size; the size words of all that are in bins are right
  module _ (p : Passes ws h) (sized : MembersSized ws h d) (c s u : ℕ) (large : 24 ≤ s) (below : s ≤ 65536) where
    -- a list has no more members than it had before the call
    short : (i : ℕ) → i < h.bins → length (d.lists i) ≤ 8192
    short i l =
        let few = distinct_fits (d.lists i) (bin_list ws h i) (f.way.holds i l).once (λ x m. f.from i x l m) in
        let all = list_short ws h p i in
        omega arith

    between_is : (i : ℕ) (xs ys : List ℕ) → put_at (books_of ws d) i xs c ys ≡ books_of ws (put_between i xs c ys d)
    unfolding put_between
    between_is i xs ys = rw (written_append d.stores (put_stores i xs c ys) ws)

    pub put_step : put_in_bin_m (books_of ws d) (table_of h) c s ≡ books_of ws (put_in_bin (entry c s u) d)
    unfolding put_in_bin_m put_binned_m put_in_bin
    put_step =
        let (i, is, taken) = bin_from (table_of h) p.table.valid s large in
        let l : i < h.bins = omega (arith, taken.inside, length-take h.bins h.sizes) in
        let e : Entry = entry c s u in
        rw (
          f.table,
          is,
          put_between_lem i e d,
          f.table,
          put_into_is f.way i c l s (omega arith) (larger d.chain e) (λ x m. ap (ltb s) (sym (sized i x l m))) (short i l) (ltb i (small_bins (table_of h))),
        )
        (between_is i _ _)

    -- of the record only the bins' ends change
    put_keeps : let after = put_in_bin (entry c s u) d in after.heap ≡ with_ends h after.heap.heads after.heap.tails
    unfolding put_in_bin put_between
    put_keeps =
        let (i, is, taken) = bin_from (table_of h) p.table.valid s large in
        rw (f.table, is, put_between_lem i (entry c s u) d) (rw f.heap)

    put_settles : Settled ws h (books_of ws d) Ordinary c s (settle Ordinary (entry c s u) d)
    unfolding settle_m settle
    put_settles = record { is = put_step; heap = put_keeps }

    cleared_is : books (written (written ws d.stores) (no_bin_words c)) d.heap.heads d.heap.tails
        ≡ books (written ws (d.stores ++ no_bin_words c)) d.heap.heads d.heap.tails
    cleared_is = rw written_append

    -- the chunk takes its place as what it becomes
    pub settle_step : (over : Kind) → Settled ws h (books_of ws d) (joined_as over) c s (settle (joined_as over) (entry c s u) d)
    unfolding settle_m settle
    settle_step Start = put_settles
    settle_step InUse = put_settles
    settle_step Ordinary = put_settles
    settle_step Donor = record { is = cleared_is; heap = rw f.heap }
    settle_step Top = record { is = cleared_is; heap = rw f.heap }
    settle_step End = put_settles
