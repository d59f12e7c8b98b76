-- The invariant of a draft during a call (`Halfway`): of the chunks `stay`, the ordinary ones are in their bins and the other free ones in none.
-- The chunks that a call has taken out and not yet settled are not in `stay`. Here: how the invariant begins, which chunks may be added or left out,
-- and linking chunks into the chain. Leaving a bin is in `LeaveLaws`, settling in `SettleLaws`. Assumes nothing.
use mathlib.Core.Path.{◌≡◌, refl, sym, ap, ◌∙◌}
use mathlib.Core.Logic.{◌⊎◌, inl, inr}
use mathlib.Core.Bool.{true, false, false≢true}
use mathlib.Core.List.{List, [], ◌++◌}
use Prim.Native.Nat.{ℕ, ◌+◌, ◌*◌, ◌/◌, ◌≤◌, ◌<◌}
use native.Mathlib.Decide.{ℕ_discrete}
use native.Mathlib.Omega.{arith}
use lib.ListN.{length, set, length-set}
use lib.Seq.{get_or-set_other}
use Rattle.lists.specs.Lists.{Mem, head_or}
use Rattle.lists.proofs.SplitLaws.{outer_in}
use Rattle.record.specs.declared.heap.Heap.{Heap}
use Rattle.std.specs.Prelude.{Some}
use Rattle.record.specs.Heap.{places, table_of, with_ends, with_donor, with_top, with_used, with_patrol}
use Rattle.record.specs.Table.{bin_of}
use Rattle.region.specs.Words.{Store, written, next_in_bin, previous_in_bin, bin}
use Rattle.region.proofs.WordsLaws.{Off, off, length_written}
use Rattle.rules.specs.Shape.{Entry, shape}
use Rattle.rules.specs.Kinds.{ordinary_kind, kind_at, kind_of, ordinary, outside}
use Rattle.rules.specs.Check.{Unused, Unbinned, Passes}
use Rattle.rules.specs.Draft.{Draft, as_read, relink}
use Rattle.rules.proofs.KindsLaws.{Used, kind_ordinary, ordinary_free, used_not_ordinary}
use Rattle.rules.proofs.NamedLaws.{flags_free, is_top, is_donor}
use Rattle.books.proofs.SegmentLaws.{PassBy}
use Rattle.books.proofs.HeapBooks.{list_none}
use Rattle.books.proofs.WayLaws.{OnWay, way_begins, way_keeps}
use Rattle.books.specs.Books.{books_of}
use Rattle.drafts.proofs.QueueLaws.{late_in, Queued, Lateness, queued_same}
use Rattle.drafts.proofs.LayoutLaws.{Laid}
use Rattle.drafts.proofs.HeaderLaws.{Headed, headed_below}
use Rattle.drafts.proofs.LinkLaws.{link_stores, relink_written, Linking, link_headed, link_off}

-- the record h with the fields of a draft's record that a call may change
abbrev pub record_midway : Heap → Draft → Heap
record_midway h d =
    with_patrol (with_used (with_top (with_donor (with_ends h d.heap.heads d.heap.tails) d.heap.donor.0) d.heap.top.0) d.heap.used)
    d.heap.patrol.0

-- only the bins' heads and tails have changed in the record, so every chunk is still of its kind
abbrev pub EndsAlone : Heap → Draft → Type 0
EndsAlone h d = d.heap ≡ with_ends h d.heap.heads d.heap.tails

pub same_kind : (h : Heap) (d : Draft) → EndsAlone h d → (e : Entry) → kind_of (record_midway h d) e ≡ kind_of h e
same_kind h d s e = ap (λ (g : Heap). kind_at h.bytes g.donor.0 g.top.0 e) s

-- heads and tails have 32 elements and are 0 past the bin count
pub record BinEnds (bins : ℕ) (heads tails : List ℕ) : Type 0 where
  pub head_places : length heads ≡ places
  pub tail_places : length tails ≡ places
  pub heads_end : Unused bins heads
  pub tails_end : Unused bins tails

-- new head and tail for one bin
pub bin_ends_set : {bins : ℕ} {heads tails : List ℕ} (i v u : ℕ) → i < bins → BinEnds bins heads tails → BinEnds bins (set heads i v) (set tails i u)
bin_ends_set {bins} {heads} {tails} i v u l b =
    record {
      head_places = length-set heads i v ∙ b.head_places;
      tail_places = length-set tails i u ∙ b.tail_places;
      heads_end = λ j k. get_or-set_other heads i j v 0 (λ q. omega arith) ∙ b.heads_end j k;
      tails_end = λ j k. get_or-set_other tails i j u 0 (λ q. omega arith) ∙ b.tails_end j k;
    }

-- a chunk of es is at c and belongs in bin i; the chunk e is in the list of the bin that takes its size
pub record Belonging (h : Heap) (donor top : ℕ) (es : List Entry) (i c : ℕ) : Type 0 where
  pub chunk : Entry
  pub member : Mem chunk es
  pub place : chunk.place ≡ c
  pub kind : ordinary_kind (kind_at h.bytes donor top chunk) ≡ true
  pub takes : bin_of (table_of h) chunk.size ≡ Some i

pub record ListedIn (h : Heap) (lists : ℕ → List ℕ) (e : Entry) : Type 0 where
  pub bin : ℕ
  pub takes : bin_of (table_of h) e.size ≡ Some bin
  pub inside : bin < h.bins
  pub member : Mem e.place (lists bin)

-- the same chunk among other chunks; the same bin in other lists
pub belongs_at : {h : Heap} {donor top : ℕ} {es fs : List Entry} {i c : ℕ} (r : Belonging h donor top es i c) → Mem r.chunk fs
    → Belonging h donor top fs i c
belongs_at r m = record { chunk = r.chunk; member = m; place = r.place; kind = r.kind; takes = r.takes }

pub listed_at : {h : Heap} {lists others : ℕ → List ℕ} {e : Entry} (r : ListedIn h lists e) → Mem e.place (others r.bin) → ListedIn h others e
listed_at r m = record { bin = r.bin; takes = r.takes; inside = r.inside; member = m }

-- the ordinary chunks of `stay` are in their bins, which have no other members, and in order there (`QueueLaws`); its other free chunks are in none
pub record Halfway (ws : List ℕ) (h : Heap) (stay : List Entry) (d : Draft) : Type 0 where
  pub heap : d.heap ≡ record_midway h d
  pub ends : BinEnds h.bins d.heap.heads d.heap.tails
  pub way : OnWay (books_of ws d) d.lists h.bins
  pub none : (i : ℕ) → h.bins ≤ i → d.lists i ≡ []
  pub members : (i c : ℕ) → i < h.bins → Mem c (d.lists i) → Belonging h d.heap.donor.0 d.heap.top.0 stay i c
  pub listed : (e : Entry) → Mem e stay → ordinary (record_midway h d) e ≡ true → ListedIn h d.lists e
  pub reserved : (e : Entry) → Mem e stay → e.flags ≡ 0 → ordinary (record_midway h d) e ≡ false → Unbinned (written ws d.stores) e.place
  pub queue : (late : Entry → ℕ) → Lateness ws h late → (i : ℕ) → i < h.bins → Queued (late_in h i late) (ordinary (record_midway h d)) stay (d.lists i)

-- a heap that passes, before the call: all chunks stay
pub halfway_begins : (ws : List ℕ) (h : Heap) → Passes ws h → Halfway ws h (shape ws h.bytes) (as_read ws h)
unfolding as_read
halfway_begins ws h p =
    record {
      heap = refl;
      ends = let t = p.table in record { head_places = t.head_places; tail_places = t.tail_places; heads_end = t.heads_end; tails_end = t.tails_end };
      way = way_begins ws h p;
      none = list_none ws h p;
      members =
          λ i c l m.
          let (e, k, (q, b)) = (p.bins i l).chunks c m in
          record { chunk = e; member = k; place = q; kind = b.0; takes = b.1 };
      listed = λ e m o. let (i, t, (l, k)) = p.binned e m o in record { bin = i; takes = t; inside = l; member = k };
      reserved = λ e m f o. go e m f o (ℕ_discrete e.place h.top.0) (ℕ_discrete e.place h.donor.0);
      queue = λ late t i l. t.queued i l;
    }
  where
    go : (e : Entry) → Mem e (shape ws h.bytes) → e.flags ≡ 0 → ordinary h e ≡ false → Dec (e.place ≡ h.top.0) → Dec (e.place ≡ h.donor.0)
        → Unbinned ws e.place
    go e m f o (yes q) _ = rw q (is_top ws h p e m q).out
    go e m f o (no t) (yes q) =
        let b = (flags_free ws h p e m f).between in
        rw q (is_donor ws h p e m (omega arith) q).out
    go e m f o (no t) (no n) =
        let b = (flags_free ws h p e m f).between in
        absurd
        (false≢true
        (sym o
        ∙ ap ordinary_kind (sym (kind_ordinary h.bytes h.donor.0 h.top.0 e (λ q. omega arith) (λ q. omega arith) (λ q. omega arith) t n))))

-- stores to none of its bin words keep a chunk in no bin
pub unbinned_keeps : {ws : List ℕ} {c : ℕ} (ss : List Store) → PassBy ss c → Unbinned ws c → Unbinned (written ws ss) c
unbinned_keeps {ws} {c} ss o u =
    record {
      next = off ss ws c next_in_bin o.0 ∙ u.next;
      previous = off ss ws c previous_in_bin o.1 ∙ u.previous;
      bin = off ss ws c bin o.2 ∙ u.bin;
    }

-- another list of chunks: it has every ordinary chunk that stayed, and besides chunks that stayed only chunks in use
pub halfway_others : {ws : List ℕ} {h : Heap} {stay rest : List Entry} {d : Draft} → Halfway ws h stay d
    → ((e : Entry) → Mem e stay → ordinary (record_midway h d) e ≡ true → Mem e rest) → ((e : Entry) → Mem e rest → Mem e stay ⊎ Used e)
    → Halfway ws h rest d
halfway_others {ws} {h} {stay} {d = d} f every from =
    record {
      heap = f.heap;
      ends = f.ends;
      way = f.way;
      none = f.none;
      members = λ i c l m. let r = f.members i c l m in belongs_at r (every r.chunk r.member r.kind);
      listed = λ e m o. listed e o (from e m);
      reserved = λ e m z o. reserved e z o (from e m);
      queue = λ late t i l. queued_same (f.queue late t i l) (λ x m o. (stayed x o (from x m), o));
    }
  where
    stayed : (e : Entry) → ordinary (record_midway h d) e ≡ true → Mem e stay ⊎ Used e → Mem e stay
    stayed e o (inl m) = m
    stayed e o (inr u) = absurd (used_not_ordinary (record_midway h d) e u o)

    listed : (e : Entry) → ordinary (record_midway h d) e ≡ true → Mem e stay ⊎ Used e → ListedIn h d.lists e
    listed e o k = f.listed e (stayed e o k) o

    reserved : (e : Entry) → e.flags ≡ 0 → ordinary (record_midway h d) e ≡ false → Mem e stay ⊎ Used e → Unbinned (written ws d.stores) e.place
    reserved e z o (inl m) = f.reserved e m z o
    reserved e z o (inr u) = absurd (omega arith)

-- a list with fewer chunks: those left out are not ordinary
pub halfway_fewer : {ws : List ℕ} {h : Heap} {stay rest : List Entry} {d : Draft} → Halfway ws h stay d → ((e : Entry) → Mem e rest → Mem e stay)
    → ((e : Entry) → Mem e stay → ordinary (record_midway h d) e ≡ true → Mem e rest) → Halfway ws h rest d
halfway_fewer f some every = halfway_others f every (λ e m. inl (some e m))

-- the draft with another chain and other stores
abbrev pub rewritten : List Entry → List Store → Draft → Draft
rewritten es all d = record { heap = d.heap; chain = es; lists = d.lists; stores = all }

-- stores to no bin link and no bin word of a free chunk that stays keep the invariant
pub writes_halfway : {ws : List ℕ} {h : Heap} {stay : List Entry} {d : Draft} (es : List Entry) (ss all : List Store) → Halfway ws h stay d
    → written ws all ≡ written (written ws d.stores) ss → ((e : Entry) → Mem e stay → Laid h.bytes e)
    → ((e : Entry) → Mem e stay → e.flags ≡ 0 → PassBy ss e.place) → Halfway ws h stay (rewritten es all d)
writes_halfway {ws} {h} {stay} {d} es ss all f w laid passed =
    record {
      heap = f.heap;
      ends = f.ends;
      way = rw w (way_keeps (books_of ws d) d.lists h.bins f.way ss (λ i c l m. clear (f.members i c l m)));
      none = f.none;
      members = f.members;
      listed = f.listed;
      reserved = λ e m z o. rw w (unbinned_keeps ss (passed e m z) (f.reserved e m z o));
      queue = f.queue;
    }
  where
    clear : {i c : ℕ} → Belonging h d.heap.donor.0 d.heap.top.0 stay i c → PassBy ss c
    clear r = rw r.place at (passed r.chunk r.member (ordinary_free (record_midway h d) r.chunk r.kind (laid r.chunk r.member).flags))

-- the chain is open: headers are right along `low`, up to the chunk `first`, and along `high`, from the chunk `last` on;
-- what lies between is in no bin
pub record Opened (ws : List ℕ) (h : Heap) (low : List Entry) (first last : Entry) (high : List Entry) (d : Draft) : Type 0 where
  pub halfway : Halfway ws h (low ++ high) d
  pub lower : Headed (written ws d.stores) outside low first
  pub upper : Headed (written ws d.stores) last high outside
  pub same : EndsAlone h d

-- the chain is closed again by the chunks `news`: headers are right along all of it; only free chunks of `news` still have to settle
pub record Closed (ws : List ℕ) (h : Heap) (low news high : List Entry) (d : Draft) : Type 0 where
  pub halfway : Halfway ws h (low ++ high) d
  pub headed : Headed (written ws d.stores) outside (low ++ news ++ high) outside
  pub chain : d.chain ≡ low ++ news ++ high
  pub same : EndsAlone h d

-- linking the chunks `news` in closes the chain
module _ {ws : List ℕ} {h : Heap} {low news high : List Entry} {first last : Entry} {d : Draft}
    (o : Opened ws h low first last high d) (l : Linking h.bytes low news high) where
  outer_laid : (x : Entry) → Mem x (low ++ high) → Laid h.bytes x
  outer_laid x m = l.layout.chunks x (outer_in low news high m)

  passed : (x : Entry) → Mem x (low ++ high) → x.flags ≡ 0 → PassBy (link_stores low news high) x.place
  passed x m z =
      let s = ((outer_laid x m).free z).some in
      let off : (k : ℕ) → 2 ≤ k → k < 6 → Off (x.place / 4 + k) (link_stores low news high) = λ k two six. link_off l m k two (omega arith) in
      (off next_in_bin (omega arith) (omega arith), off previous_in_bin (omega arith) (omega arith), off bin (omega arith) (omega arith))

  pub closes : h.bytes ≤ 4 * length ws → first.place ≡ (head_or (head_or outside high) news).place → Closed ws h low news high (relink low news high d)
  unfolding relink
  closes long q =
      let w = relink_written ws low news high d in
      let k = length_written d.stores ws in
      record {
        halfway = writes_halfway (low ++ news ++ high) (link_stores low news high) _ o.halfway w outer_laid passed;
        headed =
            rw w
            (link_headed l (written ws d.stores) (omega arith) last
            (headed_below (written ws d.stores) outside low first (head_or (head_or outside high) news) q o.lower) o.upper);
        chain = refl;
        same = o.same;
      }
