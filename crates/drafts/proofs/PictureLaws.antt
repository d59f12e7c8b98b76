-- A draft that is a picture of the heap (`Pictured`): once its stores are written, the words pass the check with its record and are read
-- as its chain and lists. So it is if the invariant holds of all chunks, headers are right, and so are donor, top, used bytes and the patrol's
-- place. Assumes nothing.
use mathlib.Core.Path.{◌≡◌, sym, ap, ◌∙◌}
use mathlib.Core.List.{List}
use Prim.Native.Nat.{ℕ, ◌≤◌, ◌<◌}
use native.Mathlib.Decide.{dec_lt}
use native.Mathlib.Omega.{arith}
use lib.ListN.{length}
use Rattle.lists.specs.Lists.{Mem, Before}
use Rattle.lists.proofs.AscendingLaws.{before_members, before_ascending}
use Rattle.record.specs.declared.heap.Heap.{Heap}
use Rattle.record.specs.Heap.{table_of}
use Rattle.region.specs.Words.{written}
use Rattle.region.proofs.WordsLaws.{length_written}
use Rattle.rules.specs.Shape.{Entry, shape, members, bin_list}
use Rattle.rules.specs.Kinds.{ordinary_kind, live, outside, size_on}
use Rattle.rules.specs.Check.{Fits, Tabled, TopIs, DonorIs, Listed, used_bytes, IsChunk, Passes, PassesAs}
use Rattle.rules.specs.Draft.{Draft}
use Rattle.rules.proofs.ChainLaws.{places_fit}
use Rattle.rules.proofs.KindsLaws.{kind_top, kind_donor}
use Rattle.rules.proofs.ShapeLaws.{members_steps, read_none}
use Rattle.rules.proofs.SpotLaws.{bounds}
use Rattle.books.proofs.WayLaws.{way_leads}
use Rattle.drafts.proofs.LivesLaws.{live_same}
use Rattle.drafts.proofs.PostsLaws.{Posts}
use Rattle.drafts.proofs.QueueLaws.{Lateness, QueuedIn, all_late}
use Rattle.drafts.proofs.LayoutLaws.{Layout, laid_few, laid_sized}
use Rattle.drafts.proofs.HeaderLaws.{Headed, headed_backed, reads_as, headed_chained, headed_sound}
use Rattle.drafts.proofs.HalfwayLaws.{record_midway, Halfway}

-- the words with the draft's stores, and the draft's record, pass the check and are read as the draft's chain and lists
pub record Pictured (ws : List ℕ) (d : Draft) : Type 0 where
  pub passes : Passes (written ws d.stores) d.heap
  pub chain : shape (written ws d.stores) d.heap.bytes ≡ d.chain
  pub lists : (i : ℕ) → bin_list (written ws d.stores) d.heap i ≡ d.lists i

-- when the draft, made on the heap h, is written, the table is the same, and late chunks still stand as they should among the others of equal size
pub record StaysQueued (ws : List ℕ) (h : Heap) (d : Draft) : Type 0 where
  pub table : table_of d.heap ≡ table_of h
  pub stand : (late : Entry → ℕ) → Lateness ws h late → QueuedIn late (written ws d.stores) d.heap

-- a draft that is complete: all chunks es of its chain stay, in a layout, with right headers; donor, top, used bytes and the patrol's place
-- are right
pub record Complete (ws : List ℕ) (h : Heap) (es : List Entry) (d : Draft) : Type 0 where
  pub halfway : Halfway ws h es d
  pub layout : Layout h.bytes es
  pub headed : Headed (written ws d.stores) outside es outside
  pub posts : Posts (record_midway h d) es
  pub chain : d.chain ≡ es
  pub used : d.heap.used ≡ used_bytes (record_midway h d) es
  pub patrol : IsChunk es d.heap.patrol.0

module _ {ws : List ℕ} {h : Heap} (p : Passes ws h) {es : List Entry} {d : Draft} (complete : Complete ws h es d) where
  abbrev words : List ℕ
  words = written ws d.stores

  abbrev f : Halfway ws h es d
  f = complete.halfway

  abbrev y : Layout h.bytes es
  y = complete.layout

  abbrev k : Headed words outside es outside
  k = complete.headed

  some_bytes : 0 < h.bytes
  some_bytes = let b = bounds ws h p in omega arith

  chain_read : shape words h.bytes ≡ es
  chain_read = reads_as words h.bytes es some_bytes y k

  -- a list has no more members than the chain has chunks
  picture_list_short : (i : ℕ) → i < h.bins → length (d.lists i) ≤ h.bytes
  picture_list_short i l =
      let s = places_fit (d.lists i) es (f.way.holds i l).once (λ c m. let r = f.members i c l m in (r.chunk, r.member, r.place)) in
      let few = laid_few y in
      omega arith

  list_read : (i : ℕ) → bin_list words (record_midway h d) i ≡ d.lists i
  unfolding members
  list_read i = go (dec_lt i h.bins)
    where
      go : Dec (i < h.bins) → bin_list words (record_midway h d) i ≡ d.lists i
      go (yes l) =
          rw (f.way.holds i l).head
          (members_steps h.bytes words (d.lists i) (picture_list_short i l) (way_leads f.way i l))
      go (no n) = rw (f.ends.heads_end i (omega arith), f.none i (omega arith)) (read_none words h.bytes)

  top_stands : (e : Entry) × Mem e es × TopIs words (record_midway h d) e
  top_stands =
      let t = complete.posts.top in
      let b = (y.chunks t.chunk t.member).free t.free in
      let o = kind_top h.bytes d.heap.donor.0 d.heap.top.0 t.chunk (λ q. omega arith) (λ q. omega arith) (λ q. omega arith) t.place in
      let out = f.reserved t.chunk t.member t.free (ap ordinary_kind (sym o)) in
      (t.chunk, t.member, (record { here = t.place; free = t.free; out = rw t.place at out }, t.reaches))

  donor_stands : 0 < d.heap.donor.0 → (e : Entry) × Mem e es × DonorIs words (record_midway h d) e
  donor_stands some =
      let t = complete.posts.donor some in
      let b = (y.chunks t.chunk t.member).free t.free in
      let o = kind_donor h.bytes d.heap.donor.0 d.heap.top.0 t.chunk (λ q. omega arith) (λ q. omega arith) (λ q. omega arith) (λ q. omega arith) t.place in
      let out = f.reserved t.chunk t.member t.free (ap ordinary_kind (sym o)) in
      (t.chunk, t.member, (record { here = t.place; free = t.free; out = rw t.place at out }, t.below))

  fits_still : Fits words (record_midway h d)
  fits_still =
      let n = length_written d.stores ws in
      record { enough = rw n p.fits.enough; not_too_many = rw n p.fits.not_too_many; bytes = rw n p.fits.bytes }

  table_still : Tabled (record_midway h d)
  table_still =
      let t = p.table in
      record {
        size_places = t.size_places;
        head_places = f.ends.head_places;
        tail_places = f.ends.tail_places;
        bins = t.bins;
        valid = t.valid;
        sizes_end = t.sizes_end;
        heads_end = f.ends.heads_end;
        tails_end = f.ends.tails_end;
      }

  -- a list is in order of size
  in_order_lem : (i : ℕ) → i < h.bins → (x z : ℕ) → Before x z (d.lists i) → size_on es x ≤ size_on es z
  in_order_lem i l x z b =
      let (m, n) = before_members x z (d.lists i) b in
      let r = f.members i x l m in
      let s = f.members i z l n in
      let q = (f.queue _ (all_late ws h p) i l).stand r.chunk s.chunk r.member s.member r.kind s.kind (rw (r.place, s.place) b) in
      let a = ap (size_on es) (sym r.place) ∙ laid_sized y r.member in
      let c = ap (size_on es) (sym s.place) ∙ laid_sized y s.member in
      omega arith

  listed_still : (i : ℕ) → i < h.bins → Listed words (record_midway h d) es i (bin_list words (record_midway h d) i)
  listed_still i l =
      let b = f.way.holds i l in
      rw (list_read i)
      (record {
        tail = b.tail;
        links = b.links;
        once = b.once;
        chunks = λ c m. let r = f.members i c l m in (r.chunk, r.member, (r.place, (r.kind, r.takes)));
        words = λ c m. f.way.binned i c l m;
        order = λ large. before_ascending (size_on es) (d.lists i) (in_order_lem i l);
      })

  passes_as_lem : PassesAs words (record_midway h d) es
  passes_as_lem =
      record {
        fits = fits_still;
        table = table_still;
        chain = headed_chained y k some_bytes;
        ends = y.ended;
        backward = headed_backed words outside es outside k;
        chunks = headed_sound y k;
        top = top_stands;
        donor = donor_stands;
        bins = listed_still;
        binned = λ e m o. let r = f.listed e m o in (r.bin, r.takes, (r.inside, rw (list_read r.bin) r.member));
        used = complete.used;
        patrol = complete.patrol;
      }

  -- it is a picture
  pub pictured : Pictured ws d
  pictured =
      record {
        passes = rw (f.heap, chain_read) passes_as_lem;
        chain = rw f.heap (chain_read ∙ sym complete.chain);
        lists = λ i. rw f.heap (list_read i);
      }

  -- and its lists stand as the draft's do
  pub picture_queued : StaysQueued ws h d
  picture_queued =
      record {
        table = ap table_of f.heap;
        stand = λ late t. rw f.heap (λ i l. rw (chain_read, list_read i) (f.queue late t i l));
      }

-- a picture's record has the heap bytes of before, so it finds the same chunks live
pub pictured_live : (ws : List ℕ) (h : Heap) → Passes ws h → (d : Draft) → Pictured ws d → (e : Entry) → live d.heap e ≡ live h e
pictured_live ws h p d k e =
    let l = length_written d.stores ws in
    live_same d.heap h (omega arith) e
