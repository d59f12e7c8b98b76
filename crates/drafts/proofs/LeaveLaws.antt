-- Members of bins in a draft (`Halfway`) whose chunks are among those of a layout: where they lie; and that the invariant, the headers
-- and the record but for the bins' ends are kept when one of them leaves its bin. Assumes nothing.
use mathlib.Core.Path.{◌≡◌, sym, ap, subst, ◌∙◌}
use mathlib.Core.Logic.{◌≢◌, inl, inr}
use mathlib.Core.Bool.{true, false, false≢true}
use mathlib.Core.List.Memᴰ
use mathlib.Core.List.{List, ◌++◌}
use Prim.Native.Nat.{ℕ, ◌+◌, ◌/◌, ◌%◌, ◌≤◌, ◌<◌}
use native.Mathlib.Decide.{ℕ_discrete}
use native.Mathlib.Omega.{arith}
use lib.Dec.{eqb}
use lib.ListN.{set}
use borrow.Author.Tests.{eq-eqb, ne_eqb}
use Rattle.lists.specs.Lists.{Mem, head_or, last_or, up_to, past}
use Rattle.lists.proofs.SplitLaws.{split_at_member}
use Rattle.record.specs.declared.heap.Heap.{Heap}
use Rattle.record.specs.Heap.{table_of, with_ends}
use Rattle.region.specs.Words.{written, forward, backward, size, next_in_bin, previous_in_bin, bin}
use Rattle.region.proofs.WordsLaws.{Off, written_append}
use Rattle.rules.specs.Shape.{Entry}
use Rattle.rules.specs.Kinds.{ordinary}
use Rattle.rules.specs.Check.{Unbinned}
use Rattle.rules.specs.Draft.{Draft, meet, leave, leave_bin}
use Rattle.rules.proofs.KindsLaws.{ordinary_free}
use Rattle.books.proofs.BooksLaws.{Far}
use Rattle.books.proofs.WayLaws.{relisted, relisted_other, far_no_link, header_no_link, leave_off, way_leaves, way_left_far, way_stays, way_remains}
use Rattle.books.specs.Books.{books_of}
use Rattle.drafts.proofs.QueueLaws.{late_in, Queued, Lateness, queued_without, queued_same}
use Rattle.drafts.proofs.LayoutLaws.{Beside, Layout, laid_once, laid_beside, laid_below}
use Rattle.drafts.proofs.HeaderLaws.{Headed, PassByHeader, headed_keeps}
use Rattle.drafts.proofs.HalfwayLaws.{record_midway, EndsAlone, bin_ends_set, Belonging, belongs_at, listed_at, Halfway, unbinned_keeps}

-- a draft whose chunks `stay` are among the chunks `all` of a layout
pub record Among (ws : List ℕ) (h : Heap) (stay : List Entry) (d : Draft) (all : List Entry) : Type 0 where
  pub halfway : Halfway ws h stay d
  pub layout : Layout h.bytes all
  pub sub : (e : Entry) → Mem e stay → Mem e all

-- the chunk of a member c of a bin
pub record MemberChunk (h : Heap) (stay : List Entry) (d : Draft) (all : List Entry) (c : ℕ) : Type 0 where
  pub chunk : Entry
  pub stays : Mem chunk stay
  pub member : Mem chunk all
  pub place : chunk.place ≡ c
  pub kind : ordinary (record_midway h d) chunk ≡ true
  pub free : chunk.flags ≡ 0
  pub large : 24 ≤ chunk.size
  pub eight : chunk.place % 8 ≡ 0

module _ {ws : List ℕ} {h : Heap} {stay : List Entry} {d : Draft} {all : List Entry} (a : Among ws h stay d all) where
  abbrev f : Halfway ws h stay d
  f = a.halfway

  pub member_chunk : (i c : ℕ) → i < h.bins → Mem c (d.lists i) → MemberChunk h stay d all c
  member_chunk i c l m =
      let r = f.members i c l m in
      let e : Entry = r.chunk in
      let k = a.sub e r.member in
      let x = a.layout.chunks e k in
      let z = ordinary_free (record_midway h d) e r.kind x.flags in
      record { chunk = e; stays = r.member; member = k; place = r.place; kind = r.kind; free = z; large = (x.free z).some; eight = x.eight }

  -- a chunk that is not ordinary is in no list
  pub not_listed_lem : (x : Entry) → Mem x stay → ordinary (record_midway h d) x ≡ false → (i : ℕ) → i < h.bins → Mem x.place (d.lists i) → ⊥
  not_listed_lem x m o i l k =
      let r = member_chunk i x.place l k in
      let q = laid_once a.layout r.member (a.sub x m) r.place in
      false≢true (sym o ∙ ap (ordinary (record_midway h d)) (sym q) ∙ r.kind)

  -- a member ends, with its 24 bytes, below every chunk above it
  pub midway_below : (i c : ℕ) → i < h.bins → Mem c (d.lists i) → (x : Entry) → Mem x all → (c % 8 ≡ 0) × (c < x.place → c + 24 ≤ x.place)
  midway_below i c l m x k =
      let r = member_chunk i c l m in
      (omega arith, λ b. let s = laid_below a.layout r.member k r.free (omega arith) in omega arith)

  pub member_far : (x : Entry) → Mem x all → 24 ≤ x.size → ((i : ℕ) → i < h.bins → Mem x.place (d.lists i) → ⊥)
      → (i c : ℕ) → i < h.bins → Mem c (d.lists i) → Far x.place c
  member_far x k s out i c l m =
      let r = member_chunk i c l m in
      go r.chunk r.place r.large (laid_beside a.layout k r.member (λ q. out i l (Memᴰ.cast (q ∙ r.place) m)))
    where
      go : (e : Entry) → e.place ≡ c → 24 ≤ e.size → Beside x e → Far x.place c
      go e q t (inl b) = omega arith
      go e q t (inr b) = omega arith

  -- the chunk e leaves its bin
  module _ {e : Entry} (m : Mem e stay) (o : ordinary (record_midway h d) e ≡ true) where
    abbrev own : ℕ
    own = (f.listed e m o).bin

    abbrev before : List ℕ
    before = up_to (eqb e.place) (d.lists own)

    abbrev after : List ℕ
    after = past (eqb e.place) (d.lists own)

    inside : own < h.bins
    inside = (f.listed e m o).inside

    there : Mem e.place (d.lists own)
    there = (f.listed e m o).member

    leaves_is : leave_bin e d ≡ leave own e.place d
    unfolding leave_bin
    leaves_is = rw (ap table_of f.heap, (f.listed e m o).takes)

    leave_written : written ws (leave_bin e d).stores ≡ written (written ws d.stores) (meet before after)
    unfolding leave
    leave_written = rw leaves_is (written_append d.stores (meet before after) ws)

    -- in the record only the bins' ends change
    pub leave_same : EndsAlone h d → EndsAlone h (leave_bin e d)
    unfolding leave
    leave_same s =
        rw leaves_is
        (ap (λ (g : Heap). with_ends g (set d.heap.heads own (head_or 0 (before ++ after))) (set d.heap.tails own (last_or 0 (before ++ after)))) s)

    -- headers of chunks es of the layout stay right
    pub leave_headed : (b : Entry) (es : List Entry) (n : Entry) → ((x : Entry) → Mem x es → Mem x all)
        → Headed (written ws d.stores) b es n → Headed (written ws (leave_bin e d).stores) b es n
    leave_headed b es n s k =
        rw leave_written (headed_keeps (meet before after) (written ws d.stores) b es n (λ x j. spared x (s x j)) k)
      where
        header_off : (x : Entry) → Mem x all → (k : ℕ) → k < 3 → Off (x.place / 4 + k) (meet before after)
        header_off x j k l =
            leave_off e.place (d.lists own) (x.place / 4 + k)
            (header_no_link x.place k (d.lists own) l (a.layout.chunks x j).eight (λ c i. midway_below own c inside i x j))

        spared : (x : Entry) → Mem x all → PassByHeader (meet before after) x
        spared x j = (header_off x j forward (omega arith), header_off x j backward (omega arith), λ _. header_off x j size (omega arith))

    -- all chunks but e stay: they are `rest`
    module _ {rest : List Entry} (others : (x : Entry) → Mem x rest → Mem x stay × (x.place ≢ e.place))
        (every : (x : Entry) → Mem x stay → x.place ≢ e.place → Mem x rest) where
      abbrev lists : ℕ → List ℕ
      lists = relisted own (before ++ after) d.lists

      still_unbinned : (x : Entry) → Mem x stay → x.flags ≡ 0 → ordinary (record_midway h d) x ≡ false
          → Unbinned (written (written ws d.stores) (meet before after)) x.place
      still_unbinned x j z u =
          let k = a.sub x j in
          let i = a.layout.chunks x k in
          let passed : (k : ℕ) → k < 6 → Off (x.place / 4 + k) (meet before after) =
          λ n s.
          leave_off e.place (d.lists own) (x.place / 4 + n)
          (far_no_link x.place n (d.lists own) s i.eight
          (λ c v. ((midway_below own c inside v x k).0, member_far x k (i.free z).some (not_listed_lem x j u) own c inside v))) in
          unbinned_keeps (meet before after) (passed next_in_bin (omega arith), passed previous_in_bin (omega arith), passed bin (omega arith)) (f.reserved x j z u)

      member_rest : (i c : ℕ) → i < h.bins → Mem c (lists i) → Belonging h d.heap.donor.0 d.heap.top.0 rest i c
      member_rest i c l k =
          let g = way_left_far (books_of ws d) d.lists h.bins f.way own e.place inside there i c l k in
          let r = f.members i c l (way_stays (books_of ws d) d.lists h.bins f.way own e.place inside there i k) in
          belongs_at r (every r.chunk r.member (λ q. omega arith))

      left_queue : (late : Entry → ℕ) → Lateness ws h late → (i : ℕ) → i < h.bins → Dec (i ≡ own)
          → Queued (late_in h i late) (ordinary (record_midway h d)) stay (lists i)
      left_queue late t i l (yes q) =
          rw (eq-eqb i own q, q)
          (queued_without before e.place after
          (subst (Queued (late_in h own late) (ordinary (record_midway h d)) stay) (split_at_member there) (f.queue late t own inside)))
      left_queue late t i l (no n) = rw (ne_eqb i own n) (f.queue late t i l)

      pub leave_halfway : Halfway ws h rest (leave_bin e d)
      unfolding leave
      leave_halfway =
          rw leaves_is
          (let w = written_append d.stores (meet before after) ws in
          record {
            heap = ap (λ (g : Heap). with_ends g (set d.heap.heads own (head_or 0 (before ++ after))) (set d.heap.tails own (last_or 0 (before ++ after)))) f.heap;
            ends = bin_ends_set own (head_or 0 (before ++ after)) (last_or 0 (before ++ after)) inside f.ends;
            way = rw w (way_leaves (books_of ws d) d.lists h.bins f.way own e.place inside there);
            none = λ i l. relisted_other own (before ++ after) d.lists i (λ q. let s = inside in omega arith) ∙ f.none i l;
            members = member_rest;
            listed =
                λ x k u.
                let r = f.listed x (others x k).0 u in
                listed_at r (way_remains (books_of ws d) d.lists h.bins f.way own e.place inside there r.bin (others x k).1 r.member);
            reserved = λ x k z u. rw w (still_unbinned x (others x k).0 z u);
            queue =
                λ late t i l.
                queued_same (left_queue late t i l (ℕ_discrete i own)) (λ x k u. ((others x k).0, u));
          })
