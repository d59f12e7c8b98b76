-- A free chunk that was linked into the chain settles: it is put into its bin, or becomes the donor or the top, which are in no bin.
-- The invariant `Halfway` then holds with it among the chunks that stay. Assumes nothing.
use mathlib.Core.Path.{◌≡◌, refl, sym, ap, subst, ◌∙◌}
use mathlib.Core.Logic.{◌≢◌, ◌⊎◌, inl, inr}
use mathlib.Core.Bool.{Bool, true, false, cond, false≢true}
use mathlib.Core.List.Memᴰ
use mathlib.Core.List.{List, [], ◌∷◌, ◌++◌}
use Prim.Native.Nat.{ℕ, ◌+◌, ◌*◌, ◌-◌, ◌/◌, ◌≤◌, ◌<◌}
use native.Mathlib.Decide.{ℕ_discrete, dec_lt}
use native.Mathlib.Omega.{arith}
use lib.Dec.{ltb}
use lib.ListN.{length, length-take}
use borrow.Author.Tests.{eq-eqb, ne_eqb, ltb-true, ltb-false}
use Rattle.lists.specs.Lists.{Mem, head_or, last_or, up_to, on_from, Before}
use Rattle.lists.proofs.AscendingLaws.{before_members, before_right, parts_at_first, before_first, from_first}
use Rattle.lists.proofs.MembersLaws.{member_with}
use Rattle.record.specs.declared.heap.Heap.{Heap}
use Rattle.record.specs.declared.kinds.Kind.TheVariants.{Ordinary, Donor, Top}
use Rattle.std.specs.Prelude.{Some}
use Rattle.record.specs.Heap.{table_of, with_donor, with_top}
use Rattle.record.specs.Table.{bin_of, small_bins}
use Rattle.record.proofs.TableLaws.{bin_takes, bin_from, one_size}
use Rattle.region.specs.Words.{Store, written, forward, backward, size, next_in_bin, previous_in_bin, bin}
use Rattle.region.proofs.WordsLaws.{Off, got, length_written, written_append}
use Rattle.rules.specs.Shape.{Entry, shape}
use Rattle.rules.specs.Kinds.{ordinary_kind, kind_at, kind_of, ordinary, outside, size_on}
use Rattle.rules.specs.Check.{Unbinned, Passes}
use Rattle.rules.specs.Draft.{Draft, also_writes, with_heap, larger, put_between, put_in_bin, no_bin_words, settle}
use Rattle.rules.proofs.SpotLaws.{Between, bounds}
use Rattle.books.specs.Books.{books, books_of}
use Rattle.books.proofs.SegmentLaws.{Node, PassBy, NoLink}
use Rattle.books.proofs.BooksLaws.{Far, put_stores, put_off}
use Rattle.books.proofs.WayLaws.{OnWay, relisted, relisted_same, relisted_other, far_no_link, header_no_link, way_keeps, Placing, way_puts, is_from}
use Rattle.drafts.proofs.PutLaws.{part_before, part_after, parts_whole, put_between_lem}
use Rattle.drafts.proofs.QueueLaws.{standing, late_in, Queued, Lateness, all_late, queued_same, queued_more, queued_with}
use Rattle.drafts.proofs.LayoutLaws.{Beside, Laid, Layout, laid_once, laid_sized, laid_beside, laid_eights, laid_below}
use Rattle.drafts.proofs.HeaderLaws.{Headed, PassByHeader, headed_keeps}
use Rattle.drafts.proofs.HalfwayLaws.{record_midway, EndsAlone, bin_ends_set, Belonging, ListedIn, belongs_at, listed_at, Halfway, unbinned_keeps}
use Rattle.drafts.proofs.LeaveLaws.{Among, member_chunk, not_listed_lem, midway_below, member_far}

-- a step from the draft d, with the chain `all`, to the draft `after`: the invariant holds afterwards with the chunks `stay`,
-- headers stay right, and the record is g but for the bins' ends
pub record PlaceTaken (ws : List ℕ) (h : Heap) (all stay : List Entry) (g : Heap) (d after : Draft) : Type 0 where
  pub halfway : Halfway ws h stay after
  pub headed : Headed (written ws d.stores) outside all outside → Headed (written ws after.stores) outside all outside
  pub chain : after.chain ≡ d.chain
  pub heap : EndsAlone g after

-- a draft (`Among`) and a free chunk c of its layout that does not stay yet, and was not on the chain before the call
pub record Unsettled (ws : List ℕ) (h : Heap) (stay : List Entry) (d : Draft) (all : List Entry) (c : Entry) : Type 0 where
  pub among : Among ws h stay d all
  pub chain : d.chain ≡ all
  pub there : Mem c all
  pub free : c.flags ≡ 0
  pub new : Mem c stay → ⊥
  pub fresh : Mem c (shape ws h.bytes) → ⊥

module _ {ws : List ℕ} {h : Heap} {stay : List Entry} {d : Draft} {all : List Entry} {c : Entry} (u : Unsettled ws h stay d all c) where
  abbrev f : Halfway ws h stay d
  f = u.among.halfway

  abbrev y : Layout h.bytes all
  y = u.among.layout

  abbrev sub : (e : Entry) → Mem e stay → Mem e all
  sub = u.among.sub

  laid : Laid h.bytes c
  laid = y.chunks c u.there

  between : Between h.bytes c
  between = laid.free u.free

  -- it is in no list yet
  unknown : (i : ℕ) → i < h.bins → Mem c.place (d.lists i) → ⊥
  unknown i l m =
      let r = member_chunk u.among i c.place l m in
      u.new (rw (laid_once y r.member u.there r.place) at r.stays)

  far : (i x : ℕ) → i < h.bins → Mem x (d.lists i) → Far c.place x
  far = member_far u.among c u.there between.some unknown

  -- c's bin links and bin word are none of the first three words of any chunk
  own_off : (x : Entry) → Mem x all → (k : ℕ) → k < 3 → Off (x.place / 4 + k) (no_bin_words c.place)
  own_off x m k s = go (dec_lt c.place x.place) (laid_below y u.there m u.free)
    where
      go : Dec (c.place < x.place) → (c.place < x.place → c.place + 24 ≤ x.place)
          → Off (x.place / 4 + k) (no_bin_words c.place)
      go (yes l) b = let r = b l in let p = (y.chunks x m).eight in omega arith
      go (no n) b = let p = (y.chunks x m).eight in omega arith

  -- nor any of the six header words of another free chunk
  own_apart : (x : Entry) → Mem x all → x.flags ≡ 0 → x.place ≢ c.place → (k : ℕ) → k < 6
      → Off (x.place / 4 + k) (no_bin_words c.place)
  own_apart x m z ne k s = go (laid_beside y m u.there ne)
    where
      go : Beside x c → Off (x.place / 4 + k) (no_bin_words c.place)
      go (inl b) = let p = (y.chunks x m).eight in let r = (y.chunks x m).free z in omega arith
      go (inr b) = let p = (y.chunks x m).eight in let r = between in omega arith

  pub unsettled_elsewhere : (x : Entry) → Mem x stay → x.place ≢ c.place
  unsettled_elsewhere x m q = u.new (rw (laid_once y (sub x m) u.there q) at m)

  -- c stands between the chunks in xs and those in ys
  record Fitting (late : Entry → ℕ) (xs ys : List ℕ) : Type 0 where
    low : (x : Entry) → Mem x stay → ordinary (record_midway h d) x ≡ true → Mem x.place xs → standing late x ≤ standing late c
    high : (x : Entry) → Mem x stay → ordinary (record_midway h d) x ≡ true → Mem x.place ys → standing late c ≤ standing late x

  -- c is put into bin i, between xs and ys
  module _ (kind : ordinary (record_midway h d) c ≡ true) (long : h.bytes ≤ 4 * length ws) (i : ℕ) (l : i < h.bins) (t : bin_of (table_of h) c.size ≡ Some i)
      (xs ys : List ℕ) (s : d.lists i ≡ xs ++ ys) (fits : (late : Entry → ℕ) → Lateness ws h late → Fitting (late_in h i late) xs ys) where
    abbrev stores : List Store
    stores = put_stores i xs c.place ys

    abbrev lists : ℕ → List ℕ
    lists = relisted i (xs ++ c.place ∷ ys) d.lists

    node : Node (length (written ws d.stores)) c.place
    node =
        let k = length_written d.stores ws in
        let b = between in
        record { eight = laid.eight; some = omega arith; fits = omega arith }

    placing : Placing (books_of ws d) d.lists h.bins i xs c.place ys
    placing = record { way = f.way; inside = l; node = node; far = far; split = s }

    -- only links of members and c's own bin words are written
    word_off : (x k : ℕ) → NoLink (x / 4 + k) (d.lists i) → Off (x / 4 + k) (no_bin_words c.place) → Off (x / 4 + k) stores
    word_off x k n o = put_off (books_of ws d) i xs c.place ys (x / 4 + k) (rw s at n) o

    put_spares : (x : Entry) → Mem x all → PassByHeader stores x
    put_spares x m =
        let off : (k : ℕ) → k < 3 → Off (x.place / 4 + k) stores =
        λ k b.
        word_off x.place k
        (header_no_link x.place k (d.lists i) b (y.chunks x m).eight (λ z j. midway_below u.among i z l j x m)) (own_off x m k b) in
        (off forward (omega arith), off backward (omega arith), λ _. off size (omega arith))

    put_passes : (x : Entry) → Mem x stay → x.flags ≡ 0 → ordinary (record_midway h d) x ≡ false → PassBy stores x.place
    put_passes x m z o =
        let r = y.chunks x (sub x m) in
        let off : (k : ℕ) → k < 6 → Off (x.place / 4 + k) stores =
        λ k b.
        word_off x.place k
        (far_no_link x.place k (d.lists i) b r.eight
        (λ z' j. (
          (midway_below u.among i z' l j x (sub x m)).0,
          member_far u.among x (sub x m) (r.free z).some (not_listed_lem u.among x m o) i z' l j,
        )))
        (own_apart x (sub x m) z (unsettled_elsewhere x m) k b) in
        (off next_in_bin (omega arith), off previous_in_bin (omega arith), off bin (omega arith))

    put_members : (j x : ℕ) → j < h.bins → Mem x (lists j) → Belonging h d.heap.donor.0 d.heap.top.0 (c ∷ stay) j x
    put_members j x b m = go (is_from placing j m)
      where
        go : Mem x (d.lists j) ⊎ ((j ≡ i) × (x ≡ c.place)) → Belonging h d.heap.donor.0 d.heap.top.0 (c ∷ stay) j x
        go (inl k) = let r = f.members j x b k in belongs_at r (Memᴰ.tail r.member)
        go (inr q) = record { chunk = c; member = Memᴰ.head refl; place = sym q.1; kind = kind; takes = t ∙ ap Some (sym q.0) }

    put_listed : (x : Entry) → Mem x (c ∷ stay) → ordinary (record_midway h d) x ≡ true → ListedIn h lists x
    put_listed x (Memᴰ.head q) o =
        rw q
        (record {
          bin = i;
          takes = t;
          inside = l;
          member = rw (relisted_same i (xs ++ c.place ∷ ys) d.lists) (Memᴰ.append_right xs (Memᴰ.head refl));
        })
    put_listed x (Memᴰ.tail k) o =
        let r = f.listed x k o in
        listed_at r (go r.bin r.member (ℕ_discrete r.bin i))
      where
        go : (j : ℕ) → Mem x.place (d.lists j) → Dec (j ≡ i) → Mem x.place (lists j)
        go j k (yes q) = rw (eq-eqb j i q) (member_with xs c.place ys (rw (q, s) at k))
        go j k (no n) = rw (ne_eqb j i n) k

    put_reserved : (x : Entry) → Mem x (c ∷ stay) → x.flags ≡ 0 → ordinary (record_midway h d) x ≡ false → Unbinned (written (written ws d.stores) stores) x.place
    put_reserved x (Memᴰ.head q) z o = absurd (false≢true (sym o ∙ ap (ordinary (record_midway h d)) q ∙ kind))
    put_reserved x (Memᴰ.tail k) z o = unbinned_keeps stores (put_passes x k z o) (f.reserved x k z o)

    put_queue : (late : Entry → ℕ) → Lateness ws h late → (j : ℕ) → j < h.bins → Dec (j ≡ i)
        → Queued (late_in h j late) (ordinary (record_midway h d)) (c ∷ stay) (lists j)
    put_queue late lateness j b (yes q) =
        let fit = fits late lateness in
        rw (eq-eqb j i q, q)
        (queued_with c (λ x m o. unsettled_elsewhere x m) xs ys (λ m. unknown i l (rw s m)) fit.low fit.high
        (subst (Queued (late_in h i late) (ordinary (record_midway h d)) stay) s (f.queue late lateness i l)))
    put_queue late lateness j b (no n) = rw (ne_eqb j i n) (queued_more c (unknown j b) (f.queue late lateness j b))

    put_settles : PlaceTaken ws h all (c ∷ stay) d.heap d (put_between i xs c.place ys d)
    unfolding put_between
    put_settles =
        let a = written_append d.stores stores ws in
        record {
          halfway =
              record {
                heap = rw f.heap;
                ends = bin_ends_set i (head_or 0 (xs ++ c.place ∷ ys)) (last_or 0 (xs ++ c.place ∷ ys)) l f.ends;
                way = rw a (way_puts placing);
                none = λ j b. relisted_other i (xs ++ c.place ∷ ys) d.lists j (λ q. omega arith) ∙ f.none j b;
                members = put_members;
                listed = put_listed;
                reserved = λ x m z o. rw a (put_reserved x m z o);
                queue = λ late lateness j b. put_queue late lateness j b (ℕ_discrete j i);
              };
          headed = λ k. rw a (headed_keeps stores (written ws d.stores) outside all outside put_spares k);
          chain = refl;
          heap = refl;
        }

  -- c is put where it stands
  module _ (p : Passes ws h) (i : ℕ) (l : i < h.bins) where
    abbrev is_larger : ℕ → Bool
    is_larger = larger d.chain c

    sized : (x : Entry) → Mem x stay → size_on d.chain x.place ≡ x.size
    sized x m = rw u.chain (laid_sized y (sub x m))

    -- the first larger chunk, at z, is no larger than a chunk at x behind it
    behind_larger : (z : ℕ) (x : Entry) → Mem x stay → ordinary (record_midway h d) x ≡ true → is_larger z ≡ true
        → Before z x.place (on_from is_larger (d.lists i)) → c.size < x.size
    behind_larger z x m o t b =
        let whole : Before z x.place (d.lists i) = rw (parts_at_first is_larger (d.lists i)) (before_right z x.place (up_to is_larger (d.lists i)) _ b) in
        let r = f.members i z l (before_members z x.place (d.lists i) whole).0 in
        let q = (f.queue _ (all_late ws h p) i l).stand r.chunk x r.member m r.kind o (rw r.place whole) in
        let s = sized r.chunk r.member in
        let a = ltb-true c.size (size_on d.chain z) t in
        let e : size_on d.chain z ≡ r.chunk.size = ap (size_on d.chain) (sym r.place) ∙ s in
        omega arith

    -- by size: no chunk before it is larger, all behind it are, and it is late
    in_order_lem : (late : Entry → ℕ) → Lateness ws h late → Fitting late (up_to is_larger (d.lists i)) (on_from is_larger (d.lists i))
    in_order_lem late lateness =
        record {
          low =
              λ x m o k.
              let s = sized x m in
              let a = ltb-false c.size (size_on d.chain x.place) (before_first is_larger (d.lists i) k) in
              let own = lateness.others c u.fresh in
              let other = lateness.at_most x in
              omega arith;
          high =
              λ x m o k.
              let s = go x m o (from_first is_larger (d.lists i) k) in
              let own = lateness.at_most c in
              omega arith;
        }
      where
        go : (x : Entry) → Mem x stay → ordinary (record_midway h d) x ≡ true
            → (is_larger x.place ≡ true) ⊎ ((z : ℕ) × (is_larger z ≡ true) × Before z x.place (on_from is_larger (d.lists i))) → c.size < x.size
        go x m o (inl t) = let s = sized x m in let a = ltb-true c.size (size_on d.chain x.place) t in omega arith
        go x m o (inr (z, t, b)) = behind_larger z x m o t b

    -- at the head of a bin of the small array: the others have its size, and it is late
    at_head : i < small_bins (table_of h) → bin_of (table_of h) c.size ≡ Some i → (late : Entry → ℕ) → Lateness ws h late
        → Fitting (λ e. 1 - late e) [] (d.lists i)
    at_head small takes late lateness =
        record {
          low = λ x m o k. absurd (Memᴰ.not-nil k);
          high =
              λ x m o k.
              let r = f.members i x.place l k in
              let same = ap (λ (e : Entry). e.size) (laid_once y (sub r.chunk r.member) (sub x m) r.place) in
              let size = only c u.there takes in
              let other = only r.chunk (sub r.chunk r.member) r.takes in
              let own = lateness.others c u.fresh in
              omega arith;
        }
      where
        only : (e : Entry) → Mem e all → bin_of (table_of h) e.size ≡ Some i → e.size ≡ 24 + 8 * i
        only e m t = one_size (table_of h) p.table.valid (bin_takes (table_of h) t) small (laid_eights y (bounds ws h p).eights m)

    parts_fit : bin_of (table_of h) c.size ≡ Some i → (late : Entry → ℕ) → Lateness ws h late → Fitting (late_in h i late) (part_before i c d) (part_after i c d)
    parts_fit takes late lateness = rw (ap table_of f.heap) (go (ltb i (small_bins (table_of h))) refl)
      where
        go : (t : Bool) → ltb i (small_bins (table_of h)) ≡ t
            → Fitting (λ e. cond t (1 - late e) (late e)) (cond t [] (up_to is_larger (d.lists i))) (cond t (d.lists i) (on_from is_larger (d.lists i)))
        go true q = at_head (ltb-true i (small_bins (table_of h)) q) takes late lateness
        go false q = in_order_lem late lateness

  -- in the bin of its size: some bin takes every size from 24 on
  pub settles_in_bin : Passes ws h → ordinary (record_midway h d) c ≡ true → PlaceTaken ws h all (c ∷ stay) d.heap d (settle Ordinary c d)
  unfolding settle put_in_bin
  settles_in_bin p kind =
      let (i, is, takes) = bin_from (table_of h) p.table.valid c.size between.some in
      let l : i < h.bins = omega (arith, takes.inside, length-take h.bins h.sizes) in
      rw (ap table_of f.heap, is, put_between_lem i c d)
      (put_settles kind (omega arith) i l is (part_before i c d) (part_after i c d) (parts_whole i c d) (parts_fit p i l is))

  -- in no bin: the record names it the donor or the top, and no chunk that stays changes its kind
  module _ (donor top : ℕ) (long : h.bytes ≤ 4 * length ws) (same : (x : Entry) → Mem x stay → kind_at h.bytes donor top x ≡ kind_of (record_midway h d) x)
      (own : ordinary_kind (kind_at h.bytes donor top c) ≡ false) where
    abbrev record' : Heap
    record' = with_top (with_donor d.heap donor) top

    abbrev named : Draft
    named = also_writes (no_bin_words c.place) (with_heap record' d)

    abbrev cleared : List ℕ
    cleared = written (written ws d.stores) (no_bin_words c.place)

    same_ordinary : (x : Entry) → Mem x stay → ordinary_kind (kind_at h.bytes donor top x) ≡ ordinary (record_midway h d) x
    same_ordinary x m = ap ordinary_kind (same x m)

    named_spares : (x : Entry) → Mem x all → PassByHeader (no_bin_words c.place) x
    named_spares x m =
        (own_off x m forward (omega arith), own_off x m backward (omega arith), λ _. own_off x m size (omega arith))

    named_way : OnWay (books cleared d.heap.heads d.heap.tails) d.lists h.bins
    named_way =
        way_keeps (books_of ws d) d.lists h.bins f.way (no_bin_words c.place)
        (λ i x l m.
        let g = far i x l m in
        let p = ((f.way.holds i l).nodes x m).eight in
        omega arith)

    own_unbinned : Unbinned cleared c.place
    own_unbinned =
        let k = length_written d.stores ws in
        let b = between in
        let w : List ℕ = written ws d.stores in
        record {
          next = got 0 (no_bin_words c.place) w (omega arith) (omega arith);
          previous = got 1 (no_bin_words c.place) w (omega arith) (omega arith);
          bin = got 2 (no_bin_words c.place) w (omega arith) tt;
        }

    named_unbinned : (x : Entry) → Mem x (c ∷ stay) → x.flags ≡ 0 → ordinary_kind (kind_at h.bytes donor top x) ≡ false → Unbinned cleared x.place
    named_unbinned x (Memᴰ.head q) z o = rw q own_unbinned
    named_unbinned x (Memᴰ.tail k) z o =
        let off : (j : ℕ) → j < 6 → Off (x.place / 4 + j) (no_bin_words c.place) = own_apart x (sub x k) z (unsettled_elsewhere x k) in
        unbinned_keeps (no_bin_words c.place) (off next_in_bin (omega arith), off previous_in_bin (omega arith), off bin (omega arith))
        (f.reserved x k z (sym (same_ordinary x k) ∙ o))

    named_stays : (x : Entry) → Mem x (c ∷ stay) → ordinary_kind (kind_at h.bytes donor top x) ≡ true → Mem x stay × (ordinary (record_midway h d) x ≡ true)
    named_stays x (Memᴰ.head q) o =
        absurd (false≢true (sym own ∙ ap (λ (e : Entry). ordinary_kind (kind_at h.bytes donor top e)) (sym q) ∙ o))
    named_stays x (Memᴰ.tail k) o = (k, sym (same_ordinary x k) ∙ o)

    named_listed : (x : Entry) → Mem x (c ∷ stay) → ordinary_kind (kind_at h.bytes donor top x) ≡ true → ListedIn h d.lists x
    named_listed x m o = let (k, kind) = named_stays x m o in f.listed x k kind

    settles_out : PlaceTaken ws h all (c ∷ stay) record' d named
    settles_out =
        let a = written_append d.stores (no_bin_words c.place) ws in
        record {
          halfway =
              record {
                heap = rw f.heap;
                ends = f.ends;
                way = rw a named_way;
                none = f.none;
                members =
                    λ i x l m.
                    let r = f.members i x l m in
                    record {
                      chunk = r.chunk;
                      member = Memᴰ.tail r.member;
                      place = r.place;
                      kind = same_ordinary r.chunk r.member ∙ r.kind;
                      takes = r.takes;
                    };
                listed = named_listed;
                reserved = λ x m z o. rw a (named_unbinned x m z o);
                queue = λ late lateness i l. queued_same (f.queue late lateness i l) (λ x m o. named_stays x m o);
              };
          headed = λ k. rw a (headed_keeps (no_bin_words c.place) (written ws d.stores) outside all outside named_spares k);
          chain = refl;
          heap = refl;
        }

  module _ (long : h.bytes ≤ 4 * length ws) where
    pub settles_as_donor : ((x : Entry) → Mem x stay → kind_at h.bytes c.place d.heap.top.0 x ≡ kind_of (record_midway h d) x)
        → ordinary_kind (kind_at h.bytes c.place d.heap.top.0 c) ≡ false
        → PlaceTaken ws h all (c ∷ stay) (with_donor d.heap c.place) d (settle Donor c d)
    unfolding settle
    settles_as_donor same own = settles_out c.place d.heap.top.0 long same own

    pub settles_as_top : ((x : Entry) → Mem x stay → kind_at h.bytes d.heap.donor.0 c.place x ≡ kind_of (record_midway h d) x)
        → ordinary_kind (kind_at h.bytes d.heap.donor.0 c.place c) ≡ false
        → PlaceTaken ws h all (c ∷ stay) (with_top d.heap c.place) d (settle Top c d)
    unfolding settle
    settles_as_top same own = settles_out d.heap.donor.0 c.place long same own
