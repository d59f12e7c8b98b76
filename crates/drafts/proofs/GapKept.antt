-- Giving a chunk back leaves a picture of the heap with the same other live chunks (`gap_given`): the gap that it leaves in the chain is coalesced
-- with its neighbours as the rules say and filled by one free chunk, which settles in its bin, as donor or as top. Assumes nothing.
use mathlib.Core.Path.{◌≡◌, refl, sym, ap, subst, ◌∙◌}
use mathlib.Core.Logic.{◌≢◌, ◌⊎◌, inl, inr}
use mathlib.Core.Bool.{Bool, true, false, cond, false≢true}
use mathlib.Core.List.Memᴰ
use mathlib.Core.List.{List, [], ◌∷◌, ◌++◌}
use Prim.Native.Nat.{ℕ, ◌+◌, ◌-◌, ◌≤◌, ◌<◌}
use native.Mathlib.Omega.{arith}
use lib.ListN.{drop}
use Rattle.lists.specs.Lists.{Mem, head_or, last_or, but_last, total}
use Rattle.lists.proofs.SplitLaws.{begins_with, ends_with, among, outer_in, middle_in}
use Rattle.record.specs.declared.heap.Heap.{Heap}
use Rattle.record.specs.declared.kinds.Kind.{Kind}
use Rattle.record.specs.declared.kinds.Kind.TheVariants.{Start, InUse, Ordinary, Donor, Top, End}
use Rattle.rules.specs.Shape.{Entry, chunk_end}
use Rattle.rules.specs.Kinds.{ordinary_kind, free_kind, kind_of, ordinary, outside}
use Rattle.rules.specs.Check.{used_bytes, IsChunk, Passes}
use Rattle.rules.specs.Draft.{Draft, leave_bin, relink, settle, now_uses}
use Rattle.rules.specs.Join.{Joined, joined_as, joining, leave_bins, moved_down, swallowing, release}
use Rattle.rules.proofs.KindsLaws.{Used, being_as}
use Rattle.rules.proofs.SpotLaws.{Between, bounds}
use Rattle.rules.proofs.TiledLaws.{tiled_empty}
use Rattle.drafts.proofs.LivesLaws.{lives, lives_free}
use Rattle.drafts.proofs.PostsLaws.{TopAmong, DonorAmong, Posts, top_at, donor_at, top_in, donor_in, posts_in}
use Rattle.drafts.proofs.LayoutLaws.{Beside, cuts, outer_beside}
use Rattle.drafts.proofs.HalfwayLaws.{Closed, closes}
use Rattle.drafts.proofs.PictureLaws.{Pictured, StaysQueued}
use Rattle.drafts.proofs.WaitingLaws.{Waiting, Finished, MembersSized, waiting_sized, takes_bin_lem, takes_donor, takes_top, waiting_done}
use Rattle.drafts.proofs.JoinLaws.{sees, joined_by, joining_sees, sees_ordinary, linked_back, given_back, inside_moves, outside_stays}
use Rattle.drafts.proofs.GapLaws.{gap_chunk, Placed, crossed_fresh, Gap, posts_stay, below_laid, below_joins, above_laid, gap_around, above_joins, above_widens, above_apart, above_higher, above_else}

-- a neighbour that joining sees as free has the kind that it sees
sees_kind : (t : Bool) (k : Kind) → free_kind (cond t k InUse) ≡ true → k ≡ cond t k InUse
sees_kind true k f = refl
sees_kind false k f = absurd (false≢true f)

-- the chunks of two lists leave their bins, those of the first list first
leave_all : (xs ys : List Entry) (d : Draft) → leave_bins (xs ++ ys) d ≡ leave_bins ys (leave_bins xs d)
leave_all [] ys d = refl
leave_all (x ∷ xs) ys d = leave_all xs ys (leave_bin x d)

-- the rule `release`, by the neighbours' kinds as joining sees them
pub release_is : (h : Heap) (low : List Entry) (part : Entry) (high : List Entry) (d : Draft) → d.heap ≡ h
    → release low part high d ≡ given_back (joined_by (sees h (last_or outside low)) (sees h (head_or outside high)) low part high) d
unfolding release
release_is h low part high d heap =
    ap (λ (k : Heap). given_back (joining k low part high) d) heap ∙ ap (λ (j : Joined). given_back j d) (joining_sees low part high h)

-- what giving back leaves: a picture of the heap whose live chunks are those of `base`. In the draft `linked` the gap is filled, and the chunk
-- that fills it has still to settle
pub record GivenBack (ws : List ℕ) (h : Heap) (base : List Entry) (linked after : Draft) : Type 0 where
  pub sized : MembersSized ws h linked
  pub pictured : Pictured ws after
  pub queued : StaysQueued ws h after
  pub alive : lives h after.chain ≡ lives h base

-- where `gone` bytes are no longer used and `new` bytes are, the used bytes are those of `base`
module _ {ws : List ℕ} {h : Heap} {base : List Entry} (p : Passes ws h) (gone new : ℕ) (count : h.used + new - gone ≡ used_bytes h base) where
  -- the gap is filled by one free chunk
  module _ {low : List Entry} {from to : ℕ} {high : List Entry} {d : Draft} (g : Gap ws h base low from to high d) where
    abbrev fill : Entry
    fill = gap_chunk from to

    abbrev chain : List Entry
    chain = low ++ fill ∷ [] ++ high

    abbrev linked : Draft
    linked = relink low (fill ∷ []) high d

    there : Mem fill chain
    there = middle_in low (fill ∷ []) high (Memᴰ.head refl)

    pub room : Between h.bytes fill
    room = (g.layout.chunks fill there).free refl

    pub gap_beside : (x : Entry) → Mem x (low ++ high) → Beside x fill
    gap_beside x m = outer_beside low (fill ∷ []) high g.layout m (Memᴰ.head refl)

    not_outer : Mem fill (low ++ high) → ⊥
    not_outer m = go (gap_beside fill m)
      where
        go : Beside fill fill → ⊥
        go (inl b) = omega (arith, room)
        go (inr b) = omega (arith, room)

    pub highs : high ≡ [] → ⊥
    highs z =
        let c = cuts low (fill ∷ []) high g.layout in
        let q = tiled_empty c.to h.bytes high c.above z in
        omega (arith, c.middle.2, room)

    stays : (x : Entry) → Mem x (low ++ high) → Mem x chain
    stays x m = outer_in low (fill ∷ []) high m

    fill_waits : Waiting ws h h (low ++ high) (fill ∷ []) chain linked
    fill_waits =
        let c : Closed ws h low (fill ∷ []) high linked =
        closes g.opened (record { layout = g.layout; highs = highs }) (bounds ws h p).fits refl in
        record {
          layout = g.layout;
          halfway = c.halfway;
          headed = c.headed;
          chain = c.chain;
          heap = c.same;
          bytes = refl;
          stays = stays;
          waits = λ x m. rw (Memᴰ.eq_of_singleton m) (there, refl);
          apart = λ x m k. not_outer (rw (Memᴰ.eq_of_singleton m) at k);
          fresh = λ x m k. crossed_fresh p g.crossed (rw (Memᴰ.eq_of_singleton m) at k);
          once = ((λ m. Memᴰ.not-nil m), tt);
          others = λ x m. others x (among low (fill ∷ []) high m);
        }
      where
        others : (x : Entry) → Mem x (low ++ high) ⊎ Mem x (fill ∷ []) → Mem x (low ++ high) ⊎ (Mem x (fill ∷ []) ⊎ Used x)
        others x (inl k) = inl k
        others x (inr k) = inr (inl k)

    -- the gap is not live, so used bytes are those of `base`
    same_lives : lives h chain ≡ lives h base
    same_lives = lives_free h low fill high refl ∙ g.alive

    counted : h.used + new - gone ≡ used_bytes h chain
    counted = count ∙ ap (total (λ (e : Entry). e.size)) (sym same_lives)

    ends : {k : Heap} {after : Draft} → Finished ws h k chain after → GivenBack ws h base linked after
    ends f =
        record {
          sized = waiting_sized fill_waits;
          pictured = f.pictured;
          queued = f.queued;
          alive = ap (lives h) f.chain ∙ same_lives;
        }

    -- a patrol's place in the gap moves down to the chunk that fills it; any other stays
    filled_place : IsChunk chain (moved_down fill h.patrol.0)
    filled_place = go g.patrol
      where
        beside : (x : Entry) → 8 ≤ x.size → Beside x fill → (x.place ≤ from) ⊎ (to ≤ x.place)
        beside x s (inl b) = inl (omega arith)
        beside x s (inr b) = inr (let r = room in omega arith)

        go : Placed h.patrol.0 (low ++ high) from to → IsChunk chain (moved_down fill h.patrol.0)
        go (inl (x, m, q)) =
            let r = room in
            let away = beside x (g.layout.chunks x (stays x m)).some (gap_beside x m) in
            (x, stays x m, q ∙ sym (outside_stays fill h.patrol.0 (elim away [ inl l ↦ inl (omega arith) | inr l ↦ inr (omega arith) ])))
        go (inr (lo, hi)) = let r = room in (fill, there, sym (inside_moves fill h.patrol.0 lo (omega arith)))

    -- the draft with the gap filled, settled and, it may be, the patrol's place moved
    abbrev filled_as : Kind → Draft
    filled_as k = now_uses gone new (swallowing fill (settle k fill linked))

    -- it goes to its bin; donor and top are other chunks
    pub fills_bin : Posts h (low ++ high) → GivenBack ws h base linked (filled_as Ordinary)
    fills_bin posts =
        ends (waiting_done p (takes_bin_lem p fill_waits posts) (posts_in stays posts) (moved_down fill) filled_place gone new counted)

    -- it becomes the donor, in place of the old one
    pub fills_donor : ((x : Entry) → Mem x (low ++ high) → x.place ≢ h.donor.0) → from < h.top.0 → TopAmong h.bytes h.top.0 (low ++ high)
        → GivenBack ws h base linked (filled_as Donor)
    fills_donor else below top =
        ends
        (waiting_done p (takes_donor p fill_waits else below)
        (record { top = top_in stays top; donor = λ _. record { chunk = fill; member = there; place = refl; free = refl; below = below } })
        (moved_down fill) filled_place gone new counted)

    -- it becomes the top, in place of the old one
    pub fills_top : ((x : Entry) → Mem x (low ++ high) → x.place ≢ h.top.0) → chunk_end fill + 8 ≡ h.bytes
        → (0 < h.donor.0 → DonorAmong h.donor.0 from (low ++ high)) → GivenBack ws h base linked (filled_as Top)
    fills_top else reaches donor =
        ends
        (waiting_done p (takes_top p fill_waits else)
        (record {
          top = record { chunk = fill; member = there; place = refl; free = refl; reaches = reaches };
          donor = λ some. donor_in stays (donor some);
        })
        (moved_down fill) filled_place gone new counted)

  -- the chunk above the gap joins it, or does not; then the gap is filled
  module _ {low : List Entry} {from to : ℕ} {high : List Entry} {d : Draft} (g : Gap ws h base low from to high d) (posts : Posts h (low ++ high)) where
    abbrev above : Entry
    above = head_or outside high

    abbrev beyond : List Entry
    beyond = drop 1 high

    high_is : high ≡ above ∷ beyond
    high_is = begins_with outside high (highs g)

    opened : Gap ws h base low from to (above ∷ beyond) d
    opened = subst (λ (l : List Entry). Gap ws h base low from to l d) high_is g

    posted : Posts h (low ++ above ∷ beyond)
    posted = subst (λ (l : List Entry). Posts h (low ++ l)) high_is posts

    -- the draft after the gap, widened to the end of that chunk, was filled
    abbrev joined : Draft → Draft
    joined e = relink low (gap_chunk from (chunk_end above) ∷ []) beyond e

    -- that chunk is ordinary
    joins_ordinary : above.flags ≡ 0 → kind_of h above ≡ Ordinary
        → GivenBack ws h base (joined (leave_bin above d))
        (now_uses gone new (swallowing (gap_chunk from (chunk_end above)) (settle Ordinary (gap_chunk from (chunk_end above)) (joined (leave_bin above d)))))
    joins_ordinary free q =
        let o = ap ordinary_kind q in
        fills_bin (above_joins opened free o)
        (posts_stay h low above beyond (above_laid opened) o (subst (λ (l : List Entry). Posts h l) (gap_around opened free) posted))

    module _ (free : above.flags ≡ 0) where
      either : (x : Entry) → Mem x (low ++ above ∷ beyond) → Mem x (low ++ beyond) ⊎ (x ≡ above)
      either = above_else opened free

      -- it is the donor
      joins_donor : ordinary h above ≡ false → 0 < h.donor.0 → above.place ≡ h.donor.0
          → GivenBack ws h base (joined d) (now_uses gone new (swallowing (gap_chunk from (chunk_end above)) (settle Donor (gap_chunk from (chunk_end above)) (joined d))))
      joins_donor o some q =
          let t = posted.top in
          let b = (posted.donor some).below in
          let u = above_higher opened free in
          fills_donor (above_widens opened free o) (λ x m z. above_apart opened free x m (z ∙ sym q)) (omega arith)
          (top_at t (go b (either t.chunk t.member)))
        where
          go : h.donor.0 < h.top.0 → Mem posted.top.chunk (low ++ beyond) ⊎ (posted.top.chunk ≡ above) → Mem posted.top.chunk (low ++ beyond)
          go b (inl k) = k
          go b (inr k) = let s = ap (λ (e : Entry). e.place) k in let r = posted.top.place in absurd (omega arith)

      -- it is the top
      joins_top : ordinary h above ≡ false → above.place ≡ h.top.0
          → GivenBack ws h base (joined d) (now_uses gone new (swallowing (gap_chunk from (chunk_end above)) (settle Top (gap_chunk from (chunk_end above)) (joined d))))
      joins_top o q =
          let t = posted.top in
          fills_top wide (λ x m z. above_apart opened free x m (z ∙ sym q))
          (reaches t.chunk t.place t.reaches (either t.chunk t.member))
          (λ some. below (posted.donor some) (either (posted.donor some).chunk (posted.donor some).member))
        where
          wide : Gap ws h base low from (chunk_end above) beyond d
          wide = above_widens opened free o

          reaches : (t : Entry) → t.place ≡ h.top.0 → chunk_end t + 8 ≡ h.bytes → Mem t (low ++ beyond) ⊎ (t ≡ above)
              → chunk_end (gap_chunk from (chunk_end above)) + 8 ≡ h.bytes
          reaches t r e (inl k) = absurd (above_apart opened free t k (r ∙ sym q))
          reaches t r e (inr k) = let s = ap chunk_end k in let u = above_higher opened free in omega arith

          under : (t : Entry) → t.place < above.place → 8 ≤ t.size → Beside t (gap_chunk from (chunk_end above)) → t.place < from
          under t l s (inl b) = omega arith
          under t l s (inr b) = let u = above_higher opened free in absurd (omega arith)

          below : (t : DonorAmong h.donor.0 h.top.0 (low ++ above ∷ beyond)) → Mem t.chunk (low ++ beyond) ⊎ (t.chunk ≡ above)
              → DonorAmong h.donor.0 from (low ++ beyond)
          below t (inl k) =
              let s = (wide.layout.chunks t.chunk (outer_in low (gap_chunk from (chunk_end above) ∷ []) beyond k)).some in
              let l = under t.chunk (omega arith) s (gap_beside wide t.chunk k) in
              donor_at t k (omega arith)
          below t (inr k) = let s = ap (λ (e : Entry). e.place) k in absurd (omega arith)

    flags_small : above.flags ≤ 1
    flags_small = (above_laid opened).flags

    joins_above : (k : Kind) → (free_kind k ≡ true → kind_of h above ≡ k) → let end = cond (free_kind k) (chunk_end above) to in
        let closed = relink low (gap_chunk from end ∷ []) (cond (free_kind k) beyond high) (leave_bins (cond (ordinary_kind k) (above ∷ []) []) d) in
        GivenBack ws h base closed (now_uses gone new (swallowing (gap_chunk from end) (settle (joined_as k) (gap_chunk from end) closed)))
    joins_above Ordinary q =
        let b = being_as h above Ordinary (q refl) in
        let f = flags_small in
        joins_ordinary (omega arith) (q refl)
    joins_above Donor q =
        let b = being_as h above Donor (q refl) in
        let f = flags_small in
        joins_donor (omega arith) (ap ordinary_kind (q refl)) (omega arith) b.3
    joins_above Top q =
        let b = being_as h above Top (q refl) in
        let f = flags_small in
        joins_top (omega arith) (ap ordinary_kind (q refl)) b.3
    joins_above Start q = fills_bin g posts
    joins_above InUse q = fills_bin g posts
    joins_above End q = fills_bin g posts

  -- the chunk `part` is given back and leaves a gap
  module _ {lows : List Entry} (part : Entry) {high : List Entry} {d : Draft} (heap : d.heap ≡ h)
      (g : Gap ws h base lows part.place (chunk_end part) high d) (posts : Posts h (lows ++ high)) where
    abbrev below : Entry
    below = last_or outside lows

    low_is : lows ≡ but_last lows ++ below ∷ []
    low_is =
        ends_with outside lows
        (λ z.
        let c = cuts lows (gap_chunk part.place (chunk_end part) ∷ []) high g.layout in
        let q = tiled_empty 0 c.from lows c.below z in
        omega (arith, c.middle.0, room g))

    -- the gap, and donor and top, after an ordinary chunk below has joined, if t says that it does
    record Under (t : Bool) : Type 0 where
      gap : Gap ws h base (cond t (but_last lows) lows) (cond t below.place part.place) (chunk_end part) high (leave_bins (cond t (below ∷ []) []) d)
      posted : Posts h (cond t (but_last lows) lows ++ high)

    joins_below : (t : Bool) → (t ≡ true → ordinary h below ≡ true) → Under t
    joins_below false o = record { gap = g; posted = posts }
    joins_below true o =
        let k = subst (λ (l : List Entry). Gap ws h base l part.place (chunk_end part) high d) low_is g in
        record {
          gap = below_joins (but_last lows) below k (o refl);
          posted =
              posts_stay h (but_last lows) below high (below_laid (but_last lows) below k (o refl)) (o refl)
              (subst (λ (l : List Entry). Posts h (l ++ high)) low_is posts);
        }

    pub gap_given : GivenBack ws h base (linked_back (joining h lows part high) d) (now_uses gone new (release lows part high d))
    gap_given =
        let over : Kind = sees h (head_or outside high) in
        let r = joins_below (ordinary_kind (sees h below)) (sees_ordinary h.merge (kind_of h below)) in
        rw (release_is h lows part high d heap, joining_sees lows part high h, leave_all)
        (joins_above r.gap r.posted over (sees_kind h.merge (kind_of h (head_or outside high))))
