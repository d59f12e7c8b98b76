-- A free chunk is cut and the chain linked anew: its free parts then wait, that is, they are not yet settled in a bin, as donor or as top
-- (`cut_waits`, for a cut at any place). A plain grant cuts at 0 and leaves a picture of the heap, whatever the chunk's kind (`cut_done`), and what is left
-- of the chunk has its post (`with_post`). Assumes nothing.
use mathlib.Core.Path.{◌≡◌, refl, sym, ap, subst, ◌∙◌}
use mathlib.Core.Logic.{◌≢◌, ◌⊎◌, inl, inr}
use mathlib.Core.Bool.{Bool, true, false, cond}
use mathlib.Core.List.Memᴰ
use mathlib.Core.List.{List, [], ◌∷◌, ◌++◌}
use Prim.Native.Nat.{ℕ, ◌+◌, ◌-◌, ◌%◌, ◌≤◌, ◌<◌}
use native.Mathlib.Nat.{add-zero}
use native.Mathlib.Omega.{arith}
use lib.Dec.{eqb}
use borrow.Author.Tests.{eqb-true, eqb-false}
use Rattle.lists.specs.Lists.{Mem, head_or}
use Rattle.lists.proofs.SplitLaws.{in_split, among, outer_in, middle_in}
use Rattle.record.specs.declared.heap.Heap.{Heap}
use Rattle.record.specs.declared.kinds.Kind.{Kind}
use Rattle.record.specs.declared.kinds.Kind.TheVariants.{Start, InUse, Ordinary, Donor, Top, End}
use Rattle.record.specs.Heap.{with_donor, with_top}
use Rattle.rules.specs.Shape.{Entry, chunk_end, shape}
use Rattle.rules.specs.Kinds.{ordinary_kind, free_kind, live_kind, kind_of, live, outside}
use Rattle.rules.specs.Check.{used_bytes, IsChunk, Passes}
use Rattle.rules.specs.Draft.{Draft, as_read, relink, settle, now_uses}
use Rattle.rules.specs.Cut.{Parts, chunks_of, leave_as}
use Rattle.rules.proofs.KindsLaws.{Used, kind_in_use, free_not_live_lem, free_kinds, being_as}
use Rattle.rules.proofs.SpotLaws.{bounds, inside}
use Rattle.rules.proofs.NamedLaws.{IsTop, is_ordinary_lem, is_top, is_donor}
use Rattle.rules.proofs.TiledLaws.{tiled_first}
use Rattle.drafts.proofs.LivesLaws.{used_replaced}
use Rattle.drafts.proofs.PostsLaws.{TopAmong, Posts, donor_at, top_in, posts_in}
use Rattle.drafts.proofs.LayoutLaws.{Beside, Laid, Layout, outer_beside, layout_replaced, laid_between}
use Rattle.drafts.proofs.OpenLaws.{InnerChunk, whole, laid_out, elsewhere, beside, lows, highs, opens_kept, opens_left, top_outer, donor_outer}
use Rattle.drafts.proofs.HalfwayLaws.{Opened, Closed, closes}
use Rattle.drafts.proofs.WaitingLaws.{Waiting, Finished, takes_bin_lem, takes_donor, takes_top, waiting_done}
use Rattle.drafts.proofs.CutLaws.{FreeChunk, Cutting, PartIn, rest_of, parts_tiled, granted_among, rest_among, chunks_among, rest_once, rest_smaller, part_in, lives_parts, rest_none, rest_above}

-- the record when what is left of a chunk of the kind k, at c, has that chunk's post
abbrev pub with_post : Kind → ℕ → Heap → Heap
with_post Donor c h = with_donor h c
with_post Top c h = with_top h c
with_post Ordinary c h = h
with_post Start c h = h
with_post InUse c h = h
with_post End c h = h

-- any other post stays
pub post_not_donor : (k : Kind) (c : ℕ) (h : Heap) → k ≢ Donor → (with_post k c h).donor.0 ≡ h.donor.0
post_not_donor Donor c h n = absurd (n refl)
post_not_donor Top c h n = refl
post_not_donor Ordinary c h n = refl
post_not_donor Start c h n = refl
post_not_donor InUse c h n = refl
post_not_donor End c h n = refl

pub post_not_top : (k : Kind) (c : ℕ) (h : Heap) → k ≢ Top → (with_post k c h).top.0 ≡ h.top.0
post_not_top Donor c h n = refl
post_not_top Top c h n = absurd (n refl)
post_not_top Ordinary c h n = refl
post_not_top Start c h n = refl
post_not_top InUse c h n = refl
post_not_top End c h n = refl

-- a free chunk e; the chain is split there
module _ {ws : List ℕ} {h : Heap} {low : List Entry} {e : Entry} {high : List Entry} (chunk : FreeChunk ws h low e high) where
  abbrev well : Passes ws h
  well = chunk.well

  pub inner : InnerChunk ws h low e high
  inner = record { well = well; split = chunk.split; between = chunk.free.between }

  -- the donor and the top are in no bin; an ordinary chunk leaves its bin
  pub opens : (k : Kind) → kind_of h e ≡ k → free_kind k ≡ true → Opened ws h low e e high (leave_as k e (as_read ws h))
  opens k q f =
      free_kinds (λ k. kind_of h e ≡ k → Opened ws h low e e high (leave_as k e (as_read ws h)))
      (λ q. opens_left inner (ap ordinary_kind q)) (λ q. opens_kept inner (ap ordinary_kind q)) (λ q. opens_kept inner (ap ordinary_kind q)) k f q

  member : Mem e (shape ws h.bytes)
  member = in_split low e high chunk.split

  -- e is cut, at any place; its free parts have to settle
  module _ {skip n : ℕ} {parts : Parts} (c : Cutting e skip n parts)
      (skips : skip % 8 ≡ 0) (room : 0 < skip → 24 ≤ skip) (eight : n % 8 ≡ 0) (large : 24 ≤ n) where
    lies : (x : Entry) → Mem x (chunks_of parts) → PartIn e x
    lies = let i = inside ws h well e member in part_in c i.place i.size skips room eight large

    laid : (x : Entry) → Mem x (chunks_of parts) → Laid h.bytes x
    laid x m =
        let i = lies x m in
        laid_between h.bytes x i.eight i.flags (record { some = i.large; above = omega arith; below = omega arith })

    abbrev pub cut_chain : List Entry
    cut_chain = low ++ chunks_of parts ++ high

    pub cut_laid : Layout h.bytes cut_chain
    cut_laid =
        layout_replaced low (e ∷ []) (chunks_of parts) high (laid_out inner) (lows inner) (highs inner)
        (λ a b t. rw (← t.0, ← t.2) (parts_tiled c)) laid

    -- a part is none of the other chunks
    pub not_outer : (x : Entry) → Mem x (chunks_of parts) → Mem x (low ++ high) → ⊥
    not_outer x m k = go (outer_beside low (chunks_of parts) high cut_laid k m)
      where
        go : Beside x x → ⊥
        go (inl b) = let i = (lies x m).large in omega arith
        go (inr b) = let i = (lies x m).large in omega arith

    -- nor was a free part a chunk before: it is smaller than e
    not_there_lem : (x : Entry) → Mem x (rest_of parts) → Mem x (shape ws h.bytes) → ⊥
    not_there_lem x m k = go (among low (e ∷ []) high (subst (λ (l : List Entry). Mem x l) (whole inner) k))
      where
        go : Mem x (low ++ high) ⊎ Mem x (e ∷ []) → ⊥
        go (inl o) = not_outer x (rest_among c x m).0 o
        go (inr o) =
            let s = ap (λ (y : Entry). y.size) (Memᴰ.eq_of_singleton o) in
            let l = rest_smaller c (omega arith) x m in
            omega arith

    pub cut_waits : {d : Draft} → Opened ws h low e e high d
        → Waiting ws h h (low ++ high) (rest_of parts) cut_chain (relink low (chunks_of parts) high d)
    cut_waits {d} o =
        let w : Closed ws h low (chunks_of parts) high (relink low (chunks_of parts) high d) =
        closes o (record { layout = cut_laid; highs = highs inner }) (bounds ws h well).fits
        (sym (tiled_first e.place (chunk_end e) (chunks_of parts) (parts_tiled c) (omega arith) (head_or outside high))) in
        record {
          layout = cut_laid;
          halfway = w.halfway;
          headed = w.headed;
          chain = w.chain;
          heap = w.same;
          bytes = refl;
          stays = λ x m. outer_in low (chunks_of parts) high m;
          waits = λ x m. let r = rest_among c x m in (middle_in low (chunks_of parts) high r.0, r.1);
          apart = λ x m k. not_outer x (rest_among c x m).0 k;
          fresh = not_there_lem;
          once = rest_once c (omega arith);
          others = λ x m. others x (among low (chunks_of parts) high m);
        }
      where
        others : (x : Entry) → Mem x (low ++ high) ⊎ Mem x (chunks_of parts) → Mem x (low ++ high) ⊎ (Mem x (rest_of parts) ⊎ Used x)
        others x (inl k) = inl k
        others x (inr k) = inr (go (chunks_among c x k))
          where
            go : (x ≡ parts.granted) ⊎ Mem x (rest_of parts) → Mem x (rest_of parts) ⊎ Used x
            go (inl q) = inr (rw q (omega arith))
            go (inr r) = inl r

  -- the lowest n bytes of e are granted
  module _ {n : ℕ} {parts : Parts} (c : Cutting e 0 n parts) (eight : n % 8 ≡ 0) (large : 24 ≤ n) where
    abbrev granted : Entry
    granted = parts.granted

    abbrev above : Entry
    above = parts.above

    abbrev pub grant_chain : List Entry
    grant_chain = low ++ chunks_of parts ++ high

    no_skip_lem : 0 < 0 → 24 ≤ 0
    no_skip_lem l = absurd (omega arith)

    waits : {d : Draft} → Opened ws h low e e high d
        → Waiting ws h h (low ++ high) (rest_of parts) grant_chain (relink low (chunks_of parts) high d)
    waits = cut_waits c refl no_skip_lem eight large

    pub cut_live : live h granted ≡ true
    cut_live =
        ap live_kind (sym (kind_in_use h.bytes h.donor.0 h.top.0 granted (λ z. omega arith) (λ z. omega arith) (omega arith)))

    -- used bytes grow by the granted chunk's size
    counted : h.used + granted.size - 0 ≡ used_bytes h grant_chain
    counted =
        let r = used_replaced h low (e ∷ []) (chunks_of parts) high in
        let a : h.used ≡ used_bytes h (low ++ e ∷ [] ++ high) = well.used ∙ ap (used_bytes h) (whole inner) in
        let z = none in
        let g = new in
        omega arith
      where
        none : used_bytes h (e ∷ []) ≡ 0
        none = rw (free_not_live_lem h e chunk.free.flags) refl

        new : used_bytes h (chunks_of parts) ≡ granted.size
        new = rw (lives_parts c h (omega arith) cut_live) (add-zero granted.size)

    stays : (x : Entry) → Mem x (low ++ high) → Mem x grant_chain
    stays x m = outer_in low (chunks_of parts) high m

    -- the patrol's place is still a chunk's: where it is e's, the granted chunk is there
    still_placed : IsChunk grant_chain h.patrol.0
    still_placed = let (x, m, q) = well.patrol in go x q (among low (e ∷ []) high (subst (λ (l : List Entry). Mem x l) (whole inner) m))
      where
        go : (x : Entry) → x.place ≡ h.patrol.0 → Mem x (low ++ high) ⊎ Mem x (e ∷ []) → IsChunk grant_chain h.patrol.0
        go x q (inl k) = (x, stays x k, q)
        go x q (inr k) =
            let s = ap (λ (y : Entry). y.place) (Memᴰ.eq_of_singleton k) in
            (granted, middle_in low (chunks_of parts) high (granted_among c (omega arith)), c.place ∙ add-zero e.place ∙ sym s ∙ q)

    abbrev linked : Kind → Draft
    linked k = relink low (chunks_of parts) high (leave_as k e (as_read ws h))

    -- what is left of e settles with e's kind, if anything is left
    abbrev settled : Kind → Draft
    settled k = cond (eqb above.size 0) (linked k) (settle k above (linked k))

    -- if e is ordinary, donor and top are other chunks
    ordinary_posts : kind_of h e ≡ Ordinary → Posts h (low ++ high)
    ordinary_posts kind =
        let o = is_ordinary_lem ws h well e member (ap ordinary_kind kind) in
        record { top = top_outer inner o.not_top; donor = donor_outer inner o.not_donor }

    -- nothing is left of e
    wholly_done : above.size ≡ 0 → kind_of h e ≡ Ordinary → Finished ws h h grant_chain (now_uses 0 granted.size (linked Ordinary))
    wholly_done z kind =
        waiting_done well
        (subst (λ (l : List Entry). Waiting ws h h (low ++ high) l grant_chain (linked Ordinary)) (rest_none c z) (waits (opens Ordinary kind refl)))
        (posts_in stays (ordinary_posts kind)) (λ c. c) still_placed 0 granted.size counted

    -- a part is left above, which settles with e's kind
    module _ (some : above.size ≡ 0 → ⊥) where
      above_in : Mem above (chunks_of parts)
      above_in = (rest_among c above (rw (rest_above c some) (Memᴰ.head refl))).0

      above_there : Mem above grant_chain
      above_there = middle_in low (chunks_of parts) high above_in

      one_waits : (k : Kind) → kind_of h e ≡ k → free_kind k ≡ true → Waiting ws h h (low ++ high) (above ∷ []) grant_chain (linked k)
      one_waits k kind f =
          subst (λ (l : List Entry). Waiting ws h h (low ++ high) l grant_chain (linked k)) (rest_above c some) (waits (opens k kind f))

      partly_ordinary : kind_of h e ≡ Ordinary → Finished ws h h grant_chain (now_uses 0 granted.size (settle Ordinary above (linked Ordinary)))
      partly_ordinary kind =
          waiting_done well (takes_bin_lem well (one_waits Ordinary kind refl) (ordinary_posts kind)) (posts_in stays (ordinary_posts kind)) (λ c. c) still_placed 0
          granted.size counted

      -- e is the donor
      module _ (kind : kind_of h e ≡ Donor) where
        was_donor : e.place ≡ h.donor.0
        was_donor = (being_as h e Donor kind).3

        top_else : TopAmong h.bytes h.top.0 (low ++ high)
        top_else = top_outer inner not_top_lem
          where
            not_top_lem : e.place ≢ h.top.0
            not_top_lem q = let t = (is_top ws h well e member q).kind in let z : ◌≡◌ {A = ℕ} 0 1 = cc in omega arith

        below_top_lem : above.place < h.top.0
        below_top_lem = go top_else.chunk top_else.place (beside inner top_else.chunk top_else.member)
          where
            go : (t : Entry) → t.place ≡ h.top.0 → Beside t e → above.place < h.top.0
            go t q (inl b) =
                let w = was_donor in
                let d = (is_donor ws h well e member (omega arith) was_donor).below in
                absurd (omega arith)
            go t q (inr b) =
                let l = (lies c refl no_skip_lem eight large above above_in).large in
                omega arith

        partly_donor : Finished ws h (with_donor h above.place) grant_chain (now_uses 0 granted.size (settle Donor above (linked Donor)))
        partly_donor =
            waiting_done well
            (takes_donor well (one_waits Donor kind refl) (λ x m q. elsewhere inner x m (q ∙ sym was_donor)) below_top_lem)
            (record {
              top = top_in stays top_else;
              donor = λ _. record { chunk = above; member = above_there; place = refl; free = c.free; below = below_top_lem };
            })
            (λ c. c) still_placed 0 granted.size counted

      -- e is the top
      module _ (kind : kind_of h e ≡ Top) where
        was_top : IsTop ws h (shape ws h.bytes) e
        was_top = is_top ws h well e member (being_as h e Top kind).3

        partly_top : Finished ws h (with_top h above.place) grant_chain (now_uses 0 granted.size (settle Top above (linked Top)))
        partly_top =
            let r = was_top.reaches in
            let q = was_top.place in
            waiting_done well
            (takes_top well (one_waits Top kind refl) (λ x m z. elsewhere inner x m (z ∙ sym was_top.place)))
            (record {
              top = record { chunk = above; member = above_there; place = refl; free = c.free; reaches = omega arith };
              donor =
                  λ d.
                  let (_, _, (_, b)) = well.donor d in
                  let t = donor_outer inner (λ z. omega arith) d in
                  donor_at t (stays t.chunk t.member) (omega arith);
            })
            (λ c. c) still_placed 0 granted.size counted

    -- for each kind of e; of donor and top at least 24 bytes are left
    pub cut_done : (k : Kind) → kind_of h e ≡ k → free_kind k ≡ true → (ordinary_kind k ≡ false → n + 24 ≤ e.size)
        → Finished ws h (with_post k above.place h) grant_chain (now_uses 0 granted.size (settled k))
    cut_done k kind f spare = go (eqb above.size 0) refl
      where
        too_near : above.size ≡ 0 → n + 24 ≤ e.size → ⊥
        too_near z l = let m = c.near z in omega arith

        go : (t : Bool) → eqb above.size 0 ≡ t
            → Finished ws h (with_post k above.place h) grant_chain (now_uses 0 granted.size (cond t (linked k) (settle k above (linked k))))
        go true t =
            let z = eqb-true above.size 0 t in
            free_kinds
            (λ k. kind_of h e ≡ k → (ordinary_kind k ≡ false → n + 24 ≤ e.size)
            → Finished ws h (with_post k above.place h) grant_chain (now_uses 0 granted.size (linked k)))
            (λ q s. wholly_done z q) (λ q s. absurd (too_near z (s refl))) (λ q s. absurd (too_near z (s refl))) k f kind spare
        go false t =
            let some = eqb-false above.size 0 t in
            free_kinds (λ k. kind_of h e ≡ k → Finished ws h (with_post k above.place h) grant_chain (now_uses 0 granted.size (settle k above (linked k))))
            (partly_ordinary some) (partly_donor some) (partly_top some) k f kind
