-- Freeing a live block leaves a picture of the heap (`free_kept`): it passes and is read as the draft says. Every other live chunk stays, and no
-- chunk becomes live. Assumes nothing.
use mathlib.Core.Path.{◌≡◌, refl, sym, ap, subst, ◌∙◌}
use mathlib.Core.Logic.{◌≢◌, ◌⊎◌, inl, inr}
use mathlib.Core.Bool.{true}
use mathlib.Core.List.Memᴰ
use mathlib.Core.List.{List, [], ◌∷◌, ◌++◌, append-nil}
use Prim.Native.Nat.{ℕ, ◌+◌, ◌-◌, ◌≤◌}
use native.Mathlib.Nat.{add-zero}
use native.Mathlib.Omega.{arith}
use Rattle.lists.specs.Lists.{Mem}
use Rattle.lists.proofs.SplitLaws.{among, outer_in, middle_in}
use Rattle.record.specs.declared.heap.Heap.{Heap}
use Rattle.rules.specs.Shape.{Entry, shape, chunk_end}
use Rattle.rules.specs.Kinds.{ordinary_kind, kind_of, live, block_of, outside}
use Rattle.rules.specs.Check.{used_bytes, Passes}
use Rattle.rules.specs.Draft.{Spot, as_read, now_uses}
use Rattle.rules.specs.Join.{joining, release}
use Rattle.rules.specs.Free.{is_live, block_spot, free_block}
use Rattle.rules.proofs.SpotLaws.{one_chunk}
use Rattle.rules.proofs.NamedLaws.{is_top, is_donor}
use Rattle.rules.proofs.KindsLaws.{live_kind_lem, block_starts, block_inside}
use Rattle.drafts.proofs.LivesLaws.{live_in, used_parts}
use Rattle.drafts.proofs.PostsLaws.{Posts}
use Rattle.drafts.proofs.LayoutLaws.{Beside, Laid, Layout, layout_replaced, laid_between}
use Rattle.drafts.proofs.HeaderLaws.{headed_below}
use Rattle.drafts.proofs.HalfwayLaws.{Opened}
use Rattle.drafts.proofs.OpenLaws.{InnerChunk, whole, laid_out, beside, outer, lows, highs, opens_kept, top_outer, donor_outer}
use Rattle.drafts.proofs.PictureLaws.{Pictured, StaysQueued, pictured_live}
use Rattle.drafts.proofs.JoinLaws.{LiveChunk, here, own, linked_back}
use Rattle.drafts.proofs.BlockLaws.{splits, live_chunk}
use Rattle.drafts.proofs.GapLaws.{gap_chunk, Placed, Gap}
use Rattle.drafts.proofs.GapKept.{GivenBack, gap_given}

-- the chunk e of a live block; the chain is split there
module _ {ws : List ℕ} {h : Heap} {low : List Entry} {e : Entry} {high : List Entry} (chunk : LiveChunk ws h low e high) where
  abbrev well : Passes ws h
  well = chunk.well

  pub inner : InnerChunk ws h low e high
  inner = record { well = well; split = chunk.split; between = (own chunk).1 }

  -- e is in no bin, and is neither donor nor top
  pub opens : Opened ws h low e e high (as_read ws h)
  opens = opens_kept inner (ap ordinary_kind (live_kind_lem (kind_of h e) chunk.live))

  pub posts : Posts h (low ++ high)
  posts =
      let f = (own chunk).0 in
      let m = here chunk in
      record {
        top = top_outer inner (λ q. let t = (is_top ws h well e m q).free.flags in omega arith);
        donor = λ some. donor_outer inner (λ q. let t = (is_donor ws h well e m some q).free.flags in omega arith) some;
      }

  -- its size is among the used bytes
  pub used_with : h.used ≡ used_bytes h (low ++ e ∷ [] ++ high)
  used_with = well.used ∙ ap (used_bytes h) (whole inner)

  pub own_used : used_bytes h (e ∷ []) ≡ e.size
  own_used = rw chunk.live (add-zero e.size)

  pub own_among_used : e.size ≤ h.used
  own_among_used =
      let a = used_parts h low (e ∷ []) high in
      let s = own_used in
      let u = used_with in
      omega arith

  -- given back, e leaves a gap
  fill_laid : Laid h.bytes (gap_chunk e.place (chunk_end e))
  fill_laid =
      let b = inner.between in
      let y = ((laid_out inner).chunks e (middle_in low (e ∷ []) high (Memᴰ.head refl))).eight in
      laid_between h.bytes (gap_chunk e.place (chunk_end e)) y (omega arith) (record { some = omega arith; above = omega arith; below = omega arith })

  pub freed_laid : Layout h.bytes (low ++ gap_chunk e.place (chunk_end e) ∷ [] ++ high)
  freed_laid =
      layout_replaced low (e ∷ []) (gap_chunk e.place (chunk_end e) ∷ []) high (laid_out inner) (lows inner) (highs inner)
      (λ a b t. (t.0, omega arith, omega arith)) (λ x m. rw (Memᴰ.eq_of_singleton m) fill_laid)

  chunk_gap : Gap ws h (low ++ high) low e.place (chunk_end e) high (as_read ws h)
  chunk_gap =
      record {
        layout = freed_laid;
        last = e;
        opened =
            record {
              halfway = opens.halfway;
              lower = headed_below _ outside low e (gap_chunk e.place (chunk_end e)) refl opens.lower;
              upper = opens.upper;
              same = opens.same;
            };
        alive = refl;
        patrol = let (x, m, q) = well.patrol in placed x q (among low (e ∷ []) high (subst (λ (l : List Entry). Mem x l) (whole inner) m));
        crossed =
            let b = inner.between in
            let f = (own chunk).0 in
            record { chunk = e; member = here chunk; used = omega arith; below = omega arith; above = omega arith };
      }
    where
      placed : (x : Entry) → x.place ≡ h.patrol.0 → Mem x (low ++ high) ⊎ Mem x (e ∷ [])
          → Placed h.patrol.0 (low ++ high) e.place (chunk_end e)
      placed x q (inl k) = inl (x, k, q)
      placed x q (inr k) =
          let s = ap (λ (y : Entry). y.place) (Memᴰ.eq_of_singleton k) in
          let b = inner.between in
          inr (omega arith, omega arith)

  -- used bytes fall by its size
  fewer : h.used + 0 - e.size ≡ used_bytes h (low ++ high)
  fewer =
      let a = used_parts h low (e ∷ []) high in
      let b = used_parts h low [] high in
      let c : used_bytes h (low ++ [] ++ high) ≡ used_bytes h (low ++ high) = ap (λ (l : List Entry). used_bytes h (l ++ high)) (append-nil low) in
      let s = own_used in
      let u = used_with in
      omega arith

  pub chunk_given : GivenBack ws h (low ++ high) (linked_back (joining h low e high) (as_read ws h)) (now_uses e.size 0 (release low e high (as_read ws h)))
  unfolding as_read
  chunk_given = gap_given well e.size 0 fewer e refl chunk_gap posts

-- the live block at b is freed
module _ (ws : List ℕ) (h : Heap) (p : Passes ws h) (b : ℕ) (l : is_live (as_read ws h) b ≡ true) where
  abbrev s : Spot
  s = block_spot (as_read ws h) b

  abbrev chunk : LiveChunk ws h s.low s.here s.high
  chunk = live_chunk ws h p b l

  -- the chunks of other blocks
  pub others_outer : (e : Entry) → Mem e (shape ws h.bytes) → block_of e ≢ b → Mem e (s.low ++ s.high)
  others_outer e m n =
      outer (inner chunk) e m
      (λ q. n (ap block_of (one_chunk ws h p e s.here m (here chunk) q) ∙ (splits ws h p b l).block))

  pub outer_others : (e : Entry) → Mem e (s.low ++ s.high) → Mem e (shape ws h.bytes) × (block_of e ≢ b)
  outer_others e m = (
    subst (λ (es : List Entry). Mem e es) (sym (whole (inner chunk))) (outer_in s.low (s.here ∷ []) s.high m),
    λ q. apart q (beside (inner chunk) e m),
  )
    where
      -- a block lies inside its chunk, so chunks that do not overlap have different blocks
      apart : block_of e ≡ b → Beside e s.here → ⊥
      apart q k =
          let y = laid_out (inner chunk) in
          let c = (splits ws h p b l).block in
          go k (block_starts e) (block_inside e (y.chunks e (outer_in s.low (s.here ∷ []) s.high m)).some) (block_starts s.here)
          (block_inside s.here (y.chunks s.here (middle_in s.low (s.here ∷ []) s.high (Memᴰ.head refl))).some) (q ∙ sym c)
        where
          go : Beside e s.here → e.place + 8 ≤ block_of e → block_of e ≤ chunk_end e → s.here.place + 8 ≤ block_of s.here
              → block_of s.here ≤ chunk_end s.here → block_of e ≡ block_of s.here → ⊥
          go (inl r) a₁ a₂ b₁ b₂ z = omega arith
          go (inr r) a₁ a₂ b₁ b₂ z = omega arith

  free_given : GivenBack ws h (s.low ++ s.high) (linked_back (joining h s.low s.here s.high) (as_read ws h)) (free_block b (as_read ws h))
  unfolding free_block
  free_given = chunk_given chunk

  pub free_kept : Pictured ws (free_block b (as_read ws h))
  free_kept = free_given.pictured

  pub free_queued : StaysQueued ws h (free_block b (as_read ws h))
  free_queued = free_given.queued

  -- the new record finds the same chunks live
  same_live : (e : Entry) → live (free_block b (as_read ws h)).heap e ≡ live h e
  same_live e = pictured_live ws h p (free_block b (as_read ws h)) free_kept e

  -- every other live chunk stays, and no other chunk is live
  pub others_stay : (e : Entry) → Mem e (shape ws h.bytes) → live h e ≡ true → block_of e ≢ b
      → Mem e (free_block b (as_read ws h)).chain × (live (free_block b (as_read ws h)).heap e ≡ true)
  others_stay e m k n =
      (live_in h (s.low ++ s.high) (free_block b (as_read ws h)).chain (sym free_given.alive) (others_outer e m n) k, same_live e ∙ k)

  pub none_new : (e : Entry) → Mem e (free_block b (as_read ws h)).chain → live (free_block b (as_read ws h)).heap e ≡ true
      → Mem e (shape ws h.bytes) × (live h e ≡ true) × (block_of e ≢ b)
  none_new e m k =
      let l = sym (same_live e) ∙ k in
      let o = outer_others e (live_in h (free_block b (as_read ws h)).chain (s.low ++ s.high) free_given.alive m l) in
      (o.0, l, o.1)
