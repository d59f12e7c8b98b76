-- A grant leaves a picture of the heap (`grant_kept`): it passes and is read as the draft says. The granted chunk is a new live chunk, and every
-- live chunk stays; what is left of donor or top has its post (`granted_donor`, `granted_top`). Assumes nothing.
use Rattle.std.specs.Prelude.{Option, Some, None}
use mathlib.Core.Path.{◌≡◌, sym, ap, subst, ◌∙◌}
use mathlib.Core.Logic.{◌≢◌, ◌⊎◌, inl, inr}
use mathlib.Core.Bool.{true, cond, false≢true}
use mathlib.Core.List.{List, [], ◌∷◌, ◌++◌}
use Prim.Native.Nat.{ℕ, ◌+◌, ◌≤◌, ◌<◌}
use native.Mathlib.Decide.{ℕ_discrete}
use native.Mathlib.Nat.{add-zero}
use native.Mathlib.Omega.{arith}
use lib.Dec.{eqb}
use Rattle.lists.specs.Lists.{Mem}
use Rattle.lists.proofs.SplitLaws.{among, outer_in, middle_in}
use Rattle.record.specs.declared.heap.Heap.{Heap}
use Rattle.record.specs.declared.sources.Source.{Source}
use Rattle.rules.specs.Shape.{Entry, shape}
use Rattle.rules.specs.Kinds.{live, is_at}
use Rattle.rules.specs.Draft.{Draft, as_read, relink, settle, now_uses, spot}
use Rattle.rules.specs.Cut.{Grant, Parts, cut, chunks_of, leave_as, grant_at}
use Rattle.rules.specs.Allocate.{source_of, grant}
use Rattle.rules.proofs.KindsLaws.{free_not_live_lem}
use Rattle.rules.proofs.SpotLaws.{one_chunk}
use Rattle.drafts.proofs.OpenLaws.{whole, outer}
use Rattle.drafts.proofs.PictureLaws.{Pictured, StaysQueued, pictured_live}
use Rattle.drafts.proofs.WaitingLaws.{Finished}
use Rattle.drafts.specs.Sources.{kind_in}
use Rattle.drafts.proofs.SourceLaws.{CanGrant, Grantable, free_source, source_can}
use Rattle.drafts.proofs.CutLaws.{FreeChunk, Cutting, rest_of, cut_parts, granted_among, rest_among, chunks_among}
use Rattle.drafts.proofs.CutKept.{with_post, inner, cut_live, cut_done}

module _ {ws : List ℕ} {h : Heap} {n : ℕ} (room : Grantable ws h n) where
  abbrev pub source : Option Source
  source = source_of n (as_read ws h)

  abbrev es : List Entry
  es = shape ws h.bytes

  -- the rule's grant
  abbrev pub the_grant : Grant
  the_grant = grant n (as_read ws h)

  pub source_chunk : Entry
  source_chunk = (source_can ws h room.well n room.some).0

  pub can : CanGrant ws h n source source_chunk
  unfolding source_chunk
  can = (source_can ws h room.well n room.some).1

  abbrev pub low : List Entry
  low = (spot (is_at source_chunk.place) es).low

  abbrev pub high : List Entry
  high = (spot (is_at source_chunk.place) es).high

  abbrev pub parts : Parts
  parts = cut source_chunk 0 n

  abbrev pub grant_after : Draft
  grant_after =
      now_uses 0 parts.granted.size (cond (eqb parts.above.size 0) (relink low (chunks_of parts) high (leave_as (kind_in source) source_chunk (as_read ws h)))
      (settle (kind_in source) parts.above (relink low (chunks_of parts) high (leave_as (kind_in source) source_chunk (as_read ws h)))))

  pub grant_is : the_grant ≡ record { granted = parts.granted; draft = grant_after }
  unfolding grant_at
  grant_is = can.is ∙ rw can.here

  pub chunk : FreeChunk ws h low source_chunk high
  chunk = record { well = room.well; split = can.split; free = can.free }

  pub cutting : Cutting source_chunk 0 n parts
  cutting = cut_parts source_chunk 0 n (omega (arith, can.enough))

  done : Finished ws h (with_post (kind_in source) parts.above.place h) (low ++ chunks_of parts ++ high) grant_after
  done = cut_done chunk cutting room.eight room.large (kind_in source) can.kind (free_source source room.some) can.spare

  pub grant_kept : Pictured ws the_grant.draft
  grant_kept = rw grant_is done.pictured

  pub grant_queued : StaysQueued ws h the_grant.draft
  grant_queued = rw grant_is done.queued

  -- the parts stand where the source stood
  pub granted_chain : the_grant.draft.chain ≡ low ++ chunks_of parts ++ high
  granted_chain = rw grant_is done.chain

  -- what is left of donor or top has its post
  pub granted_donor : the_grant.draft.heap.donor.0 ≡ (with_post (kind_in source) parts.above.place h).donor.0
  granted_donor = rw grant_is done.donor

  pub granted_top : the_grant.draft.heap.top.0 ≡ (with_post (kind_in source) parts.above.place h).top.0
  granted_top = rw grant_is done.top

  -- the new record finds the same chunks live
  same_live : (e : Entry) → live the_grant.draft.heap e ≡ live h e
  same_live e = pictured_live ws h room.well the_grant.draft grant_kept e

  -- the granted chunk is on the new chain, is live, has at least n bytes, and has no live chunk's place
  granted_in_lem : Mem parts.granted (chunks_of parts)
  granted_in_lem = granted_among cutting (omega arith)

  pub granted_there : Mem the_grant.granted the_grant.draft.chain
  granted_there = rw granted_chain (rw grant_is (middle_in low (chunks_of parts) high granted_in_lem))

  pub granted_live : live the_grant.draft.heap the_grant.granted ≡ true
  granted_live = same_live the_grant.granted ∙ rw grant_is (cut_live chunk cutting room.eight room.large)

  pub granted_large : n ≤ the_grant.granted.size
  granted_large = rw grant_is cutting.enough

  -- what is granted beyond n is too little for a chunk
  pub granted_few : the_grant.granted.size < n + 24
  granted_few = rw grant_is (go (ℕ_discrete parts.above.size 0))
    where
      go : Dec (parts.above.size ≡ 0) → parts.granted.size < n + 24
      go (yes z) = omega (arith, cutting.sum, cutting.near z)
      go (no some) = omega (arith, cutting.exact (omega arith))

  -- no live chunk is the source
  other : (e : Entry) → Mem e es → live h e ≡ true → e.place ≢ source_chunk.place
  other e m l q =
      let r = one_chunk ws h room.well e source_chunk m can.member q in
      false≢true (sym (free_not_live_lem h source_chunk can.free.flags) ∙ ap (live h) (sym r) ∙ l)

  pub granted_place : the_grant.granted.place ≡ source_chunk.place
  granted_place = rw grant_is (cutting.place ∙ add-zero source_chunk.place)

  pub granted_new : (e : Entry) → Mem e (shape ws h.bytes) → live h e ≡ true → e.place ≢ the_grant.granted.place
  granted_new e m l q = other e m l (q ∙ granted_place)

  -- every chunk but the source stays
  pub others_there : (e : Entry) → Mem e (shape ws h.bytes) → e.place ≢ source_chunk.place → Mem e the_grant.draft.chain
  others_there e m n = rw granted_chain (outer_in low (chunks_of parts) high (outer (inner chunk) e m n))

  -- every live chunk stays
  pub live_stays : (e : Entry) → Mem e (shape ws h.bytes) → live h e ≡ true
      → Mem e the_grant.draft.chain × (live the_grant.draft.heap e ≡ true)
  live_stays e m l = (others_there e m (other e m l), same_live e ∙ l)

  -- no chunk becomes live but the granted one
  kept_only : (e : Entry) → Mem e grant_after.chain → live h e ≡ true → (e ≡ parts.granted) ⊎ (Mem e es × (live h e ≡ true))
  kept_only e m l = go (among low (chunks_of parts) high (rw done.chain at m))
    where
      part : (e ≡ parts.granted) ⊎ Mem e (rest_of parts) → e ≡ parts.granted
      part (inl q) = q
      part (inr k) = absurd (false≢true (sym (free_not_live_lem h e (rest_among cutting e k).1) ∙ l))

      go : Mem e (low ++ high) ⊎ Mem e (chunks_of parts) → (e ≡ parts.granted) ⊎ (Mem e es × (live h e ≡ true))
      go (inl k) = inr (subst (λ (xs : List Entry). Mem e xs) (sym (whole (inner chunk))) (outer_in low (source_chunk ∷ []) high k), l)
      go (inr k) = inl (part (chunks_among cutting e k))

  pub granted_only : (e : Entry) → Mem e the_grant.draft.chain → live the_grant.draft.heap e ≡ true
      → (e ≡ the_grant.granted) ⊎ (Mem e (shape ws h.bytes) × (live h e ≡ true))
  granted_only e m l = rw grant_is (kept_only e (rw grant_is at m) (sym (same_live e) ∙ l))
