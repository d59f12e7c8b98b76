-- Shrinking a live block leaves a picture of the heap (`shrink_kept`): it passes and is read as the draft says. The kept chunk is live, every other
-- live chunk stays, and no other chunk becomes live. Assumes nothing.
use mathlib.Core.Path.{◌≡◌, refl, sym, ap, subst, ◌∙◌}
use mathlib.Core.Logic.{◌≢◌, ◌⊎◌, inl, inr}
use mathlib.Core.Bool.{true}
use mathlib.Core.List.Memᴰ
use mathlib.Core.List.{List, [], ◌∷◌, ◌++◌, append_assoc}
use Prim.Native.Nat.{ℕ, ◌+◌, ◌*◌, ◌-◌, ◌/◌, ◌%◌, ◌≤◌}
use native.Mathlib.Nat.{add-zero}
use native.Mathlib.Omega.{arith}
use Rattle.lists.specs.Lists.{Mem, last_or}
use Rattle.lists.proofs.SplitLaws.{among, outer_in, middle_in}
use Rattle.record.specs.declared.heap.Heap.{Heap}
use Rattle.region.specs.Words.{Store, put, written, forward, backward, size, next_in_bin, previous_in_bin, bin}
use Rattle.region.proofs.WordsLaws.{Off, word_same, word_other}
use Rattle.rules.specs.Shape.{Entry, entry, shape, chunk_end}
use Rattle.rules.specs.Kinds.{live_kind, live, block_of, outside}
use Rattle.rules.specs.Check.{used_bytes, IsChunk, Passes}
use Rattle.rules.specs.Draft.{Draft, Spot, as_read, now_uses}
use Rattle.rules.specs.Join.{joining, release}
use Rattle.rules.specs.Free.{is_live, block_spot}
use Rattle.rules.specs.Cut.{Grant}
use Rattle.rules.specs.Reallocate.{shrunk}
use Rattle.rules.proofs.KindsLaws.{Used, kind_in_use}
use Rattle.rules.proofs.SpotLaws.{bounds}
use Rattle.books.proofs.SegmentLaws.{PassBy}
use Rattle.drafts.proofs.LivesLaws.{live_in, used_replaced}
use Rattle.drafts.proofs.PostsLaws.{Posts, posts_in}
use Rattle.drafts.proofs.LayoutLaws.{Beside, Laid, Layout, layout_replaced, laid_between}
use Rattle.drafts.proofs.HeaderLaws.{Header, Headed, headed_below, headed_joined, headed_keeps, PassByHeader}
use Rattle.drafts.proofs.HalfwayLaws.{Halfway, halfway_others, writes_halfway, Opened}
use Rattle.drafts.proofs.OpenLaws.{whole, laid_out, beside, lows, highs, headers_around}
use Rattle.drafts.proofs.PictureLaws.{Pictured, StaysQueued, pictured_live}
use Rattle.drafts.proofs.JoinLaws.{LiveChunk, here, own, linked_back}
use Rattle.drafts.proofs.BlockLaws.{splits, live_chunk}
use Rattle.drafts.proofs.ShrinkLaws.{ShrinkingChunk, kept_chunk, tail_chunk, split_draft}
use Rattle.drafts.proofs.GapLaws.{gap_chunk, Gap}
use Rattle.drafts.proofs.GapKept.{GivenBack, gap_given}
use Rattle.drafts.proofs.ReleaseKept.{inner, opens, posts, used_with, own_used, others_outer, outer_others}

-- the chunk e of a live block keeps n bytes; the chain is split at e
module _ {ws : List ℕ} {h : Heap} {low : List Entry} {e : Entry} {high : List Entry} {n : ℕ} (shrinks : ShrinkingChunk ws h low e high n) where
  abbrev chunk : LiveChunk ws h low e high
  chunk = shrinks.chunk

  abbrev well : Passes ws h
  well = chunk.well

  abbrev kept : Entry
  kept = kept_chunk shrinks

  abbrev tail : Entry
  tail = tail_chunk shrinks

  abbrev fill : Entry
  fill = gap_chunk tail.place (chunk_end tail)

  -- the kept chunk's forward link is stored first
  abbrev split_stores : List Store
  split_stores = put kept.place forward (chunk_end kept) ∷ []

  abbrev begun : Draft
  begun = split_draft shrinks

  in_use_lem : e.flags ≡ 1
  in_use_lem = (own chunk).0

  all_laid : Layout h.bytes (low ++ e ∷ [] ++ high)
  all_laid = laid_out (inner chunk)

  own_laid : Laid h.bytes e
  own_laid = all_laid.chunks e (middle_in low (e ∷ []) high (Memᴰ.head refl))

  kept_laid : Laid h.bytes kept
  kept_laid =
      let b = (inner chunk).between in
      let z = own_laid.eight in
      laid_between h.bytes kept z (omega arith) (record { some = shrinks.large; above = omega arith; below = omega arith })

  -- the rest of e above the kept chunk, in use or free
  rest_laid : (s f : ℕ) → s ≡ e.size - n → f ≤ 1 → Laid h.bytes (entry (e.place + n) s f)
  rest_laid s f q u =
      let b = (inner chunk).between in
      let z = own_laid.eight in
      laid_between h.bytes (entry (e.place + n) s f) (omega arith) u (record { some = omega arith; above = omega arith; below = omega arith })

  parted : (s f : ℕ) → s ≡ e.size - n → f ≤ 1 → Layout h.bytes (low ++ kept ∷ entry (e.place + n) s f ∷ [] ++ high)
  parted s f q u =
      layout_replaced low (e ∷ []) (kept ∷ entry (e.place + n) s f ∷ []) high all_laid
      (lows (inner chunk)) (highs (inner chunk))
      (λ a b t. (t.0, omega arith, (refl, omega arith, omega arith))) laid
    where
      laid : (x : Entry) → Mem x (kept ∷ entry (e.place + n) s f ∷ []) → Laid h.bytes x
      laid x (Memᴰ.head k) = rw k kept_laid
      laid x (Memᴰ.tail k) = rw (Memᴰ.eq_of_singleton k) (rest_laid s f q u)

  -- the stored word is in no other chunk
  outer_laid : (x : Entry) → Mem x (low ++ high) → Laid h.bytes x
  outer_laid x m = all_laid.chunks x (outer_in low (e ∷ []) high m)

  word_misses : (x : Entry) → Mem x (low ++ high) → (k : ℕ) → 4 * k + 4 ≤ x.size → Off (x.place / 4 + k) split_stores
  word_misses x m k r = (go (beside (inner chunk) x m), tt)
    where
      go : Beside x e → x.place / 4 + k ≢ e.place / 4 + forward
      go (inl b) = let y = (outer_laid x m).eight in let z = own_laid.eight in λ q. omega arith
      go (inr b) = let y = (outer_laid x m).eight in let z = own_laid.eight in λ q. omega arith

  outer_spared : (x : Entry) → Mem x (low ++ high) → PassByHeader split_stores x
  outer_spared x m =
      let y = (outer_laid x m).some in
      (word_misses x m forward (omega arith), word_misses x m backward (omega arith), λ f. word_misses x m size (omega (arith, ((outer_laid x m).free f).some)))

  outer_passed : (x : Entry) → Mem x (low ++ high) → x.flags ≡ 0 → PassBy split_stores x.place
  outer_passed x m f =
      let y = ((outer_laid x m).free f).some in
      (word_misses x m next_in_bin (omega arith), word_misses x m previous_in_bin (omega arith), word_misses x m bin (omega arith))

  -- the kept chunk is in use, so it may be added to those that stay
  split_halfway : Halfway ws h (low ++ high) begun
  unfolding as_read
  split_halfway =
      writes_halfway (shape ws h.bytes) split_stores split_stores (opens chunk).halfway refl outer_laid outer_passed

  kept_halfway : Halfway ws h (low ++ kept ∷ [] ++ high) begun
  kept_halfway =
      halfway_others split_halfway (λ x m o. outer_in low (kept ∷ []) high m)
      (λ x m. go x (among low (kept ∷ []) high m))
    where
      go : (x : Entry) → Mem x (low ++ high) ⊎ Mem x (kept ∷ []) → Mem x (low ++ high) ⊎ Used x
      go x (inl k) = inl k
      go x (inr k) = inr (rw (Memᴰ.eq_of_singleton k) (omega arith))

  -- the kept chunk's header links it to the tail
  kept_header : Header (written ws split_stores) (last_or outside low) kept fill
  kept_header =
      let r = (headers_around (inner chunk)).own in
      let b = (inner chunk).between in
      let f = (bounds ws h well).fits in
      let u = in_use_lem in
      record {
        back = word_other ws e.place forward (e.place + n) e.place backward (omega arith) ∙ r.back ∙ ap (λ (v : ℕ). (last_or outside low).place + v) u;
        forth = word_same ws e.place forward (e.place + n) (omega arith);
        sized = λ z. absurd (omega arith);
      }

  split_lower : Headed (written ws split_stores) outside (low ++ kept ∷ []) fill
  split_lower =
      headed_joined (written ws split_stores) outside low (kept ∷ []) fill
      (headed_below (written ws split_stores) outside low e kept refl
      (headed_keeps split_stores ws outside low e (λ x m. outer_spared x (Memᴰ.append_left high m)) (headers_around (inner chunk)).lower))
      (kept_header, tt)

  split_upper : Headed (written ws split_stores) e high outside
  split_upper =
      headed_keeps split_stores ws e high outside (λ x m. outer_spared x (Memᴰ.append_right low m)) (headers_around (inner chunk)).upper

  split_opened : Opened ws h (low ++ kept ∷ []) fill e high begun
  unfolding as_read
  split_opened =
      record { halfway = kept_halfway; lower = split_lower; upper = split_upper; same = refl }

  kept_live : live h kept ≡ true
  kept_live =
      let b = (inner chunk).between in
      ap live_kind (sym (kind_in_use h.bytes h.donor.0 h.top.0 kept (λ q. omega arith) (λ q. omega arith) refl))

  pub split_laid : Layout h.bytes (low ++ kept ∷ [] ++ fill ∷ [] ++ high)
  split_laid =
      subst (λ (es : List Entry). Layout h.bytes (es ++ high)) (sym (append_assoc low (kept ∷ []) (fill ∷ [])))
      (parted (chunk_end tail - tail.place) 0 (omega arith) (omega arith))

  -- used bytes fall by the tail's size
  fewer : h.used + n - e.size ≡ used_bytes h (low ++ kept ∷ [] ++ high)
  fewer =
      let r = used_replaced h low (e ∷ []) (kept ∷ []) high in
      let a : used_bytes h (kept ∷ []) ≡ n = rw kept_live (add-zero n) in
      let b = own_used chunk in
      let c = used_with chunk in
      omega arith

  tail_gap : Gap ws h (low ++ kept ∷ [] ++ high) (low ++ kept ∷ []) tail.place (chunk_end tail) high begun
  tail_gap =
      record {
        layout = split_laid;
        last = e;
        opened = split_opened;
        alive = refl;
        patrol = inl (let (x, m, q) = well.patrol in placed x q (among low (e ∷ []) high (subst (λ (l : List Entry). Mem x l) (whole (inner chunk)) m)));
        crossed =
            let b = (inner chunk).between in
            let f = in_use_lem in
            record { chunk = e; member = here chunk; used = omega arith; below = omega (arith, shrinks.less); above = omega (arith, shrinks.less) };
      }
    where
      -- where it is e's, the kept chunk is there
      placed : (x : Entry) → x.place ≡ h.patrol.0 → Mem x (low ++ high) ⊎ Mem x (e ∷ []) → IsChunk (low ++ kept ∷ [] ++ high) h.patrol.0
      placed x q (inl k) = (x, outer_in low (kept ∷ []) high k, q)
      placed x q (inr k) =
          (kept, middle_in low (kept ∷ []) high (Memᴰ.head refl), ap (λ (y : Entry). y.place) (sym (Memᴰ.eq_of_singleton k)) ∙ q)

  split_posts : Posts h (low ++ kept ∷ [] ++ high)
  split_posts = posts_in (λ x m. outer_in low (kept ∷ []) high m) (posts chunk)

  pub tail_given : GivenBack ws h (low ++ kept ∷ [] ++ high) (linked_back (joining h (low ++ kept ∷ []) tail high) begun)
      (now_uses e.size n (release (low ++ kept ∷ []) tail high begun))
  unfolding as_read
  tail_given =
      gap_given well e.size n fewer tail refl tail_gap split_posts

-- the live block at b keeps n bytes of its chunk
pub record ShrinkingBlock (ws : List ℕ) (h : Heap) (b n : ℕ) : Type 0 where
  pub well : Passes ws h
  pub live : is_live (as_read ws h) b ≡ true
  pub large : 24 ≤ n
  pub eight : n % 8 ≡ 0
  pub less : n + 24 ≤ (block_spot (as_read ws h) b).here.size

module _ {ws : List ℕ} {h : Heap} {b n : ℕ} (shrinks : ShrinkingBlock ws h b n) where
  abbrev s : Spot
  s = block_spot (as_read ws h) b

  pub chunk_shrinks : ShrinkingChunk ws h s.low s.here s.high n
  chunk_shrinks = record { chunk = live_chunk ws h shrinks.well b shrinks.live; large = shrinks.large; eight = shrinks.eight; less = shrinks.less }

  abbrev pub shrunken : Grant
  shrunken = shrunk s n (as_read ws h)

  abbrev closed : Draft
  closed = linked_back (joining h (s.low ++ kept_chunk chunk_shrinks ∷ []) (tail_chunk chunk_shrinks) s.high) (split_draft chunk_shrinks)

  given : GivenBack ws h (s.low ++ shrunken.granted ∷ [] ++ s.high) closed shrunken.draft
  given = tail_given chunk_shrinks

  pub shrink_kept : Pictured ws shrunken.draft
  shrink_kept = given.pictured

  pub shrink_queued : StaysQueued ws h shrunken.draft
  shrink_queued = given.queued

  same_live : (e : Entry) → live shrunken.draft.heap e ≡ live h e
  same_live e = pictured_live ws h shrinks.well shrunken.draft shrink_kept e

  abbrev base : List Entry
  base = s.low ++ shrunken.granted ∷ [] ++ s.high

  base_stays : (e : Entry) → Mem e base → live h e ≡ true → Mem e shrunken.draft.chain × (live shrunken.draft.heap e ≡ true)
  base_stays e m l = (live_in h base shrunken.draft.chain (sym given.alive) m l, same_live e ∙ l)

  -- the kept chunk is on the new chain and live
  pub shrink_there : Mem shrunken.granted shrunken.draft.chain × (live shrunken.draft.heap shrunken.granted ≡ true)
  shrink_there =
      base_stays shrunken.granted (middle_in s.low (shrunken.granted ∷ []) s.high (Memᴰ.head refl)) (kept_live chunk_shrinks)

  -- every other live chunk stays, and no other chunk is live
  pub shrink_others_stay : (e : Entry) → Mem e (shape ws h.bytes) → live h e ≡ true → block_of e ≢ b
      → Mem e shrunken.draft.chain × (live shrunken.draft.heap e ≡ true)
  shrink_others_stay e m k o =
      base_stays e (outer_in s.low (shrunken.granted ∷ []) s.high (others_outer ws h shrinks.well b shrinks.live e m o)) k

  pub shrink_none_new : (e : Entry) → Mem e shrunken.draft.chain
      → live shrunken.draft.heap e ≡ true → block_of e ≢ b → Mem e (shape ws h.bytes) × (live h e ≡ true)
  shrink_none_new e m k o =
      let l = sym (same_live e) ∙ k in
      (go (among s.low (shrunken.granted ∷ []) s.high (live_in h shrunken.draft.chain base given.alive m l)), l)
    where
      go : Mem e (s.low ++ s.high) ⊎ Mem e (shrunken.granted ∷ []) → Mem e (shape ws h.bytes)
      go (inl q) = (outer_others ws h shrinks.well b shrinks.live e q).0
      go (inr q) = absurd (o (ap block_of (Memᴰ.eq_of_singleton q) ∙ (splits ws h shrinks.well b shrinks.live).block))
