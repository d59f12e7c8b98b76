-- Freeing and shrinking write no word of another live block, and shrinking none of the part that is kept (`free_spares`, `shrink_spares`,
-- `shrink_spares_own`); neither writes past the heap bytes. Assumes nothing.
use mathlib.Core.Path.{◌≡◌, refl, ap}
use mathlib.Core.Logic.{◌≢◌}
use mathlib.Core.Bool.{Bool, true, false, cond, false≢true}
use mathlib.Core.List.Memᴰ
use mathlib.Core.List.{List, [], ◌∷◌, ◌++◌}
use Prim.Native.Nat.{ℕ, ◌+◌, ◌*◌, ◌/◌, ◌≤◌, ◌<◌}
use native.Mathlib.Omega.{arith}
use lib.ListN.{drop}
use Rattle.lists.specs.Lists.{Mem, head_or, last_or}
use Rattle.lists.proofs.MembersLaws.{last_member}
use Rattle.lists.proofs.SplitLaws.{outer_in, middle_in}
use Rattle.record.specs.declared.heap.Heap.{Heap}
use Rattle.region.specs.Words.{forward, backward, size, next_in_bin, previous_in_bin, bin}
use Rattle.region.proofs.PrefixLaws.{Below}
use Rattle.region.proofs.WordsLaws.{Off}
use Rattle.rules.specs.Shape.{Entry, shape, chunk_end}
use Rattle.rules.specs.Kinds.{ordinary_kind, free_kind, kind_at, kind_of, ordinary, is_free, live, block_of, block_end, outside}
use Rattle.rules.specs.Check.{Passes}
use Rattle.rules.specs.Draft.{Draft, Spot, as_read, leave_bin}
use Rattle.rules.specs.Join.{Joined, leave_bins, release}
use Rattle.rules.specs.Free.{is_live, block_spot, free_block}
use Rattle.rules.proofs.SpotLaws.{one_chunk}
use Rattle.rules.proofs.KindsLaws.{ordinary_free, live_used}
use Rattle.drafts.proofs.LayoutLaws.{Layout}
use Rattle.drafts.proofs.OpenLaws.{outer}
use Rattle.drafts.proofs.SparedLaws.{Outside, link_word, free_word, Spared, read_spared, writes_spared, leave_spared, relink_spared, settle_spared, uses_spared, patrols_spared, blocks_spared, heap_stores}
use Rattle.drafts.proofs.JoinLaws.{LiveChunk, sees, joined_by, sees_ordinary, here, own, seen_free, summit}
use Rattle.drafts.proofs.BlockLaws.{splits, live_chunk}
use Rattle.drafts.proofs.ShrinkLaws.{kept_chunk, tail_chunk, split_draft}
use Rattle.drafts.proofs.GapLaws.{gap_chunk}
use Rattle.drafts.proofs.GapKept.{release_is}
use Rattle.drafts.proofs.ReleaseKept.{inner, freed_laid, others_outer}
use Rattle.drafts.proofs.ShrinkKept.{ShrinkingBlock, shrunken, chunk_shrinks, split_laid}

-- chunks leave their bins one after the other
leaves_spared : (P : ℕ → Type 0) (es : List Entry) (d : Draft) → Spared P d → Spared P (leave_bins es d)
leaves_spared P [] d s = s
leaves_spared P (e ∷ es) d s = leaves_spared P es (leave_bin e d) (leave_spared P e d s)

-- the last of a list is a member, if it is ordinary: `outside`, the default, is not
last_there : (h : Heap) (low : List Entry) → ordinary h (last_or outside low) ≡ true → Mem (last_or outside low) low
unfolding kind_at
last_there h [] o = absurd (false≢true o)
last_there h (x ∷ xs) o = last_member x xs

-- the chunk e of a live block; the chain is split there. `part`, which is e or its tail and lies above the chunks `lows`, is given back
module _ {ws : List ℕ} {h : Heap} {low : List Entry} {e : Entry} {high : List Entry} (chunk : LiveChunk ws h low e high) (lows : List Entry) (part : Entry)
    (y : Layout h.bytes (lows ++ gap_chunk part.place (chunk_end part) ∷ [] ++ high)) (sub : (x : Entry) → Mem x (low ++ high) → Mem x (lows ++ high)) where
  abbrev well : Passes ws h
  well = chunk.well

  abbrev fill : Entry
  fill = gap_chunk part.place (chunk_end part)

  abbrev all : List Entry
  all = lows ++ fill ∷ [] ++ high

  -- the word at index i is outside all live blocks but that of `part`
  abbrev Open : ℕ → Type 0
  Open i = Outside h.bytes all i

  abbrev below : Entry
  below = last_or outside lows

  stays : (x : Entry) → Mem x (low ++ high) → Mem x all
  stays x m = outer_in lows (fill ∷ []) high (sub x m)

  -- the first six words of a free chunk
  free_words_lem : (x : Entry) → Mem x all → x.flags ≡ 0 → (k : ℕ) → k < 6 → Open (x.place / 4 + k)
  free_words_lem x m f k u =
      let i = y.chunks x m in
      let z = i.eight in
      free_word y m f x.place k z (omega arith) (omega (arith, (i.free f).some))

  other : (x : Entry) → Mem x (shape ws h.bytes) → x.place ≢ e.place → Mem x all
  other x m n = stays x (outer (inner chunk) x m n)

  read_free : Spared Open (as_read ws h)
  read_free =
      read_spared Open ws h well
      (λ x m f.
      let k = other x m (λ q. away x m f q) in
      (free_words_lem x k f next_in_bin (omega arith), free_words_lem x k f previous_in_bin (omega arith)))
    where
      away : (x : Entry) → Mem x (shape ws h.bytes) → x.flags ≡ 0 → x.place ≡ e.place → ⊥
      away x m f q =
          let s = ap (λ (d : Entry). d.flags) (one_chunk ws h well x e m (here chunk) q) in
          omega (arith, (own chunk).0)

  -- the first six words of the joined chunk, and the backward link of the chunk above it
  from_words : (t : Bool) → (t ≡ true → ordinary h below ≡ true) → (k : ℕ) → k < 6 → Open (cond t below.place part.place / 4 + k)
  from_words true o =
      let m = outer_in lows (fill ∷ []) high (Memᴰ.append_left high (last_there h lows (o refl))) in
      free_words_lem below m (ordinary_free h below (o refl) (y.chunks below m).flags)
  from_words false o = free_words_lem fill (middle_in lows (fill ∷ []) high (Memᴰ.head refl)) refl

  end_link : (t : Bool) → (t ≡ true → is_free h (head_or outside high) ≡ true) → Open ((head_or outside (cond t (drop 1 high) high)).place / 4 + backward)
  end_link t f =
      let s = summit chunk t f in
      let b = (own chunk).1 in
      link_word y (other _ s.member (λ q. omega arith)) backward (omega arith)

  abbrev joined : Joined
  joined = joined_by (sees h below) (sees h (head_or outside high)) lows part high

  released_spared : (d : Draft) → d.heap ≡ h → Spared Open d → Spared Open (release lows part high d)
  released_spared d heap s =
      let words = from_words (ordinary_kind (sees h below)) (sees_ordinary h.merge (kind_of h below)) in
      rw (release_is h lows part high d heap)
      (patrols_spared Open _ _
      (settle_spared Open joined.here _
      (relink_spared Open joined.low (joined.here ∷ []) joined.high _ (leaves_spared Open joined.leaving d s)
      (λ x m. rw (Memᴰ.eq_of_singleton m) (words forward (omega arith), words backward (omega arith), λ f. words size (omega arith)))
      (end_link (free_kind (sees h (head_or outside high))) (seen_free chunk)))
      (words next_in_bin (omega arith), words previous_in_bin (omega arith), words bin (omega arith)) joined.becomes))

-- the live block at b is freed
module _ (ws : List ℕ) (h : Heap) (p : Passes ws h) (b : ℕ) (l : is_live (as_read ws h) b ≡ true) where
  abbrev s : Spot
  s = block_spot (as_read ws h) b

  abbrev chunk : LiveChunk ws h s.low s.here s.high
  chunk = live_chunk ws h p b l

  abbrev freed : List Entry
  freed = s.low ++ gap_chunk s.here.place (chunk_end s.here) ∷ [] ++ s.high

  free_spared : Spared (Outside h.bytes freed) (free_block b (as_read ws h))
  unfolding free_block as_read
  free_spared =
      uses_spared (Outside h.bytes freed) s.here.size 0 (release s.low s.here s.high (as_read ws h))
      (released_spared chunk s.low s.here
      (freed_laid chunk) (λ x m. m) (as_read ws h) refl
      (read_free chunk s.low s.here
      (freed_laid chunk) (λ x m. m)))

  -- the word at index i is inside the live block of e
  pub free_spares : (e : Entry) → Mem e (shape ws h.bytes) → live h e ≡ true → block_of e ≢ b → (i : ℕ) → block_of e ≤ 4 * i → 4 * i < block_end e
      → Off i (free_block b (as_read ws h)).stores
  free_spares e m k n =
      blocks_spared free_spared e
      (outer_in s.low (gap_chunk s.here.place (chunk_end s.here) ∷ []) s.high (others_outer ws h p b l e m n)) (live_used h e k)

  pub free_inside : Below (h.bytes / 4) (free_block b (as_read ws h)).stores
  free_inside = heap_stores free_spared

-- the live block at b keeps n bytes of its chunk
module _ {ws : List ℕ} {h : Heap} {b n : ℕ} (shrinks : ShrinkingBlock ws h b n) where
  abbrev old : Spot
  old = block_spot (as_read ws h) b

  abbrev kept : Entry
  kept = kept_chunk (chunk_shrinks shrinks)

  abbrev part : Entry
  part = tail_chunk (chunk_shrinks shrinks)

  abbrev parted : List Entry
  parted = old.low ++ kept ∷ [] ++ gap_chunk part.place (chunk_end part) ∷ [] ++ old.high

  laid : Layout h.bytes parted
  laid = split_laid (chunk_shrinks shrinks)

  kept_in : Mem kept parted
  kept_in = Memᴰ.append_left old.high (middle_in old.low (kept ∷ []) (gap_chunk part.place (chunk_end part) ∷ []) (Memᴰ.head refl))

  shrink_spared : Spared (Outside h.bytes parted) (shrunken shrinks).draft
  unfolding as_read
  shrink_spared =
      uses_spared (Outside h.bytes parted) old.here.size n (release (old.low ++ kept ∷ []) part old.high _)
      (released_spared (chunk_shrinks shrinks).chunk (old.low ++ kept ∷ []) part
      laid (λ x m. outer_in old.low (kept ∷ []) old.high m) (split_draft (chunk_shrinks shrinks)) refl
      (writes_spared (Outside h.bytes parted) _ (as_read ws h)
      (read_free (chunk_shrinks shrinks).chunk (old.low ++ kept ∷ []) part
      laid (λ x m. outer_in old.low (kept ∷ []) old.high m))
      (link_word laid kept_in forward (omega arith), tt)))

  pub shrink_spares : (e : Entry) → Mem e (shape ws h.bytes) → live h e ≡ true → block_of e ≢ b → (i : ℕ) → block_of e ≤ 4 * i → 4 * i < block_end e
      → Off i (shrunken shrinks).draft.stores
  shrink_spares e m k o =
      blocks_spared shrink_spared e
      (outer_in (old.low ++ kept ∷ []) (gap_chunk part.place (chunk_end part) ∷ []) old.high (outer_in old.low (kept ∷ []) old.high (others_outer ws h shrinks.well b shrinks.live e m o)))
      (live_used h e k)

  -- no word of the block that is kept is written
  pub shrink_spares_own : (i : ℕ) → b ≤ 4 * i → 4 * i < block_end kept
      → Off i (shrunken shrinks).draft.stores
  shrink_spares_own i lo hi =
      blocks_spared shrink_spared kept kept_in refl i (omega (arith, (splits ws h shrinks.well b shrinks.live).block)) hi

  pub shrink_inside : Below (h.bytes / 4) (shrunken shrinks).draft.stores
  shrink_inside = heap_stores shrink_spared
