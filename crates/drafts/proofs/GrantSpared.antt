-- A grant writes no word of a live block (`grant_spares`), none of the block that it grants (`grant_spares_own`) and none past the heap bytes
-- (`grant_inside`). Assumes nothing.
use mathlib.Core.Path.{◌≡◌, refl, subst}
use mathlib.Core.Bool.{Bool, true, false, cond}
use mathlib.Core.List.Memᴰ
use mathlib.Core.List.{List, ◌++◌}
use Prim.Native.Nat.{ℕ, ◌+◌, ◌*◌, ◌/◌, ◌≤◌, ◌<◌}
use native.Mathlib.Decide.{dec_lt}
use native.Mathlib.Omega.{arith}
use lib.Dec.{eqb}
use borrow.Author.Tests.{eqb-false}
use Rattle.lists.specs.Lists.{Mem, head_or}
use Rattle.lists.proofs.SplitLaws.{outer_in, middle_in}
use Rattle.record.specs.declared.heap.Heap.{Heap}
use Rattle.record.specs.declared.kinds.Kind.{Kind}
use Rattle.record.specs.declared.kinds.Kind.TheVariants.{Start, InUse, Ordinary, Donor, Top, End}
use Rattle.region.specs.Words.{forward, backward, size, next_in_bin, previous_in_bin, bin}
use Rattle.region.proofs.PrefixLaws.{Below}
use Rattle.region.proofs.WordsLaws.{Fall, Off}
use Rattle.rules.specs.Shape.{Entry, shape}
use Rattle.rules.specs.Kinds.{live, block_of, block_end, outside}
use Rattle.rules.specs.Draft.{Draft, as_read, relink, settle}
use Rattle.rules.specs.Cut.{Parts, chunks_of, leave_as}
use Rattle.rules.proofs.KindsLaws.{live_used, ordinary_free}
use Rattle.rules.proofs.SpotLaws.{Around, around}
use Rattle.drafts.proofs.LayoutLaws.{Layout}
use Rattle.drafts.proofs.HalfwayLaws.{record_midway, Opened}
use Rattle.drafts.proofs.OpenLaws.{outer}
use Rattle.drafts.proofs.SparedLaws.{Outside, link_word, free_word, MemberLinks, Spared, left_spared, relink_spared, settle_spared, uses_spared, blocks_spared, heap_stores}
use Rattle.drafts.specs.Sources.{kind_in}
use Rattle.drafts.proofs.SourceLaws.{Grantable, free_source}
use Rattle.drafts.proofs.CutLaws.{rest_among, rest_above}
use Rattle.drafts.proofs.CutKept.{inner, opens, cut_laid}
use Rattle.drafts.proofs.GrantKept.{source, the_grant, source_chunk, can, low, high, parts, chunk, cutting, grant_after, grant_is, granted_chain, granted_there, granted_live, live_stays}

-- only an ordinary chunk leaves a bin
as_left_spared : (P : ℕ → Type 0) (k : Kind) (e : Entry) (d : Draft) → Fall P d.stores → ((i : ℕ) → MemberLinks P ((leave_as k e d).lists i))
    → Spared P (leave_as k e d)
as_left_spared P Ordinary e d f m = left_spared P e d f m
as_left_spared P Donor e d f m = record { stores = f; members = m }
as_left_spared P Top e d f m = record { stores = f; members = m }
as_left_spared P Start e d f m = record { stores = f; members = m }
as_left_spared P InUse e d f m = record { stores = f; members = m }
as_left_spared P End e d f m = record { stores = f; members = m }

module _ {ws : List ℕ} {h : Heap} {n : ℕ} (room : Grantable ws h n) where
  abbrev from : Entry
  from = source_chunk room

  abbrev lower : List Entry
  lower = low room

  abbrev upper : List Entry
  upper = high room

  abbrev pieces : Parts
  pieces = parts room

  abbrev above : Entry
  above = pieces.above

  abbrev kind : Kind
  kind = kind_in (source room)

  -- the chain after the grant
  abbrev all : List Entry
  all = lower ++ chunks_of pieces ++ upper

  laid_out : Layout h.bytes all
  laid_out = cut_laid (chunk room) (cutting room) refl (λ z. absurd (omega arith)) room.eight room.large

  -- the word at index i is outside all blocks of that chain: the live ones, and the granted one
  abbrev Open : ℕ → Type 0
  Open i = Outside h.bytes all i

  -- the first six words of a free chunk
  free_words_lem : (x : Entry) → Mem x all → x.flags ≡ 0 → (k : ℕ) → k < 6 → Open (x.place / 4 + k)
  free_words_lem x m f k l =
      let i = laid_out.chunks x m in
      let z = i.eight in
      free_word laid_out m f x.place k z (omega arith) (omega (arith, (i.free f).some))

  -- the source leaves its bin, if it is in one; all members of bins are other chunks then
  abbrev without : Draft
  without = leave_as kind from (as_read ws h)

  opened : Opened ws h lower from from upper without
  opened = opens (chunk room) kind (can room).kind (free_source (source room) room.some)

  member_words : (i : ℕ) → MemberLinks Open (without.lists i)
  member_words i c m = go (dec_lt i h.bins)
    where
      go : Dec (i < h.bins) → Open (c / 4 + next_in_bin) × Open (c / 4 + previous_in_bin)
      go (yes l) =
          let r = opened.halfway.members i c l m in
          let k = outer_in lower (chunks_of pieces) upper r.member in
          let f = ordinary_free (record_midway h without) r.chunk r.kind (laid_out.chunks r.chunk k).flags in
          rw (← r.place) (free_words_lem r.chunk k f next_in_bin (omega arith), free_words_lem r.chunk k f previous_in_bin (omega arith))
      go (no n) = absurd (Memᴰ.not-nil (rw (opened.halfway.none i (omega arith)) at m))

  without_spared : Spared Open without
  unfolding as_read
  without_spared = as_left_spared Open kind from (as_read ws h) tt member_words

  -- the parts are linked in; the backward link of the chunk above them is written too
  sides : Around ws (shape ws h.bytes) lower from upper
  sides =
      let c = can room in
      around ws h room.well lower from upper c.split (omega arith) (omega arith)

  above_link : Open ((head_or outside upper).place / 4 + backward)
  above_link =
      let s = sides in
      let m = outer (inner (chunk room)) (head_or outside upper) s.above (λ q. omega (arith, s.above_place, (can room).free.between.some)) in
      link_word laid_out (outer_in lower (chunks_of pieces) upper m) backward (omega arith)

  abbrev linked : Draft
  linked = relink lower (chunks_of pieces) upper without

  part_in : (x : Entry) → Mem x (chunks_of pieces) → Mem x all
  part_in x m = middle_in lower (chunks_of pieces) upper m

  linked_spared : Spared Open linked
  linked_spared =
      relink_spared Open lower (chunks_of pieces) upper without without_spared
      (λ x m. (
        link_word laid_out (part_in x m) forward (omega arith),
        link_word laid_out (part_in x m) backward (omega arith),
        λ f. free_words_lem x (part_in x m) f size (omega arith),
      ))
      above_link

  -- what is left of the source settles
  after_spared : Spared Open (grant_after room)
  after_spared = uses_spared Open 0 pieces.granted.size _ (go (eqb above.size 0) refl)
    where
      go : (t : Bool) → eqb above.size 0 ≡ t → Spared Open (cond t linked (settle kind above linked))
      go true q = linked_spared
      go false q =
          let (m, f) = rest_among (cutting room) above (rw (rest_above (cutting room) (eqb-false above.size 0 q)) (Memᴰ.head refl)) in
          let words : (k : ℕ) → k < 6 → Open (above.place / 4 + k) = free_words_lem above (part_in above m) f in
          settle_spared Open above linked linked_spared
          (words next_in_bin (omega arith), words previous_in_bin (omega arith), words bin (omega arith)) kind

  grant_spared : Spared Open (the_grant room).draft
  grant_spared = rw (grant_is room) after_spared

  -- no word of a block of that chain is written
  spares : (e : Entry) → Mem e (the_grant room).draft.chain → live (the_grant room).draft.heap e ≡ true → (i : ℕ) → block_of e ≤ 4 * i → 4 * i < block_end e
      → Off i (the_grant room).draft.stores
  spares e m l = blocks_spared grant_spared e (subst (Mem e) (granted_chain room) m) (live_used (the_grant room).draft.heap e l)

  -- the word at index i is inside the live block of e; inside the granted block
  pub grant_spares : (e : Entry) → Mem e (shape ws h.bytes) → live h e ≡ true → (i : ℕ) → block_of e ≤ 4 * i → 4 * i < block_end e
      → Off i (the_grant room).draft.stores
  grant_spares e m l = let (there, lives) = live_stays room e m l in spares e there lives

  pub grant_spares_own : let e = (the_grant room).granted in
      (i : ℕ) → block_of e ≤ 4 * i → 4 * i < block_end e → Off i (the_grant room).draft.stores
  grant_spares_own = spares (the_grant room).granted (granted_there room) (granted_live room)

  pub grant_inside : Below (h.bytes / 4) (the_grant room).draft.stores
  grant_inside = heap_stores grant_spared
