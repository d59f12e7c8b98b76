-- The rules keep the promise `Splitting` (`splitting`): the chunk of a granted or resized block has fewer than 24 bytes more than needed, and where a
-- new block is granted the chain changes at its chunk alone, which is split in two or granted whole; what remains of donor or top has its post. Assumes nothing.
use mathlib.Core.Path.{◌≡◌, sym, ap, ◌∙◌}
use mathlib.Core.List.{List, ◌∷◌, ◌++◌, append_assoc}
use Prim.Native.Nat.{ℕ, ◌+◌, ◌*◌, ◌≤◌, ◌<◌}
use native.Mathlib.Decide.{ℕ_discrete}
use native.Mathlib.Omega.{arith}
use lib.IntN.{ℤ}
use borrow.Author.Tests.{eq-eqb}
use Rattle.drafts.specs.Sources.{kind_in}
use Rattle.drafts.proofs.CutKept.{with_post, post_not_donor, post_not_top}
use Rattle.drafts.proofs.CutLaws.{rest_place, cut_in_two, cut_whole}
use Rattle.drafts.proofs.FillLaws.{Within}
use Rattle.drafts.proofs.GrantKept.{source, source_chunk, can, parts, cutting, the_grant, granted_chain, granted_donor, granted_top, granted_few}
use Rattle.drafts.proofs.GrantedChunk.{granted_heap, granted_pictured, filled_words, granted_filled}
use Rattle.drafts.proofs.SourceLaws.{Grantable}
use Rattle.lists.proofs.SplitLaws.{in_split}
use Rattle.record.specs.declared.answers.Answer.TheVariants.{Granted}
use Rattle.record.specs.declared.heap.Heap.{Heap}
use Rattle.record.specs.declared.kinds.Kind.{Kind}
use Rattle.region.specs.declared.Block.{Block}
use Rattle.region.specs.Words.{Store}
use Rattle.rules.specs.Shape.{Entry, shape}
use Rattle.rules.specs.Kinds.{ordinary_kind, overhead, block_of}
use Rattle.rules.specs.Check.{Passes}
use Rattle.rules.specs.Draft.{Spot, as_read}
use Rattle.rules.specs.Serve.{need}
use Rattle.rules.specs.Cut.{Grant, chunks_of}
use Rattle.rules.specs.Outcome.{made, grants}
use Rattle.rules.specs.Allocate.{as_found, cleared, allocate_with, allocate, allocate_cleared}
use Rattle.rules.specs.Free.{block_spot}
use Rattle.rules.specs.Reallocate.{shrunk, moved, reallocate}
use Rattle.rules.specs.Statements.{Left, left_by}
use Rattle.rules.specs.Calls.{Call, Reallocate, step}
use Rattle.rules.proofs.SpotLaws.{spot_cut}
use Rattle.promises.specs.Ways.{ours}
use Rattle.promises.specs.Room.{OnChain, HoldsBlock}
use Rattle.promises.specs.Choice.{LiesIn}
use Rattle.promises.specs.Splitting.{AsksFor, allocates, allocates_cleared, reallocates, GrantsAlone, allocated, allocated_cleared, no_block, SplitAs, PostsAs, Splitting}
use Rattle.promises.proofs.ResizedLaws.{resized_by}
use Rattle.promises.proofs.GrantedLaws.{cleared_within, new_held, to, to_kept}
use Rattle.promises.proofs.KeptLaws.{of_its_chunk}
use Rattle.promises.proofs.ApartLaws.{grantable, granted_left, old_holds, old_is, moving, reallocated_left, shrinks, shrunk_stays, was_live}
use Rattle.promises.proofs.NewBlocksLaws.{granted_block, source_alone}

-- the block at b is live afterwards, in a chunk of fewer than n + 24 bytes
abbrev Little : ℕ → ℕ → Left → Type 0
Little n b left = (e : Entry) × HoldsBlock left.words left.heap b e × (e.size < n + 24)

-- the chunk in which the block at b lies, on the chain of before, is split for n or granted whole
abbrev Split : List ℕ → Heap → ℕ → ℕ → Left → Type 0
Split ws h n b left =
    (low : List Entry) (from : Entry) (high : List Entry) → shape ws h.bytes ≡ low ++ from ∷ high → LiesIn b from
    → SplitAs n low from high (shape left.words left.heap.bytes)

-- donor and top are as they should be where the block at b was granted from this chunk
abbrev Posted : List ℕ → Heap → ℕ → ℕ → Left → Type 0
Posted ws h n b left = (from : Entry) → OnChain ws h from → LiesIn b from → PostsAs h n from left.heap

-- n bytes are granted
module _ {ws : List ℕ} {h : Heap} {n : ℕ} (room : Grantable ws h n) where
  abbrev from : Entry
  from = source_chunk room

  -- the source stands between `low` and `high`
  module _ (low high : List Entry) (split : shape ws h.bytes ≡ low ++ from ∷ high) where
    parts_between : (cs : List Entry) → chunks_of (parts room) ≡ cs → (the_grant room).draft.chain ≡ low ++ (cs ++ high)
    parts_between cs q =
        granted_chain room ∙ ap (λ (s : Spot). s.low ++ chunks_of (parts room) ++ s.high) (spot_cut ws h room.well low from high split)
        ∙ ap (λ (xs : List Entry). low ++ xs ++ high) q ∙ append_assoc low cs high

    source_splits : SplitAs n low from high (the_grant room).draft.chain
    source_splits =
        let kind = kind_in (source room) in
        record {
          split = λ l. parts_between _ (cut_in_two kind low from high (as_read ws h) room.large l);
          whole = λ l. parts_between _ (cut_whole kind low from high (as_read ws h) room.large (can room).enough l);
        }

  -- what is left of donor or top has its post
  source_posts : PostsAs h n from (granted_heap room)
  source_posts =
      let kind = kind_in (source room) in
      let place = (parts room).above.place in
      let is = (can room).kind in
      record {
        new_donor = λ q.
            let r = sym is ∙ q in
            granted_donor room ∙ ap (λ (k : Kind). (with_post k place h).donor.0) r ∙ rest_place (cutting room) ((can room).spare (ap ordinary_kind r));
        same_donor = λ n. granted_donor room ∙ post_not_donor kind place h (λ q. n (is ∙ q));
        new_top = λ q.
            let r = sym is ∙ q in
            granted_top room ∙ ap (λ (k : Kind). (with_post k place h).top.0) r ∙ rest_place (cutting room) ((can room).spare (ap ordinary_kind r));
        same_top = λ n. granted_top room ∙ post_not_top kind place h (λ q. n (is ∙ q));
      }

  granted_posts : (c : Entry) → OnChain ws h c → LiesIn (granted_block room) c → PostsAs h n c (granted_heap room)
  granted_posts c m lies = rw (source_alone room c m lies) source_posts

  -- stores `ss` into the new block
  module _ (ss : List Store) (w : Within (the_grant room).granted ss) where
    chain_filled : shape (filled_words room ss w) (granted_heap room).bytes ≡ (the_grant room).draft.chain
    chain_filled = (granted_filled room ss w).chain ∙ (granted_pictured room).chain

    filled_splits : (low : List Entry) (c : Entry) (high : List Entry) → shape ws h.bytes ≡ low ++ c ∷ high → LiesIn (granted_block room) c
        → SplitAs n low c high (shape (filled_words room ss w) (granted_heap room).bytes)
    filled_splits low c high split lies =
        let q = source_alone room c (in_split low c high split) lies in
        rw (chain_filled, q) (source_splits low high (rw q at split))

-- the call grants a block
module _ {ws : List ℕ} {h : Heap} (p : Passes ws h) {block : Block} {change : ℤ} where
  -- a new one; `fill` is written into it
  module _ (fill : Entry → List Store) (within : (e : Entry) → Within e (fill e)) (z : ℕ) (q : (allocate_with fill ws h z).answer ≡ Granted block change) where
    abbrev room : Grantable ws h (need overhead z)
    room = grantable p fill within z q

    abbrev new : Entry
    new = (the_grant room).granted

    new_little : Little (need overhead z) block.0 (left_by ws (allocate_with fill ws h z))
    new_little = granted_left p fill within z q (Little (need overhead z)) (new, new_held room (fill new) (within new), granted_few room)

    new_split : Split ws h (need overhead z) block.0 (left_by ws (allocate_with fill ws h z))
    new_split = granted_left p fill within z q (Split ws h (need overhead z)) (filled_splits room (fill new) (within new))

    new_posted : Posted ws h (need overhead z) block.0 (left_by ws (allocate_with fill ws h z))
    new_posted = granted_left p fill within z q (Posted ws h (need overhead z)) (granted_posts room)

  -- the live block at b, in the chunk e, is resized
  module _ {b : ℕ} {e : Entry} (k : HoldsBlock ws h b e) (z : ℕ) (q : (ours (Reallocate b z) ws h).answer ≡ Granted block change) where
    abbrev n : ℕ
    n = need overhead z

    abbrev at : Spot
    at = block_spot (as_read ws h) b

    -- what holds of a resized block
    abbrev Resized : Grant → Type 0
    Resized g = Little n (block_of g.granted) (left_by ws (made (grants at.here.size g.granted) g.draft))

    -- it moves, it gives its tail back, it stays
    moved_little : (less : e.size < n) → Resized (moved ws at n (as_read ws h))
    moved_little less =
        let moves = moving p k z q less in
        (to moves, (to_kept moves).held, granted_few moves.room)

    shrunk_little : n + 24 ≤ at.here.size → Resized (shrunk at n (as_read ws h))
    shrunk_little spare =
        let fits : n ≤ e.size = omega (arith, ap (λ (x : Entry). x.size) (old_is p k)) in
        rw (old_holds p k).block ((shrinks p k z q fits spare).granted, (shrunk_stays p k z q fits spare).held, omega arith)

    same_little : at.here.size < n + 24 → Resized (record { granted = at.here; draft = as_read ws h })
    unfolding as_read
    same_little few = rw (old_holds p k).block (at.here, old_holds p k, few)

    resized_little : Little n block.0 (ours (Reallocate b z) ws h)
    resized_little =
        reallocated_left p k z q (Little n)
        (resized_by Resized ws at n (as_read ws h) (λ less. moved_little (rw (old_is p k) at less)) shrunk_little (λ _. same_little))

  few_bytes : {call : Call} {z : ℕ} → AsksFor call z → (ours call ws h).answer ≡ Granted block change → Little (need overhead z) block.0 (ours call ws h)
  unfolding ours step allocate allocate_cleared reallocate
  few_bytes (allocates {z = z}) q = new_little as_found (λ e. tt) z q
  few_bytes (allocates_cleared {count = count} {size = size}) q = new_little cleared cleared_within (count * size) q
  few_bytes (reallocates {b = b} {z = z}) q = go (ℕ_discrete b 0)
    where
      go : Dec (b ≡ 0) → Little (need overhead z) block.0 (ours (Reallocate b z) ws h)
      go (yes none) = rw (eq-eqb b 0 none) (new_little as_found (λ e. tt) z (rw (eq-eqb b 0 none) at q))
      go (no some) = let (e, k) = was_live b z some q in resized_little k z q

  splits : {call : Call} {z : ℕ} → GrantsAlone call z → (ours call ws h).answer ≡ Granted block change → Split ws h (need overhead z) block.0 (ours call ws h)
  unfolding ours step allocate allocate_cleared reallocate
  splits (allocated {z = z}) q = new_split as_found (λ e. tt) z q
  splits (allocated_cleared {count = count} {size = size}) q = new_split cleared cleared_within (count * size) q
  splits (no_block {z = z}) q = new_split as_found (λ e. tt) z q

  posts_so : {call : Call} {z : ℕ} → GrantsAlone call z → (ours call ws h).answer ≡ Granted block change → Posted ws h (need overhead z) block.0 (ours call ws h)
  unfolding ours step allocate allocate_cleared reallocate
  posts_so (allocated {z = z}) q = new_posted as_found (λ e. tt) z q
  posts_so (allocated_cleared {count = count} {size = size}) q = new_posted cleared cleared_within (count * size) q
  posts_so (no_block {z = z}) q = new_posted as_found (λ e. tt) z q

pub splitting : Splitting ours
splitting ws h p =
    record {
      few = λ call z asks block change q. of_its_chunk (λ e. e.size < need overhead z + 24) p call q (few_bytes p asks q);
      chain = λ call z alone block change q. splits p alone q;
      posts = λ call z alone block change q. posts_so p alone q;
    }
