-- What holds of every grant of the rules holds of each new block (`each_new_block`): allocate, cleared allocate, reallocate of block 0 and of a
-- block that moves all grant by one rule. The granted block lies in the chunk that was chosen (`lies_in_source`), and in no other (`source_alone`). Assumes
-- nothing.
use mathlib.Core.Path.{◌≡◌, subst}
use mathlib.Core.List.{List}
use Prim.Native.Nat.{ℕ, ◌*◌}
use native.Mathlib.Omega.{arith}
use lib.IntN.{ℤ}
use Rattle.drafts.proofs.FillLaws.{Within}
use Rattle.drafts.proofs.GrantKept.{source_chunk, can, the_grant}
use Rattle.drafts.proofs.SourceLaws.{Grantable}
use Rattle.record.specs.declared.answers.Answer.TheVariants.{Granted}
use Rattle.record.specs.declared.heap.Heap.{Heap}
use Rattle.region.specs.declared.Block.{Block}
use Rattle.region.specs.Words.{Store}
use Rattle.rules.specs.Shape.{Entry}
use Rattle.rules.specs.Kinds.{overhead, block_of}
use Rattle.rules.specs.Check.{Passes}
use Rattle.rules.specs.Serve.{need}
use Rattle.rules.specs.Allocate.{as_found, cleared, allocate_with, allocate, allocate_cleared}
use Rattle.rules.specs.Reallocate.{reallocate}
use Rattle.rules.specs.Calls.{step}
use Rattle.rules.proofs.SpotLaws.{one_around}
use Rattle.promises.specs.Ways.{Way, ours}
use Rattle.promises.specs.Room.{OnChain}
use Rattle.promises.specs.NewBlocks.{EachNewBlock}
use Rattle.promises.specs.Choice.{LiesIn}
use Rattle.promises.proofs.GrantedLaws.{cut_from, cleared_within}
use Rattle.promises.proofs.ApartLaws.{grantable, block_is, moving, moved_block}

-- n bytes are granted
module _ {ws : List ℕ} {h : Heap} {n : ℕ} (room : Grantable ws h n) where
  abbrev pub granted_block : ℕ
  granted_block = block_of (the_grant room).granted

  pub lies_in_source : LiesIn granted_block (source_chunk room)
  lies_in_source = let c = cut_from room in (omega (arith, c.starts), omega (arith, c.ends, c.enough, room.large))

  pub source_alone : (from : Entry) → OnChain ws h from → LiesIn granted_block from → from ≡ source_chunk room
  source_alone from m (low, high) =
      let (lower, upper) = lies_in_source in
      one_around ws h room.well granted_block from (source_chunk room) m (can room).member (omega arith, high) (omega arith, upper)

module _ (P : List ℕ → Heap → ℕ → ℕ → Type 0) (holds : (ws : List ℕ) (h : Heap) (n : ℕ) (room : Grantable ws h n) → P ws h n (granted_block room))
    (ws : List ℕ) (h : Heap) (p : Passes ws h) where
  -- a new block; `fill` is written into it
  new_block : (fill : Entry → List Store) → ((e : Entry) → Within e (fill e)) → (z : ℕ) (block : Block) (change : ℤ)
      → (allocate_with fill ws h z).answer ≡ Granted block change → P ws h (need overhead z) block.0
  new_block fill within z block change q = subst (P ws h (need overhead z)) (block_is p fill within z q) (holds ws h (need overhead z) (grantable p fill within z q))

  pub each_new_block : EachNewBlock P ours ws h
  unfolding ours step allocate allocate_cleared reallocate
  each_new_block =
      record {
        allocate = new_block as_found (λ e. tt);
        cleared = λ count size. new_block cleared cleared_within (count * size);
        no_block = new_block as_found (λ e. tt);
        moved = λ b z block change e k less q.
            subst (P ws h (need overhead z)) (moved_block p k z q less) (holds ws h (need overhead z) (moving p k z q less).room);
      }

-- what follows from two predicates that hold of each new block holds of each
pub new_blocks_both : {P Q R : List ℕ → Heap → ℕ → ℕ → Type 0} {way : Way} {ws : List ℕ} {h : Heap}
    → ((n b : ℕ) → P ws h n b → Q ws h n b → R ws h n b) → EachNewBlock P way ws h → EachNewBlock Q way ws h → EachNewBlock R way ws h
new_blocks_both f p q =
    record {
      allocate = λ z block change a. f _ _ (p.allocate z block change a) (q.allocate z block change a);
      cleared = λ count size block change a. f _ _ (p.cleared count size block change a) (q.cleared count size block change a);
      no_block = λ z block change a. f _ _ (p.no_block z block change a) (q.no_block z block change a);
      moved = λ b z block change e k l a. f _ _ (p.moved b z block change e k l a) (q.moved b z block change e k l a);
    }
