-- The live block at b is to have z bytes. It moves if its chunk is smaller than the need (`block_moves`), and gives its tail back if that is large
-- enough for a chunk (`block_shrinks`): then the preconditions of the laws of moving, and of shrinking, hold. Assumes nothing.
use Rattle.std.specs.Prelude.{is_none}
use mathlib.Core.Path.{◌≡◌}
use mathlib.Core.Bool.{true, false}
use mathlib.Core.List.{List}
use Prim.Native.Nat.{ℕ, ◌+◌, ◌≤◌, ◌<◌}
use Rattle.lists.proofs.SplitLaws.{in_split}
use Rattle.record.specs.declared.heap.Heap.{Heap}
use Rattle.rules.specs.Allocate.{source_of}
use Rattle.rules.specs.Check.{Passes}
use Rattle.rules.specs.Draft.{Spot, as_read}
use Rattle.rules.specs.Free.{is_live, block_spot}
use Rattle.rules.specs.Kinds.{overhead}
use Rattle.rules.specs.Serve.{need}
use Rattle.drafts.proofs.NeedLaws.{need_large, need_eight}
use Rattle.drafts.proofs.SourceLaws.{need_grantable}
use Rattle.drafts.proofs.BlockLaws.{splits}
use Rattle.drafts.proofs.ShrinkKept.{ShrinkingBlock}
use Rattle.drafts.proofs.MovedLaws.{Moving}

module _ {ws : List ℕ} {h : Heap} (p : Passes ws h) (b : ℕ) (l : is_live (as_read ws h) b ≡ true) (z : ℕ) where
  abbrev old : Spot
  old = block_spot (as_read ws h) b

  -- some chunk can serve the need
  pub block_moves : is_none (source_of (need overhead z) (as_read ws h)) ≡ false → old.here.size < need overhead z → Moving ws h (need overhead z) old.here
  block_moves some less =
      let s = splits ws h p b l in
      record { room = need_grantable z p some; member = in_split old.low old.here old.high s.split; live = s.live; less = less }

  pub block_shrinks : need overhead z + 24 ≤ old.here.size → ShrinkingBlock ws h b (need overhead z)
  block_shrinks spare = record { well = p; live = l; large = need_large z; eight = need_eight z; less = spare }
