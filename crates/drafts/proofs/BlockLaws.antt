-- The live block at b: the chain is split at its chunk (`splits`, `live_chunk`). Assumes nothing.
use mathlib.Core.Path.{◌≡◌, refl}
use mathlib.Core.Bool.{Bool, true, false, cond, false≢true}
use mathlib.Core.List.{List, ◌∷◌, ◌++◌}
use Prim.Native.Nat.{ℕ}
use lib.Dec.{eqb}
use borrow.Author.Tests.{eqb-true}
use Rattle.record.specs.declared.heap.Heap.{Heap}
use Rattle.rules.specs.Shape.{shape}
use Rattle.rules.specs.Kinds.{live, block_of, holds_block}
use Rattle.rules.specs.Check.{Passes}
use Rattle.rules.specs.Draft.{as_read, Spot}
use Rattle.rules.specs.Free.{is_live, block_spot}
use Rattle.rules.proofs.SpotLaws.{spot_splits}
use Rattle.drafts.proofs.JoinLaws.{LiveChunk}

-- where `holds_block` is true both its tests are
both_held : (t u : Bool) → cond t u false ≡ true → (t ≡ true) × (u ≡ true)
both_held true u q = (refl, q)
both_held false u q = absurd (false≢true q)

-- the chain is split, in s, at the chunk of the live block at b
pub record BlockAt (ws : List ℕ) (h : Heap) (b : ℕ) (s : Spot) : Type 0 where
  pub split : shape ws h.bytes ≡ s.low ++ s.here ∷ s.high
  pub live : live h s.here ≡ true
  pub block : block_of s.here ≡ b

module _ (ws : List ℕ) (h : Heap) (p : Passes ws h) (b : ℕ) (l : is_live (as_read ws h) b ≡ true) where
  abbrev s : Spot
  s = block_spot (as_read ws h) b

  pub splits : BlockAt ws h b s
  unfolding as_read
  splits =
      let (split, holds) = spot_splits (holds_block h b) (shape ws h.bytes) l in
      let (alive, block) = both_held (live h s.here) (eqb (block_of s.here) b) holds in
      record { split = split; live = alive; block = eqb-true (block_of s.here) b block }

  pub live_chunk : LiveChunk ws h s.low s.here s.high
  live_chunk = record { well = p; split = splits.split; live = splits.live }
