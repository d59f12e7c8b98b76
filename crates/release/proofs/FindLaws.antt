-- What the walk along the chain finds says whether a block is live, and where its chunk is. Assumes nothing.
use mathlib.Core.Path.{◌≡◌, refl, sym, ◌∙◌}
use mathlib.Core.Bool.{Bool, true, false}
use mathlib.Core.List.{List}
use Prim.Native.Nat.{ℕ}
use Rattle.record.specs.declared.heap.Heap.{Heap}
use Rattle.rules.specs.Check.{Passes}
use Rattle.rules.specs.Draft.{as_read}
use Rattle.rules.specs.Free.{is_live}
use Rattle.rules.specs.Kinds.{holds_block}
use Rattle.rules.specs.Shape.{shape}
use Rattle.seek.specs.declared.Place.{Place}
use Rattle.std.specs.Prelude.{Option, Some, None}
use Rattle.seek.specs.Seek.{sought_m, has_block_m}
use Rattle.seek.proofs.SeekLaws.{sought_block, sought_none}
use Rattle.release.proofs.ReleaseMeaning.{found_at, found_is}

module _ (ws : List ℕ) (h : Heap) (p : Passes ws h) (b : ℕ) where
  abbrev sought : Option Place
  sought = sought_m (has_block_m h.bytes b) 0 (shape ws h.bytes)

  -- the place of a live block's chunk
  abbrev pub place_of : is_live (as_read ws h) b ≡ true → Place
  place_of l = found_at ws h p b l

  -- a block of which the walk finds no chunk is not live, and one that it finds is
  live_by : (t : Bool) → is_live (as_read ws h) b ≡ t → sought ≡ None → is_live (as_read ws h) b ≡ false
  live_by true e z = cc (found_is ws h p b e, z)
  live_by false e z = e

  found_by : (t : Bool) (x : Place) → is_live (as_read ws h) b ≡ t → sought ≡ Some x → is_live (as_read ws h) b ≡ true
  unfolding as_read
  found_by true x e z = e
  found_by false x e z =
      cc (sought_block h b 0 (shape ws h.bytes) ∙ sought_none (holds_block h b) 0 (shape ws h.bytes) e, z)

  -- so says what the code found
  module _ (s : Option Place) (e : s ≡ sought) where
    pub not_live : s ≡ None → is_live (as_read ws h) b ≡ false
    not_live z = live_by _ refl (sym e ∙ z)

    pub live_at : (x : Place) → s ≡ Some x → (l : is_live (as_read ws h) b ≡ true) × (x ≡ place_of l)
    live_at x z =
        let l = found_by _ x refl (sym e ∙ z) in
        (l, cc (found_is ws h p b l, e, z))
