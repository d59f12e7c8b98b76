-- On a heap that passes no chunk's place is a live block's place (`never_both`). So every way that refuses exactly for the first reason keeps the promise
-- `PlacesApart` (`places_apart_from`), and the rules do (`places_apart`). Assumes nothing.
use mathlib.Core.Path.{◌≡◌, refl, sym, ap, ◌∙◌}
use mathlib.Core.Logic.{◌≢◌, inr}
use mathlib.Core.Bool.{true}
use mathlib.Core.List.{List}
use Prim.Native.Nat.{ℕ}
use native.Mathlib.Omega.{arith}
use Rattle.record.specs.declared.heap.Heap.{Heap}
use Rattle.rules.specs.Shape.{Entry}
use Rattle.rules.specs.Kinds.{live, block_of}
use Rattle.rules.specs.Check.{Passes}
use Rattle.rules.proofs.SpotLaws.{inside, one_around}
use Rattle.rules.proofs.NamedLaws.{live_between}
use Rattle.promises.specs.Ways.{Way, ours}
use Rattle.promises.specs.Room.{OnChain, HoldsBlock}
use Rattle.promises.specs.Refusing.{ask_no_chunk, Refusing}
use Rattle.promises.specs.PlacesApart.{PlacesApart}
use Rattle.promises.proofs.RefusingLaws.{refusing}
use Rattle.promises.proofs.RefusedLaws.{free_refused, reallocate_refused, asked_refused}

-- a block begins inside its chunk, above the chunk's place, where no other chunk begins
pub never_both : (ws : List ℕ) (h : Heap) → Passes ws h → (e d : Entry) → OnChain ws h e → OnChain ws h d → live h e ≡ true → block_of e ≢ d.place
never_both ws h p e d m k l q =
    let t = (live_between ws h p e m l).1 in
    let i = inside ws h p d k in
    let same = one_around ws h p d.place e d m k (omega arith) (omega arith) in
    omega (arith, ap (λ (x : Entry). x.place) same)

-- so no live block is at a chunk's place
no_block : (ws : List ℕ) (h : Heap) → Passes ws h → (d : Entry) → OnChain ws h d → (e : Entry) → HoldsBlock ws h d.place e → ⊥
no_block ws h p d m e k = never_both ws h p e d k.member m k.live k.block

pub places_apart_from : (way : Way) → Refusing way → PlacesApart way
places_apart_from way refuses ws h p =
    record {
      free = λ d m some. free_refused way refuses p d.place (some, no_block ws h p d m);
      reallocate = λ d z m some. reallocate_refused way refuses p d.place z (some, no_block ws h p d m);
      holder = λ d m. asked_refused way refuses p 3 d.place (ask_no_chunk (inr (λ e k. no_block ws h p d m e (k.0 refl))));
      asked = λ b e k q n.
          asked_refused way refuses p q b
          (ask_no_chunk (inr (λ d j. let (m, place) = j.1 n in never_both ws h p e d k.member m k.live (k.block ∙ sym place))));
    }

pub places_apart : PlacesApart ours
places_apart = places_apart_from ours refusing
