-- To prove something of a resized block: if it moves, if it gives its tail back, and if it stays as it is (`resized_so`; `resized_by`, where the sizes
-- matter for which it stays). Assumes nothing.
use mathlib.Core.Path.{◌≡◌, refl}
use mathlib.Core.Bool.{Bool, true, false, cond}
use mathlib.Core.List.{List}
use Prim.Native.Nat.{ℕ, ◌+◌, ◌≤◌, ◌<◌}
use lib.Dec.{leb, ltb}
use borrow.Author.Tests.{leb-true, leb-false, ltb-true, ltb-false}
use Rattle.rules.specs.Draft.{Draft, Spot}
use Rattle.rules.specs.Cut.{Grant}
use Rattle.rules.specs.Reallocate.{shrunk, moved, resized}

pub resized_by : (P : Grant → Type 0) (ws : List ℕ) (s : Spot) (n : ℕ) (d : Draft)
    → (s.here.size < n → P (moved ws s n d)) → (n + 24 ≤ s.here.size → P (shrunk s n d))
    → (n ≤ s.here.size → s.here.size < n + 24 → P (record { granted = s.here; draft = d })) → P (resized ws s n d)
unfolding resized
resized_by P ws s n d moves shrinks stays = go (ltb s.here.size n) refl (leb (n + 24) s.here.size) refl
  where
    go : (t : Bool) → ltb s.here.size n ≡ t → (u : Bool) → leb (n + 24) s.here.size ≡ u
        → P (cond t (moved ws s n d) (cond u (shrunk s n d) (record { granted = s.here; draft = d })))
    go true e u f = moves (ltb-true s.here.size n e)
    go false e true f = shrinks (leb-true (n + 24) s.here.size f)
    go false e false f = stays (ltb-false s.here.size n e) (leb-false (n + 24) s.here.size f)

pub resized_so : (P : Grant → Type 0) (ws : List ℕ) (s : Spot) (n : ℕ) (d : Draft)
    → (s.here.size < n → P (moved ws s n d)) → (n + 24 ≤ s.here.size → P (shrunk s n d)) → P (record { granted = s.here; draft = d })
    → P (resized ws s n d)
resized_so P ws s n d moves shrinks stays = resized_by P ws s n d moves shrinks (λ _ _. stays)
