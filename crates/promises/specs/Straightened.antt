-- Straightened (manual 9; beyond document 02, request Two): on every region, a full patrol from the start that is not refused leaves links that go up
-- from the start to the end chunk, each backward link and each free size right; the next full patrol writes nothing.
use Rattle.std.specs.Prelude.{◌≡◌, false, List, ℕ, ◌+◌, ◌-◌, ◌%◌, ◌≤◌, ◌<◌}
use Rattle.region.specs.Words.{word, forward, size}
use Rattle.rules.specs.Shape.{entry, flags_at}
use Rattle.rules.specs.Kinds.{in_use, end_size}
use Rattle.rules.specs.Patrol.{back_offset, least_size}
use Rattle.rules.specs.Calls.{State}
use Rattle.promises.specs.Ways.{Way}
use Rattle.promises.specs.FullPatrol.{FullPatrol}

-- the chunk at c and the one at v are neighbours: linked both ways, far enough apart, and the lower one's size is right if it is free
pub record Neighbours (ws : List ℕ) (c v : ℕ) : Type 0 where
  pub link : word ws c forward ≡ v
  pub eights : v % 8 ≡ 0
  pub room : c + least_size c ≤ v
  pub back : back_offset ws v ≡ c
  pub sized : 0 < c → in_use (entry c (v - c) (flags_at ws c)) ≡ false → word ws c size ≡ v - c

-- neighbours from the chunk at c up to the end chunk
pub data Straight (ws : List ℕ) (end : ℕ) : ℕ → Type 0 where
  there : Straight ws end end
  up : {c v : ℕ} → v ≤ end → Neighbours ws c v → Straight ws end v → Straight ws end c

-- the promise
pub record Straightened (way : Way) : Type 0 where
  pub straight : (f : ℕ) (s t : State) → s.heap.patrol.0 ≡ 0 → FullPatrol way f s t
      → (back_offset t.words 0 ≡ 0) × Straight t.words (t.heap.bytes - end_size) 0
  pub settled : (f : ℕ) (s t : State) → s.heap.patrol.0 ≡ 0 → FullPatrol way f s t
      → (g : ℕ) → 0 < g → FullPatrol way g t t
