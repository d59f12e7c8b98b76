-- The need of any size is a multiple of 8, and at least 24. Assumes nothing.
use mathlib.Core.Path.{◌≡◌}
use Prim.Native.Nat.{ℕ, ◌%◌, ◌≤◌}
use native.Mathlib.Omega.{arith}
use Rattle.rules.specs.Kinds.{overhead}
use Rattle.rules.specs.Serve.{need}

pub need_large : (z : ℕ) → 24 ≤ need overhead z
need_large z = omega arith

pub need_eight : (z : ℕ) → need overhead z % 8 ≡ 0
need_eight z = omega arith
