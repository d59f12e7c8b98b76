-- Setup writes only words of the heap bytes (`first_below`). Assumes nothing.
use mathlib.Core.Path.{◌≡◌}
use Prim.Native.Nat.{ℕ, ◌+◌, ◌/◌, ◌≤◌}
use native.Mathlib.Decide.{ℕ_discrete}
use native.Mathlib.Omega.{arith}
use borrow.Author.Tests.{eq-eqb, ne_eqb}
use Rattle.region.proofs.PrefixLaws.{Below}
use Rattle.rules.specs.Setup.{first_headers}

pub first_below : (bytes donor : ℕ) → donor + 40 ≤ bytes → Below (bytes / 4) (first_headers bytes donor)
first_below bytes donor room = go (ℕ_discrete donor 0)
  where
    go : Dec (donor ≡ 0) → Below (bytes / 4) (first_headers bytes donor)
    go (yes e) = rw (eq-eqb donor 0 e) (omega arith)
    go (no ne) = rw (ne_eqb donor 0 ne) (omega arith)
