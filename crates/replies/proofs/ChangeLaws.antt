-- A difference of two sizes fits 32 signed bits, and is what the machine computes. Assumes nothing.
use mathlib.Core.Path.{◌≡◌, ◌∙◌}
use mathlib.Core.Bool.{Bool, true, false, cond}
use Prim.Native.Nat.{ℕ, zero, suc, ◌≤◌, ◌<◌}
use native.Mathlib.Decide.{dec_lt}
use native.Mathlib.Omega.{arith}
use lib.Dec.{ltb}
use lib.IntN.{pos, negsuc, ◌-ℤ◌}
use lib.Signed.{mag}
use mir.Syntax.{w32}
use mir.Val.{SFits, to_z, of_z}
use mir.ValLaws.{to_z_pos, to_z-of_z}
use borrow.Author.Tests.{lt-ltb, le-ltb}
use Rattle.rules.specs.Outcome.{change_of}
use Rattle.replies.specs.Replies.{change_m}

-- the magnitude of a difference, whichever of the two is greater
either_small : (t : Bool) {x y n : ℕ} → x < n → y < n → mag (cond t (negsuc x) (pos y)) < n
either_small true p q = p
either_small false p q = q

difference_fits : (a b : ℕ) → a ≤ 65536 → b ≤ 65536 → SFits w32 (pos a -ℤ pos b)
difference_fits a zero p q = record { sfits = omega arith }
difference_fits a (suc b) p q = record { sfits = either_small (ltb a (suc b)) (omega arith) (omega arith) }

module _ (a b : ℕ) (p : a ≤ 65536) (q : b ≤ 65536) where
  pub machine_fits : SFits w32 (to_z w32 a -ℤ to_z w32 b)
  machine_fits = rw (to_z_pos w32 a (omega arith), to_z_pos w32 b (omega arith)) (difference_fits a b p q)

  pub machine_is : to_z w32 (of_z w32 (to_z w32 a -ℤ to_z w32 b)) ≡ pos a -ℤ pos b
  machine_is = to_z-of_z w32 _ machine_fits ∙ rw (to_z_pos w32 a (omega arith), to_z_pos w32 b (omega arith))

-- what the machine keeps of a change is the change
pub change_kept : (before after : ℕ) → to_z w32 (of_z w32 (change_m before after)) ≡ change_m before after
unfolding change_m
change_kept before after = to_z-of_z w32 _ (go (dec_lt 65536 before) (dec_lt 65536 after))
  where
    go : Dec (65536 < before) → Dec (65536 < after) → SFits w32 (change_m before after)
    go (yes l) d = rw (lt-ltb 65536 before l) (record { sfits = omega arith })
    go (no n) (yes l) = rw (le-ltb 65536 before (omega arith), lt-ltb 65536 after l) (record { sfits = omega arith })
    go (no n) (no m) =
        rw (le-ltb 65536 before (omega arith), le-ltb 65536 after (omega arith)) (difference_fits after before (omega arith) (omega arith))

-- and it is the rules'
pub change_ruled : (before after : ℕ) → before ≤ 65536 → after ≤ 65536 → change_m before after ≡ change_of before after
unfolding change_m
change_ruled before after p q = rw (le-ltb 65536 before p, le-ltb 65536 after q)

pub change_is : (before after : ℕ) → before ≤ 65536 → after ≤ 65536 → to_z w32 (of_z w32 (change_m before after)) ≡ change_of before after
change_is before after p q = change_kept before after ∙ change_ruled before after p q
