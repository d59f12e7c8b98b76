-- Two's complement is the number's bits, as the machine holds them. Assumes nothing.
use mathlib.Core.Path.{◌≡◌, ap, ◌∙◌}
use native.Mathlib.Omega.{arith}
use lib.IntN.{ℤ, pos, negsuc}
use mir.Syntax.{w32}
use mir.Val.{SFits, to_z, of_z}
use mir.ValLaws.{to_z-of_z}
use Rattle.abi.specs.Flat.{complement}

bits_are : (z : ℤ) → SFits w32 z → of_z w32 z ≡ complement z
unfolding complement
bits_are (pos n) f = let small = f.sfits in omega arith
bits_are (negsuc n) f = let small = f.sfits in omega arith

pub complement_is : (z : ℤ) → SFits w32 z → of_z w32 (to_z w32 (of_z w32 z)) ≡ complement z
complement_is z f = ap (of_z w32) (to_z-of_z w32 z f) ∙ bits_are z f
