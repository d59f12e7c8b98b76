-- C reads from an answer's words what a question told. Assumes nothing.
use mathlib.Core.Path.{◌≡◌, refl}
use Rattle.std.specs.Prelude.{Option, Some, None}
use Prim.Native.Nat.{ℕ}
use Rattle.record.specs.declared.answers.Answer.TheVariants.{Told}
use Rattle.abi.specs.Flat.{answer_out, told_in}

-- a value, 0 among them, or none: each is read as it was told
pub told_and_back : (v : Option ℕ) → told_in (answer_out (Told v)) ≡ v
unfolding told_in answer_out
told_and_back (Some v) = refl
told_and_back None = refl
