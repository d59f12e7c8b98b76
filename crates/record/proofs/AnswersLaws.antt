-- The numbers in answers: no refusal has 0, which means accepted (`numbered`), and no answer has 9, which request Seven of document 02 took out (manual 6)
-- (`not_nine`). Assumes nothing.
use Rattle.std.specs.Prelude.{Some, None}
use mathlib.Core.Logic.{◌≢◌}
use Prim.Native.Nat.{◌<◌}
use native.Mathlib.Omega.{arith}
use Rattle.record.specs.declared.answers.Answer.{Answer}
use Rattle.record.specs.declared.answers.Answer.TheVariants.{Done, Granted, Returned, Told, Counted, Refused}
use Rattle.record.specs.declared.answers.Refusal.{Refusal}
use Rattle.record.specs.declared.answers.Refusal.TheVariants.{RegionLength, BadTable, DonorSize, HeapFails, BlockSize, NotLive, NoRoom, NotThere, RunSize, BeyondMending}
use Rattle.record.specs.Answers.{number_of, figures_of}

pub numbered : (r : Refusal) → (0 < number_of r) × (number_of r ≢ 9)
numbered RegionLength = (omega arith, λ q. omega arith)
numbered BadTable = (omega arith, λ q. omega arith)
numbered DonorSize = (omega arith, λ q. omega arith)
numbered HeapFails = (omega arith, λ q. omega arith)
numbered BlockSize = (omega arith, λ q. omega arith)
numbered NotLive = (omega arith, λ q. omega arith)
numbered NoRoom = (omega arith, λ q. omega arith)
numbered NotThere = (omega arith, λ q. omega arith)
numbered RunSize = (omega arith, λ q. omega arith)
numbered BeyondMending = (omega arith, λ q. omega arith)

pub not_nine : (a : Answer) → (figures_of a).refusal ≢ 9
not_nine Done q = omega arith
not_nine (Granted block change) q = omega arith
not_nine (Returned change) q = omega arith
not_nine (Told (Some value)) q = omega arith
not_nine (Told None) q = omega arith
not_nine (Counted counts) q = omega arith
not_nine (Refused r) q = (numbered r).1 q
