-- To prove something of a call's outcome: for each refusal, and for the acceptance (`judged_so`). Assumes nothing.
use mathlib.Core.Path.{◌≡◌, refl}
use mathlib.Core.Bool.{true, false}
use mathlib.Core.List.{[], ◌∷◌}
use Rattle.record.specs.declared.answers.Refusal.{Refusal}
use Rattle.record.specs.declared.heap.Heap.{Heap}
use Rattle.rules.specs.Outcome.{Outcome, Refusals, refused, judged}

-- all tests for refusal have failed
abbrev pub Failed : Refusals → Type 0
Failed [] = Unit {0}
Failed (t ∷ ts) = (t.0 ≡ false) × Failed ts

-- P holds of the outcome if it holds of every refusal, and of the acceptance when all tests have failed
pub judged_so : (P : Outcome → Type 0) (h : Heap) (o : Outcome) (ts : Refusals)
    → ((r : Refusal) → P (refused h r)) → (Failed ts → P o) → P (judged h ts o)
judged_so P h o [] f g = g tt
judged_so P h o ((true, r) ∷ ts) f g = f r
judged_so P h o ((false, r) ∷ ts) f g = judged_so P h o ts f (λ k. g (refl, k))
