-- A case in which a wrong backward link gives the sign of a skipped chunk, though no forward link is damaged: a free size, damaged too, is
-- read as a forward link. The smallest heap, its free size 24 damaged to 32 and the end's backward link 8 to 16: the run is refused with 12.
-- Assumes nothing.
use mathlib.Core.Path.{◌≡◌, refl}
use mathlib.Core.Bool.{true}
use mathlib.Core.List.{List, [], ◌∷◌}
use Prim.Native.Nat.{ℕ}
use Rattle.record.specs.declared.answers.Answer.TheVariants.{Refused}
use Rattle.record.specs.declared.answers.Refusal.TheVariants.{BeyondMending}
use Rattle.rules.specs.Patrol.{skips}
use Rattle.rules.specs.Calls.{Patrol}
use Rattle.rules.proofs.CasesLaws.{computes}
use Rattle.promises.specs.Ways.{ours}
use Rattle.promises.proofs.WrongPatrolLaws.{smallest}

abbrev signed : List ℕ
signed = 8 ∷ 1 ∷ 32 ∷ 0 ∷ 32 ∷ 0 ∷ 0 ∷ 0 ∷ 0 ∷ 17 ∷ []

-- the link from 8 to 32 seems to skip a chunk at 16, whose forward link is the free size
pub sign_by_size : skips signed 8 32 ≡ true
unfolding computes
sign_by_size = refl

pub sign_refused : (ours (Patrol 3) signed smallest.heap).answer ≡ Refused BeyondMending
unfolding computes ours
sign_refused = refl
