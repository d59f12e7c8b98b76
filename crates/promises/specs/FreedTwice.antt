-- FreedTwice (manual 5.4, 6; document 01, "Numbers of refusal", number 6): a block that was freed is refused as not live, whatever else is called and written
-- in between, until a call grants a block at that place.
use Rattle.std.specs.Prelude.{◌≡◌, ◌≢◌, List, [], ◌∷◌, ℕ, ℤ}
use Rattle.record.specs.declared.answers.Answer.TheVariants.{Granted, Refused}
use Rattle.record.specs.declared.answers.Refusal.TheVariants.{NotLive}
use Rattle.region.specs.declared.Block.{Block}
use Rattle.rules.specs.Calls.{Free, State}
use Rattle.promises.specs.Ways.{Way}
use Rattle.promises.specs.Kept.{Passing, Accepted, after}
use Rattle.promises.specs.Runs.{Step, Calls, Writes, after_step, IsRun}

-- the step grants no block at b; no step of a run does
abbrev pub GrantsElsewhere : Way → ℕ → Step → State → Type 0
GrantsElsewhere way b (Calls call) s =
    (block : Block) (change : ℤ) → (way call s.words s.heap).answer ≡ Granted block change → block.0 ≢ b
GrantsElsewhere way b (Writes ss) s = Unit {0}

abbrev pub NeverGranted : Way → ℕ → List Step → State → Type 0
NeverGranted way b [] s = Unit {0}
NeverGranted way b (x ∷ xs) s = GrantsElsewhere way b x s × NeverGranted way b xs (after_step way x s)

-- the state that a run leads to
abbrev pub after_run : Way → List Step → State → State
after_run way [] s = s
after_run way (x ∷ xs) s = after_run way xs (after_step way x s)

-- the promise: freed, it is refused with number 6 until a call grants a block there
abbrev pub FreedTwice : Way → Type 0
FreedTwice way =
    (s : State) → Passing s → (b : ℕ) → b ≢ 0 → Accepted (way (Free b) s.words s.heap).answer
    → (xs : List Step) → IsRun way xs (after way (Free b) s) → NeverGranted way b xs (after way (Free b) s)
    → let t = after_run way xs (after way (Free b) s) in
    (way (Free b) t.words t.heap).answer ≡ Refused NotLive
