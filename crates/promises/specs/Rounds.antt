-- Rounds (manual 9; document 02, request Two): on a heap that passes, a run of the patrol writes nothing and goes on by exactly the chunks that it was
-- asked for; from the start the patrol reaches the end in k/f runs, rounded up, for k chunks and f a run, and is at the start again.
use Rattle.std.specs.Prelude.{◌≡◌, ℕ, zero, suc, ◌+◌, ◌-◌, ◌/◌, ◌≤◌, ◌<◌, length, get_or, Some, None}
use Rattle.record.specs.declared.answers.Answer.{Answer}
use Rattle.record.specs.declared.answers.Answer.TheVariants.{Told}
use Rattle.record.specs.Heap.{with_patrol}
use Rattle.rules.specs.Shape.{shape}
use Rattle.rules.specs.Ask.{places_of}
use Rattle.rules.specs.Statements.{Left}
use Rattle.rules.specs.Calls.{Patrol, State}
use Rattle.promises.specs.Ways.{Way}
use Rattle.promises.specs.Kept.{Passing, after}

-- how many chunks the chain has, and the place of the i-th, counted from 0
abbrev pub chunks_in : State → ℕ
chunks_in s = length (shape s.words s.heap.bytes)

abbrev pub place_of : State → ℕ → ℕ
place_of s i = get_or (places_of (shape s.words s.heap.bytes)) i 0

-- a run that wrote nothing and moved the patrol's place alone
abbrev pub moved_to : State → ℕ → ℕ → Left
moved_to s value c = record { answer = Told (Some value); heap = with_patrol s.heap c; words = s.words }

-- a run of f chunks from the i-th: on to chunk i + f; or through the end chunk, and to the start
pub record RoundsAt (way : Way) (s : State) : Type 0 where
  pub onward : (f i : ℕ) → 0 < f → s.heap.patrol.0 ≡ place_of s i → i + f < chunks_in s
      → way (Patrol f) s.words s.heap ≡ moved_to s 0 (place_of s (i + f))
  pub around : (f i : ℕ) → 0 < f → s.heap.patrol.0 ≡ place_of s i → i < chunks_in s → chunks_in s ≤ i + f
      → way (Patrol f) s.words s.heap ≡ moved_to s 1 0

-- the state after n runs of f chunks each, and what run number n answers, counted from 0
abbrev pub after_runs : Way → ℕ → ℕ → State → State
after_runs way f zero s = s
after_runs way f (suc n) s = after_runs way f n (after way (Patrol f) s)

abbrev pub run_answer : Way → ℕ → ℕ → State → Answer
run_answer way f n s =
    let t = after_runs way f n s in
    (way (Patrol f) t.words t.heap).answer

-- k/f, rounded up
abbrev pub runs_for : ℕ → ℕ → ℕ
runs_for k f = (k + (f - 1)) / f

-- the promise
pub record Rounds (way : Way) : Type 0 where
  pub each : (s : State) → Passing s → RoundsAt way s
  -- from the start: no run but the last says that the end was handled, and the last leaves all as it was
  pub before : (s : State) → Passing s → s.heap.patrol.0 ≡ 0
      → (f n : ℕ) → 0 < f → suc n < runs_for (chunks_in s) f → run_answer way f n s ≡ Told (Some 0)
  pub last : (s : State) → Passing s → s.heap.patrol.0 ≡ 0
      → (f n : ℕ) → 0 < f → suc n ≡ runs_for (chunks_in s) f
      → (run_answer way f n s ≡ Told (Some 1)) × (after_runs way f (suc n) s ≡ s)
