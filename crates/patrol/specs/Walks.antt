-- The two walks of a run as the code makes them, and the run. That the run is the rule's, on a region of the right length, is proved
-- (`run_is`).
use Rattle.std.specs.Prelude.{Bool, true, false, cond, List, ℕ, zero, suc, eqb, Result, Ok, Err, Some, None, Option}
use Rattle.record.specs.declared.answers.Refusal.{Refusal}
use Rattle.record.specs.declared.answers.Refusal.TheVariants.{BeyondMending}
use Rattle.record.specs.Heap.{at}
use Rattle.region.specs.declared.Chunk.{Chunk}
use Rattle.rules.specs.Patrol.{next_of}
use Rattle.patrol.specs.declared.skim.Rest.{Rest}
use Rattle.patrol.specs.declared.walks.Stop.{Stop}
use Rattle.patrol.specs.declared.walks.Stop.TheVariants.{Paused, Ended}
use Rattle.patrol.specs.Mends.{handle_m}
use Rattle.patrol.specs.Skim.{skim_m}

-- where a walk stops, or its error, with the words that go with it
pub record Walked : Type 0 where
  pub stop : Result Stop Refusal
  pub words : List ℕ

abbrev pub walked : Result Stop Refusal → List ℕ → Walked
walked r ws = record { stop = r; words = ws }

-- a link is beyond mending
abbrev pub beyond : List ℕ → Walked
beyond ws = walked (Err BeyondMending) ws

-- the place that the walk from the end chunk down found, in the code's types
abbrev pub found : Option ℕ → Option Chunk
found None = None
found (Some c) = Some (at c)

-- so many chunks from the one at c on; each is handled, if the walk writes
unfoldable pub walk_m : Bool → ℕ → List ℕ → ℕ → ℕ → Walked
walk_m writes zero ws end c = walked (Ok (Paused (at c))) ws
walk_m writes (suc k) ws end c =
    cond (eqb c end) (walked (Ok Ended) ws)
    (elim (next_of ws end c) [ None ↦ beyond ws | Some v ↦ walk_m writes k (handle_m writes ws c v) end v ])

-- the chunk at c is handled, if the one above it was found, and k remain
unfoldable pub onward_m : Bool → ℕ → List ℕ → ℕ → ℕ → Option ℕ → Walked
onward_m writes k ws end c None = beyond ws
onward_m writes k ws end c (Some v) = walk_m writes k (handle_m writes ws c v) end v

-- the walk w is made if the one that decides comes to no error
abbrev pub decided : Result Stop Refusal → List ℕ → Walked → Walked
decided (Err e) ws w = walked (Err e) ws
decided (Ok s) ws w = w

-- what is whole is passed; then the walks decide, and write if nothing is beyond mending
unfoldable pub run_m : ℕ → List ℕ → ℕ → ℕ → Walked
run_m chunks ws end c =
    let s : Rest = skim_m chunks ws end c in
    decided (walk_m false s.left ws end s.chunk.0).stop ws (walk_m true s.left ws end s.chunk.0)
