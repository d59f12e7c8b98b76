-- What each public call ensures: its reply and the region's words afterwards are the rule's outcome.
-- A call's `ensures` and the theorem that its outcome is determined cite the same proposition.
use Rattle.std.specs.Prelude.{◌≡◌, Bool, List, ℕ}
use Rattle.record.specs.declared.answers.Answer.{Answer}
use Rattle.record.specs.declared.answers.Reply.{Reply}
use Rattle.record.specs.declared.heap.Heap.{Heap}
use Rattle.region.specs.Words.{written}
use Rattle.rules.specs.Outcome.{Outcome}
use Rattle.rules.specs.Setup.{setup}
use Rattle.rules.specs.Allocate.{allocate, allocate_cleared}
use Rattle.rules.specs.Free.{free}
use Rattle.rules.specs.Reallocate.{reallocate}
use Rattle.rules.specs.Merge.{set_merge, check}
use Rattle.rules.specs.Ask.{ask_chunk, ask_bin}
use Rattle.rules.specs.Patrol.{patrol}

-- all that a call leaves behind
pub record Left : Type 0 where
  pub answer : Answer
  pub heap : Heap
  pub words : List ℕ

-- what an outcome leaves of the words ws; what a reply leaves, with the words afterwards
abbrev pub left_by : List ℕ → Outcome → Left
left_by ws o = record { answer = o.answer; heap = o.heap; words = written ws o.stores }

abbrev pub replied : Reply → List ℕ → Left
replied r ws = record { answer = r.answer; heap = r.heap; words = ws }

-- the reply r and the words `after` are the outcome o on the words `before`
abbrev pub Meets : List ℕ → Outcome → Reply → List ℕ → Type 0
Meets before o r after = replied r after ≡ left_by before o

-- the ten calls, each by its rule
abbrev pub SetsUp : List ℕ → List ℕ → ℕ → Bool → Reply → List ℕ → Type 0
SetsUp ws table donor merge = Meets ws (setup ws table donor merge)

abbrev pub Allocates : List ℕ → Heap → ℕ → Reply → List ℕ → Type 0
Allocates ws h z = Meets ws (allocate ws h z)

abbrev pub AllocatesCleared : List ℕ → Heap → ℕ → ℕ → Reply → List ℕ → Type 0
AllocatesCleared ws h count size = Meets ws (allocate_cleared ws h count size)

abbrev pub Frees : List ℕ → Heap → ℕ → Reply → List ℕ → Type 0
Frees ws h b = Meets ws (free ws h b)

abbrev pub Reallocates : List ℕ → Heap → ℕ → ℕ → Reply → List ℕ → Type 0
Reallocates ws h b z = Meets ws (reallocate ws h b z)

abbrev pub SetsMerge : List ℕ → Heap → Bool → Reply → List ℕ → Type 0
SetsMerge ws h on = Meets ws (set_merge ws h on)

abbrev pub Checks : List ℕ → Heap → Reply → List ℕ → Type 0
Checks ws h = Meets ws (check ws h)

abbrev pub AsksChunk : List ℕ → Heap → ℕ → ℕ → Reply → List ℕ → Type 0
AsksChunk ws h question place = Meets ws (ask_chunk ws h question place)

abbrev pub AsksBin : List ℕ → Heap → ℕ → ℕ → Reply → List ℕ → Type 0
AsksBin ws h question bin = Meets ws (ask_bin ws h question bin)

abbrev pub Patrols : List ℕ → Heap → ℕ → Reply → List ℕ → Type 0
Patrols ws h chunks = Meets ws (patrol ws h chunks)
