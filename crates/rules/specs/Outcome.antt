-- The outcome of a call: its answer, the record, and the words that it writes, in order (manual 6; document 01, "Numbers of refusal").
use Rattle.std.specs.Prelude.{Bool, true, false, not, List, [], ◌∷◌, ℕ, ℤ, pos, ◌-ℤ◌}
use Rattle.record.specs.declared.answers.Answer.{Answer}
use Rattle.record.specs.declared.answers.Answer.TheVariants.{Granted, Refused}
use Rattle.record.specs.declared.answers.Refusal.{Refusal}
use Rattle.record.specs.declared.answers.Refusal.TheVariants.{HeapFails}
use Rattle.record.specs.declared.heap.Heap.{Heap}
use Rattle.region.specs.Words.{Store}
use Rattle.rules.specs.Shape.{Entry}
use Rattle.rules.specs.Kinds.{block_of}
use Rattle.rules.specs.Check.{passes}
use Rattle.rules.specs.Draft.{Draft}

-- what a rule says of a call
pub record Outcome : Type 0 where
  pub answer : Answer
  pub heap : Heap
  pub stores : List Store

-- a refusal: the record as it came (setup passes an empty one), and no word written
abbrev pub refused : Heap → Refusal → Outcome
refused h r = record { answer = Refused r; heap = h; stores = [] }

-- an accepted call that leaves the heap as it came
abbrev pub unchanged : Heap → Answer → Outcome
unchanged h a = record { answer = a; heap = h; stores = [] }

-- an accepted call that made the draft d
abbrev pub made : Answer → Draft → Outcome
made a d = record { answer = a; heap = d.heap; stores = d.stores }

-- a call's refusals in their order, each with its test: the first whose test holds is given; if none does, the call is accepted
abbrev pub Refusals : Type 0
Refusals = List (Bool × Refusal)

abbrev pub judged : Heap → Refusals → Outcome → Outcome
judged h [] o = o
judged h (t ∷ ts) o = elim t.0 [ true ↦ refused h t.1 | false ↦ judged h ts o ]

-- refusal 4, the first of every call but setup
abbrev pub heap_fails : List ℕ → Heap → Bool × Refusal
heap_fails ws h = (not (passes ws h), HeapFails)

-- the signed change in used bytes when a chunk in use of `before` bytes becomes one of `after`
abbrev pub change_of : ℕ → ℕ → ℤ
change_of before after = pos after -ℤ pos before

-- the block of the chunk e is granted, in place of a block whose chunk had `before` bytes (0 for a new block)
abbrev pub grants : ℕ → Entry → Answer
grants before e = Granted (record { 0 = block_of e }) (change_of before e.size)
