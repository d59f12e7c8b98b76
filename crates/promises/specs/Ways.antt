-- Ways of answering calls. Every promise is a predicate over a way, and the rules' own way keeps them all.
use Rattle.std.specs.Prelude.{List, ℕ}
use Rattle.record.specs.declared.heap.Heap.{Heap}
use Rattle.rules.specs.Calls.{Call, step}
use Rattle.rules.specs.Statements.{Left, left_by}

-- a way: what each call leaves behind, on each region and record
abbrev pub Way : Type 0
Way = Call → List ℕ → Heap → Left

-- the rules' own
unfoldable pub ours : Way
ours call ws h = left_by ws (step call ws h)
