-- What a closure replies. The functions that take one say by it which outcome they hand back.
use Rattle.std.specs.Prelude.{◌≡◌, ℕ, List}
use Rattle.std.specs.Borrow.{MutBor}
use Rattle.std.specs.Fn.{Once}
use Rattle.record.specs.declared.answers.Reply.{Reply}
use Rattle.record.specs.declared.heap.Heap.{Heap}
use Rattle.rules.specs.Outcome.{Outcome}
use Rattle.rules.specs.Statements.{Meets}

-- each reply that f may give on the words ws and the record h is the outcome o
abbrev pub Makes : {F : Type 0} → Once F (MutBor (List ℕ) × (Heap × Unit {0})) (Reply × (MutBor (List ℕ) × Unit {0})) → F → List ℕ → Heap → Outcome → Type 0
Makes g f ws h o =
    (before after : MutBor (List ℕ)) (reply : Reply) → before.now ≡ ws → g.post f (before, (h, tt)) (reply, (after, tt)) → Meets ws o reply after.now
