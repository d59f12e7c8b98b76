-- Balanced (manual 5; document 01, "The calls": the signed change in used bytes): the change that a call answers is the difference of the record's
-- used bytes after and before it, on every region and every record. A call that answers no change leaves them as they are.
use Rattle.std.specs.Prelude.{◌≡◌, false, List, ℕ}
use Rattle.record.specs.declared.heap.Heap.{Heap}
use Rattle.record.specs.Answers.{figures_of}
use Rattle.rules.specs.Outcome.{change_of}
use Rattle.rules.specs.Calls.{Call}
use Rattle.promises.specs.Ways.{Way}
use Rattle.promises.specs.Refusing.{is_setup}

-- the promise. Setup is left out: it makes a new record, and answers no change
abbrev pub Balanced : Way → Type 0
Balanced way =
    (call : Call) → is_setup call ≡ false → (ws : List ℕ) (h : Heap)
    → (figures_of (way call ws h).answer).change ≡ change_of h.used (way call ws h).heap.used
