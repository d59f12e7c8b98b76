-- Determined (manual 7; document 01, "How far each statement reaches"): what a public call ensures admits one answer, one record
-- and one content of the region.
use Rattle.std.specs.Prelude.{◌≡◌, List, ℕ}
use Rattle.record.specs.declared.answers.Reply.{Reply}

-- a statement about a reply (answer and record) and the words afterwards
abbrev pub Statement : Type 1
Statement = Reply → List ℕ → Type 0

-- any two outcomes that a statement admits are equal
abbrev pub Determined : Statement → Type 0
Determined states =
    (r s : Reply) (us vs : List ℕ) → states r us → states s vs → (r ≡ s) × (us ≡ vs)
