-- The number of each refusal, and the figures that each answer stands for
-- (manual 5, 6; document 01, "Numbers of refusal", "The calls", "The check"; document 02, request One: an answer of none).
use Rattle.std.specs.Prelude.{Bool, true, false, ℕ, ℤ, pos, Some, None, Option, Result, Ok, Err}
use Rattle.record.specs.declared.answers.Answer.{Answer}
use Rattle.record.specs.declared.answers.Answer.TheVariants.{Done, Granted, Returned, Told, Counted, Refused}
use Rattle.record.specs.declared.answers.Counts.{Counts}
use Rattle.record.specs.declared.answers.Refusal.{Refusal}
use Rattle.record.specs.declared.answers.Refusal.TheVariants.{RegionLength, BadTable, DonorSize, HeapFails, BlockSize, NotLive, NoRoom, NotThere, RunSize, BeyondMending}

-- as the table of document 01 and request Two of document 02 number them (manual 6); request Seven took 9 out, and no other number moved
abbrev pub number_of : Refusal → ℕ
number_of RegionLength = 1
number_of BadTable = 2
number_of DonorSize = 3
number_of HeapFails = 4
number_of BlockSize = 5
number_of NotLive = 6
number_of NoRoom = 7
number_of NotThere = 8
number_of RunSize = 10
number_of BeyondMending = 12

-- the answer to a question: what was told, or why not
abbrev pub told : Result (Option ℕ) Refusal → Answer
told (Ok value) = Told value
told (Err why) = Refused why

-- the counts in every answer but the check's
abbrev pub no_counts : Counts
no_counts = record { chunks = 0; ordinary = 0; used = 0; free = 0 }

-- an answer in the document's figures; refusal 0 means accepted
pub record Figures : Type 0 where
  pub refusal : ℕ
  pub offset : ℕ
  pub value : ℕ
  -- a question was answered none; the value is then 0
  pub is_none : Bool
  pub change : ℤ
  pub counts : Counts

abbrev pub figures : ℕ → ℕ → ℕ → Bool → ℤ → Counts → Figures
figures r o v n d c = record { refusal = r; offset = o; value = v; is_none = n; change = d; counts = c }

-- parts that a call does not name are 0; a refusal has its number alone
abbrev pub figures_of : Answer → Figures
figures_of Done = figures 0 0 0 false (pos 0) no_counts
figures_of (Granted block change) = figures 0 block.0 0 false change no_counts
figures_of (Returned change) = figures 0 0 0 false change no_counts
figures_of (Told (Some value)) = figures 0 0 value false (pos 0) no_counts
figures_of (Told None) = figures 0 0 0 true (pos 0) no_counts
figures_of (Counted counts) = figures 0 0 0 false (pos 0) counts
figures_of (Refused refusal) = figures (number_of refusal) 0 0 false (pos 0) no_counts
