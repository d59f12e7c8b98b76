-- The questions by their numbers (manual 5.8; document 01, "The calls": Questions). They mirror the code: the rules list the answers in the
-- order of the numbers (`chunk_answers`, `bin_answers`).
use Rattle.std.specs.Prelude.{ℕ, ◌≡◌, List, [], ◌∷◌, get_or, Option, Some, None, Result, MatchResult}
use Rattle.record.specs.declared.questions.BinQuestion.{BinQuestion}
use Rattle.record.specs.declared.questions.BinQuestion.TheVariants.{Count, First, Last}
use Rattle.record.specs.declared.questions.ChunkQuestion.{ChunkQuestion}
use Rattle.record.specs.declared.questions.ChunkQuestion.TheVariants.{Bin, Block, Next, NextInBin, Previous, PreviousInBin, Size, «Type»}
use Rattle.record.specs.declared.questions.NoQuestion.{NoQuestion}

-- from 0 on; 3 is asked of a block
abbrev pub chunk_questions : List (Option ChunkQuestion)
chunk_questions =
    None ∷ Some Bin ∷ Some Block ∷ None ∷ Some Next ∷ Some NextInBin ∷ Some Previous ∷ Some PreviousInBin ∷ Some Size ∷ Some «Type» ∷ []

abbrev pub bin_questions : List (Option BinQuestion)
bin_questions = None ∷ Some Count ∷ Some First ∷ Some Last ∷ []

-- the question with a number
abbrev pub chunk_question : ℕ → Option ChunkQuestion
chunk_question n = get_or chunk_questions n None

abbrev pub bin_question : ℕ → Option BinQuestion
bin_question n = get_or bin_questions n None

-- the answers of `try_from`
abbrev pub IsChunkQuestion : ℕ → Result ChunkQuestion NoQuestion → Type 0
IsChunkQuestion n r = MatchResult r (λ q. Some q ≡ chunk_question n) (λ e. None ≡ chunk_question n)

abbrev pub IsBinQuestion : ℕ → Result BinQuestion NoQuestion → Type 0
IsBinQuestion n r = MatchResult r (λ q. Some q ≡ bin_question n) (λ e. None ≡ bin_question n)
