-- The answers as the code finds them: from the place that was found on the chain, and from the ends of a list.
-- It mirrors the code; that they are the answers of the rules, on a heap that passes, is proved.
use Rattle.std.specs.Prelude.{cond, List, ℕ, eqb, leb, length, get_or, Option, Some, None, Result, Ok, Err}
use Rattle.details.specs.Details.{link_told_m, of_chunk_m}
use Rattle.record.specs.declared.answers.Refusal.{Refusal}
use Rattle.record.specs.declared.answers.Refusal.TheVariants.{NotThere}
use Rattle.record.specs.declared.heap.Summary.{Summary}
use Rattle.record.specs.declared.questions.BinQuestion.{BinQuestion}
use Rattle.record.specs.declared.questions.BinQuestion.TheVariants.{Count, First, Last}
use Rattle.record.specs.declared.questions.ChunkQuestion.{ChunkQuestion}
use Rattle.record.specs.Questions.{bin_question, chunk_question}
use Rattle.rules.specs.Kinds.{is_at}
use Rattle.rules.specs.Shape.{members_from, shape}
use Rattle.seek.specs.declared.Place.{Place}
use Rattle.seek.specs.Seek.{sought_m, has_block_m}

-- what is asked of the chunk that was found
unfoldable pub told_of : List ℕ → List ℕ → Summary → Option ChunkQuestion → Option Place → Result (Option ℕ) Refusal
told_of ws table s (Some q) (Some x) = Ok (of_chunk_m ws table s q x)
told_of ws table s (Some q) None = Err NotThere
told_of ws table s None x = Err NotThere

-- the chunk of a live block
unfoldable pub holder_of : Option Place → Result (Option ℕ) Refusal
holder_of (Some x) = Ok (Some x.chunk.0)
holder_of None = Err NotThere

unfoldable pub ask_chunk_m : List ℕ → List ℕ → Summary → ℕ → ℕ → Result (Option ℕ) Refusal
ask_chunk_m ws table s q place =
    cond (eqb q 3) (holder_of (sought_m (has_block_m s.bytes place) 0 (shape ws s.bytes)))
    (told_of ws table s (chunk_question q) (sought_m (is_at place) 0 (shape ws s.bytes)))

-- what is asked of the list of a bin, from its ends
unfoldable pub list_told : List ℕ → Summary → ℕ → ℕ → Option BinQuestion → Result (Option ℕ) Refusal
list_told ws s head tail (Some Count) = Ok (Some (length (members_from s.bytes ws head)))
list_told ws s head tail (Some First) = Ok (link_told_m head)
list_told ws s head tail (Some Last) = Ok (link_told_m tail)
list_told ws s head tail None = Err NotThere

unfoldable pub ask_bin_m : List ℕ → List ℕ → List ℕ → Summary → ℕ → ℕ → Result (Option ℕ) Refusal
ask_bin_m ws heads tails s q i =
    cond (leb s.bins i) (Err NotThere) (list_told ws s (get_or heads i 0) (get_or tails i 0) (bin_question q))
