-- What a chunk tells, as the code finds it: from the place that was found on the chain, and from the words of a member.
-- It mirrors the code; that on a heap that passes these are the answers of the rules is proved in `ask`.
use Rattle.std.specs.Prelude.{cond, List, ℕ, eqb, Option, Some, None}
use Rattle.chain.specs.Chain.{kind_m}
use Rattle.record.specs.declared.heap.Summary.{Summary}
use Rattle.record.specs.declared.questions.ChunkQuestion.{ChunkQuestion}
use Rattle.record.specs.declared.questions.ChunkQuestion.TheVariants.{Bin, Block, Next, NextInBin, Previous, PreviousInBin, Size, «Type»}
use Rattle.record.specs.Questions.{chunk_question}
use Rattle.record.specs.Table.{bin_of}
use Rattle.region.specs.declared.Chunk.{Chunk}
use Rattle.region.specs.Places.{block_at}
use Rattle.region.specs.Words.{word, next_in_bin, previous_in_bin}
use Rattle.rules.specs.Kinds.{ordinary_kind}
use Rattle.rules.specs.Shape.{entry}
use Rattle.seek.specs.declared.Place.{Place}
use Rattle.seek.specs.Seek.{live_m, size_in}
use Rattle.std.specs.Option.{unwrap_or}

-- the question with a number, and else the type
abbrev pub asked : ℕ → ChunkQuestion
asked n = unwrap_or (chunk_question n) «Type»

-- what a bin link, a head or a tail names; 0 is none
unfoldable pub link_told_m : ℕ → Option ℕ
link_told_m link = cond (eqb link 0) None (Some link)

-- the chunk as a member of a bin
abbrev pub member_m : Summary → Place → Option Chunk
member_m s x = cond (ordinary_kind (kind_m s (entry x.chunk.0 (size_in x) x.flags))) (Some x.chunk) None

-- what a member tells
abbrev pub if_member : Summary → Place → Option ℕ → Option ℕ
if_member s x told = cond (ordinary_kind (kind_m s (entry x.chunk.0 (size_in x) x.flags))) told None

unfoldable pub of_chunk_m : List ℕ → List ℕ → Summary → ChunkQuestion → Place → Option ℕ
of_chunk_m ws table s Bin x = if_member s x (bin_of table (size_in x))
of_chunk_m ws table s Block x = cond (live_m s.bytes x.chunk.0 x.flags) (Some (block_at x.chunk.0)) None
of_chunk_m ws table s Next x = cond (eqb x.end s.bytes) None (Some x.end)
of_chunk_m ws table s NextInBin x = if_member s x (link_told_m (word ws x.chunk.0 next_in_bin))
of_chunk_m ws table s Previous x = cond (eqb x.chunk.0 0) None (Some x.before.0)
of_chunk_m ws table s PreviousInBin x = if_member s x (link_told_m (word ws x.chunk.0 previous_in_bin))
of_chunk_m ws table s Size x = Some (size_in x)
of_chunk_m ws table s «Type» x = Some x.flags
