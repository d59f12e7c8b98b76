-- The record and the header words of a fresh heap, as the code makes them, call by call: these definitions mirror the code.
-- Nobody needs to believe them: `proofs/` shows that where a setup is accepted they are what the rule says.
use Rattle.std.specs.Prelude.{ℕ, min, Bool, cond, List, ◌++◌, length, take, drop, ◌==◌, Option, Some, None}
use Rattle.std.specs.Option.{unwrap_or}
use Rattle.region.specs.declared.Chunk.{Chunk}
use Rattle.record.specs.declared.heap.Heap.{Heap}
use Rattle.record.specs.Heap.{places, at, zeros}
use Rattle.headers.specs.Headers.{free_words, used_words}
use Rattle.region.specs.Words.{Store}
use Rattle.rules.specs.Draft.{no_bin_words}

-- as many sizes as a record has places for, and zeros after them
unfoldable pub padded_m : List ℕ → List ℕ
padded_m t = take places t ++ drop (length t) zeros

-- where a donor of so many bytes starts; of 0 bytes there is none
unfoldable pub first_donor_m : ℕ → Option Chunk
first_donor_m bytes = cond (bytes == 0) None (Some (at 8))

unfoldable pub fresh_m : ℕ → List ℕ → Option Chunk → ℕ → Bool → Heap
fresh_m bytes t donor top merge =
    record {
      bytes = bytes;
      bins = min (length t) places;
      sizes = padded_m t;
      heads = zeros;
      tails = zeros;
      donor = unwrap_or donor (at 0);
      top = at top;
      merge = merge;
      used = 0;
      patrol = at 0;
    }

-- the free chunks between the ends, and the donor's bin words
unfoldable pub free_chunks_words : Option Chunk → ℕ → ℕ → List Store
free_chunks_words None top end = free_words 0 top end
free_chunks_words (Some donor) top end = free_words 0 donor.0 top ++ free_words donor.0 top end ++ no_bin_words donor.0

unfoldable pub first_words : Option Chunk → ℕ → ℕ → List Store
first_words donor top end = used_words 0 0 8 ++ free_chunks_words donor top end ++ no_bin_words top ++ used_words top end 0
