-- Setup (manual 5.1; document 01, "The calls"): on any region; refusals 1, 2, 3.
use Rattle.std.specs.Prelude.{Bool, not, cond, ◌&&◌, ◌||◌, List, [], ◌∷◌, ◌++◌, ℕ, ◌+◌, ◌-◌, ◌%◌, eqb, leb, ltb, length, replicate}
use Rattle.record.specs.declared.answers.Answer.TheVariants.{Done}
use Rattle.record.specs.declared.answers.Refusal.TheVariants.{RegionLength, BadTable, DonorSize}
use Rattle.record.specs.declared.heap.Heap.{Heap}
use Rattle.record.specs.Heap.{places, at, zeros, empty}
use Rattle.record.specs.Table.{least, valid_table}
use Rattle.region.specs.Words.{Store, put, forward, backward}
use Rattle.rules.specs.Shape.{Entry, entry, heap_bytes}
use Rattle.rules.specs.Kinds.{unused, used, end_size}
use Rattle.rules.specs.Check.{fewest_words, most_words}
use Rattle.rules.specs.Draft.{headers, no_bin_words}
use Rattle.rules.specs.Outcome.{Outcome, Refusals, judged}

-- the bytes that the donor must leave: start, end and a top chunk of the least size
abbrev pub ends_and_top : ℕ
ends_and_top = 40

-- a donor's size is 0 (no donor), or a multiple of 8, at least 24, that leaves those bytes
abbrev pub donor_fits : ℕ → ℕ → Bool
donor_fits bytes donor =
    eqb donor 0 || (leb least donor && eqb (donor % 8) 0 && leb donor (bytes - ends_and_top))

-- where the top chunk starts: above the start chunk and the donor, if there is one
abbrev pub first_top : ℕ → ℕ
first_top donor = end_size + donor

-- the record of a fresh heap
abbrev pub fresh : ℕ → List ℕ → ℕ → Bool → Heap
fresh bytes table donor merge =
    record {
      bytes = bytes;
      bins = length table;
      sizes = table ++ replicate (places - length table) 0;
      heads = zeros;
      tails = zeros;
      donor = at (cond (eqb donor 0) 0 end_size);
      top = at (first_top donor);
      merge = merge;
      used = 0;
      patrol = at 0;
    }

-- the donor as an entry, and the stores of its bin words; nothing if its size is 0
abbrev pub donor_chunk : ℕ → List Entry
donor_chunk donor = cond (eqb donor 0) [] (entry end_size donor unused ∷ [])

abbrev pub donor_bin_words : ℕ → List Store
donor_bin_words donor = cond (eqb donor 0) [] (no_bin_words end_size)

-- the headers of start, donor, top and end, and no other word
abbrev pub first_headers : ℕ → ℕ → List Store
first_headers bytes donor =
    let top = first_top donor in
    let end = bytes - end_size in
    headers 0 (entry 0 end_size used ∷ donor_chunk donor ++ entry top (end - top) unused ∷ [])
    ++ donor_bin_words donor ++ no_bin_words top
    ++ put end forward 0 ∷ put end backward (top + used) ∷ []

-- the refusals, in their order
abbrev pub setup_refusals : List ℕ → List ℕ → ℕ → Refusals
setup_refusals ws table donor =
    (ltb (length ws) fewest_words || ltb most_words (length ws), RegionLength)
    ∷ (not (valid_table table), BadTable)
    ∷ (not (donor_fits (heap_bytes (length ws)) donor), DonorSize)
    ∷ []

-- the outcome of an accepted setup, on a region with so many heap bytes
abbrev pub opened : ℕ → List ℕ → ℕ → Bool → Outcome
opened bytes table donor merge =
    record { answer = Done; heap = fresh bytes table donor merge; stores = first_headers bytes donor }

-- the call; a refused one gives a record of zeros
unfoldable pub setup : List ℕ → List ℕ → ℕ → Bool → Outcome
setup ws table donor merge =
    judged empty (setup_refusals ws table donor) (opened (heap_bytes (length ws)) table donor merge)
