-- What the code writes where a free chunk leaves its place or takes it, and what becomes of the summary: these definitions mirror the code.
-- That they do what the rules say is proved (`DraftLaws`).
use Rattle.std.specs.Prelude.{Bool, cond, List, ℕ, ltb, Option, Some, None}
use Rattle.books.specs.Books.{Books, books}
use Rattle.bins.specs.Bins.{leave_m, put_into_m}
use Rattle.record.specs.declared.heap.Summary.{Summary}
use Rattle.record.specs.declared.kinds.Kind.{Kind}
use Rattle.record.specs.declared.kinds.Kind.TheVariants.{Start, InUse, Ordinary, Donor, Top, End}
use Rattle.record.specs.Heap.{at, donor_now, top_now}
use Rattle.record.specs.Table.{small_bins, bin_of}
use Rattle.region.specs.Words.{Store, written}
use Rattle.rules.specs.Draft.{no_bin_words}
use Rattle.rules.specs.Kinds.{ordinary_kind}
use Rattle.settling.specs.declared.Arrival.{Arrival}

-- a free chunk that takes its place
abbrev pub arrival : Kind → ℕ → ℕ → Arrival
arrival k c size = record { becomes = k; chunk = at c; size = size }

-- the summary where the chunk at c is settled: it may be the new donor or the new top
abbrev pub settled_m : Summary → Kind → ℕ → Summary
settled_m s Start c = s
settled_m s InUse c = s
settled_m s Ordinary c = s
settled_m s Donor c = donor_now s c
settled_m s Top c = top_now s c
settled_m s End c = s

unfoldable pub leave_bin_m : Books → Bool → ℕ → Books
leave_bin_m b binned c = cond binned (leave_m b c) b

unfoldable pub put_binned_m : Books → List ℕ → ℕ → ℕ → Option ℕ → Books
put_binned_m b table c size (Some i) = put_into_m b (ltb i (small_bins table)) i c size
put_binned_m b table c size None = b

unfoldable pub put_in_bin_m : Books → List ℕ → ℕ → ℕ → Books
put_in_bin_m b table c size = put_binned_m b table c size (bin_of table size)

-- the books with some words written
abbrev pub also_written : Books → List Store → Books
also_written b ss = books (written b.words ss) b.heads b.tails

unfoldable pub settle_m : Books → List ℕ → Arrival → Books
settle_m b table a =
    cond (ordinary_kind a.becomes) (put_in_bin_m b table a.chunk.0 a.size) (also_written b (no_bin_words a.chunk.0))
