-- What giving up a chunk leaves, as the code makes it: these definitions mirror the code.
-- That on a heap that passes it is what the rules say is proved (`GiveMeaning`).
use Rattle.std.specs.Prelude.{List, ℕ, ◌-◌}
use Rattle.books.specs.Books.{Books, books}
use Rattle.record.specs.declared.heap.Heap.{Heap}
use Rattle.record.specs.declared.heap.Summary.{Summary}
use Rattle.record.specs.Heap.{summary_of, used_now, with_summary, with_ends}
use Rattle.release.specs.declared.Union.{Union}
use Rattle.release.specs.Release.{join_m, settled_in, give_back_m}
use Rattle.rules.specs.Calls.{State}
use Rattle.seek.specs.declared.Place.{Place}

-- the books, with the summary that the code hands back
pub record GivenUp : Type 0 where
  pub books : Books
  pub summary : Summary

abbrev pub given_up : Books → Summary → GivenUp
given_up b s = record { books = b; summary = s }

-- the summary once a chunk of m bytes is given up, with what it joins
abbrev pub given_up_in : Summary → Union → ℕ → Summary
given_up_in s u m = used_now (settled_in s u) (s.used - m)

unfoldable pub give_up_m : Books → List ℕ → Summary → Place → GivenUp
give_up_m b table s p =
    let u : Union = join_m b.words s p in
    given_up (give_back_m b table p u) (given_up_in s u (p.end - p.chunk.0))

-- the words, with the record that the callers make of it
abbrev pub state : List ℕ → Heap → State
state ws h = record { words = ws; heap = h }

unfoldable pub given_up_m : List ℕ → List ℕ → Heap → Place → State
given_up_m ws table h p =
    let g : GivenUp = give_up_m (books ws h.heads h.tails) table (summary_of h) p in
    state g.books.words (with_ends (with_summary h g.summary) g.books.heads g.books.tails)
