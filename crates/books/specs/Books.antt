-- The books of the bins: the words, heads and tails that hold their doubly linked lists. No rule needs them:
-- the code works on books, and the laws compare them with drafts.
use Rattle.std.specs.Prelude.{List, ℕ}
use Rattle.region.specs.Words.{written}
use Rattle.rules.specs.Draft.{Draft}

pub record Books : Type 0 where
  pub words : List ℕ
  pub heads : List ℕ
  pub tails : List ℕ

abbrev pub books : List ℕ → List ℕ → List ℕ → Books
books ws heads tails = record { words = ws; heads = heads; tails = tails }

-- the books that a draft makes of the words ws: its stores written, its record's heads and tails
abbrev pub books_of : List ℕ → Draft → Books
books_of ws d = books (written ws d.stores) d.heap.heads d.heap.tails
