-- The region as a list of words. A word is named by its chunk's place and its number in the header
-- (manual 2.1, 2.2; document 01, "Words, chunks, blocks"). A read outside the region gives 0, and a store there does nothing.
use Rattle.std.specs.Prelude.{ℕ, ◌+◌, ◌/◌, List, [], ◌∷◌, get_or, set}

-- the numbers of a header's words: the links to the next and to the previous chunk, the latter with the flags in its low bits;
-- in a free chunk also its size, the next and the previous chunk in its bin's list, and eight times the bin's number
abbrev pub forward : ℕ
forward = 0

abbrev pub backward : ℕ
backward = 1

abbrev pub size : ℕ
size = 2

abbrev pub next_in_bin : ℕ
next_in_bin = 3

abbrev pub previous_in_bin : ℕ
previous_in_bin = 4

abbrev pub bin : ℕ
bin = 5

-- word k of the chunk at c
unfoldable pub word : List ℕ → ℕ → ℕ → ℕ
word ws c k = get_or ws (c / 4 + k) 0

-- the words after v is stored there
unfoldable pub store : List ℕ → ℕ → ℕ → ℕ → List ℕ
store ws c k v = set ws (c / 4 + k) v

-- one store: word `number` of the chunk at `chunk` becomes `value`
pub record Store : Type 0 where
  pub chunk : ℕ
  pub number : ℕ
  pub value : ℕ

abbrev pub put : ℕ → ℕ → ℕ → Store
put c k v = record { chunk = c; number = k; value = v }

-- the words after a list of stores, made in order
abbrev pub written : List ℕ → List Store → List ℕ
written ws [] = ws
written ws (s ∷ ss) = written (store ws s.chunk s.number s.value) ss
