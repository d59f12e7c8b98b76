-- The bitmap: a mark for each multiple of 8, one bit of a word of 32 bits.
-- A place between two multiples of 8 has the mark of the lower one; past the bitmap nothing is marked.
use Rattle.std.specs.Prelude.{ℕ, ◌+◌, ◌*◌, ◌/◌, ◌%◌, ◌^◌, Bool, List, eqb, get_or, replicate, set}
use Rattle.std.specs.Int.Bits.{bit_xor}

-- the mark of the place c: bit (c / 8) % 32 of word c / 256
unfoldable pub marked : List ℕ → ℕ → Bool
marked ms c = eqb (get_or ms (c / 256) 0 / 2 ^ (c / 8 % 32) % 2) 1

-- the bitmap with the mark of c turned over
unfoldable pub flipped : List ℕ → ℕ → List ℕ
flipped ms c = set ms (c / 256) (bit_xor (get_or ms (c / 256) 0) (2 ^ (c / 8 % 32)))

-- no chunk is marked
abbrev pub clear : List ℕ
clear = replicate 256 0

-- the number of a place: where it is a multiple of 8, its eighth; any other place has a number that is too large for a mark's
abbrev pub number_m : ℕ → ℕ
number_m c = c / 8 + c % 8 * 2 ^ 29
