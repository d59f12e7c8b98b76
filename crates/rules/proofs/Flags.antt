-- What a chunk's flags say (manual 2.2, 2.3; document 01, "Words, chunks, blocks"): which flags are permitted, whether the chunk is in use, whether it
-- has a size word, its least size, and how far its block lies from the chunk's two ends. A further sort of chunk is to be a further row of each.
-- As yet the other rules go by `Kinds` and `Check` and not by these names. Least size and block may depend on the record, which is handed in for that; as yet they do not.
use Rattle.std.specs.Prelude.{Bool, not, ◌||◌, ℕ, ◌%◌, eqb}
use Rattle.record.specs.declared.heap.Heap.{Heap}
use Rattle.record.specs.Table.{least}
use Rattle.rules.specs.Kinds.{unused, used, overhead}

-- bits 1 and 2 are 0
unfoldable pub permitted_flags : ℕ → Bool
permitted_flags f = eqb f unused || eqb f used

-- bit 0 means in use
abbrev pub say_used : ℕ → Bool
say_used f = eqb (f % 2) 1

-- a free chunk has a size word
unfoldable pub have_size : ℕ → Bool
have_size f = not (say_used f)

-- a chunk other than start and end has at least so many bytes
unfoldable pub least_with : Heap → ℕ → ℕ
least_with h f = least

-- the bytes of a chunk before its block, at least the two links; and those behind it
unfoldable pub lead : Heap → ℕ → ℕ
lead h f = overhead

unfoldable pub trail : Heap → ℕ → ℕ
trail h f = 0
