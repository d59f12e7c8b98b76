-- From a chunk's place to its block's, eight bytes above it, and back (manual 2.3; document 01, "Words, chunks, blocks").
-- The code counts in 32 bits, so both conversions saturate at the ends of that range.
use Rattle.std.specs.Prelude.{ℕ, ◌+◌, ◌-◌, min}

-- where the sum has more than 32 bits: 2^32 − 1, which is no multiple of 8 and so no block's place
abbrev pub block_at : ℕ → ℕ
block_at c = min (c + 8) 4294967295

-- 0 below 8, where no block starts
abbrev pub chunk_at : ℕ → ℕ
chunk_at b = b - 8
