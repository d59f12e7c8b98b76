-- The test of a forward link by itself, as the code makes it; with the sign of a skipped chunk it is the rule's `broken` (`broken_is`).
use Rattle.std.specs.Prelude.{Bool, ◌&&◌, ℕ, ◌+◌, ◌%◌, eqb, leb}

-- the link v of the chunk at c stays in the heap, leads to a multiple of 8, and goes up by `least` or more
unfoldable pub can_follow_m : ℕ → ℕ → ℕ → ℕ → Bool
can_follow_m end c least v = leb v end && eqb (v % 8) 0 && leb (c + least) v
