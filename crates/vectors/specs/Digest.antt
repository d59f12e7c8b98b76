-- The digest of words: each is mixed into a number of 32 bits, in their order.
use Rattle.std.specs.Prelude.{ℕ, ◌+◌, ◌*◌, ◌/◌, ◌%◌, ◌^◌, List, [], ◌∷◌}
use Rattle.std.specs.Int.Bits.{bit_xor}

-- rotated to the left by 5 of 32 bits
unfoldable pub rotated : ℕ → ℕ
rotated x = (x % 2 ^ 27) * 2 ^ 5 + x / 2 ^ 27

unfoldable pub mixed : ℕ → ℕ → ℕ
mixed d x = (rotated (bit_xor d x) * 2654435761) % 2 ^ 32

unfoldable pub digest_from : ℕ → List ℕ → ℕ
digest_from d [] = d
digest_from d (x ∷ xs) = digest_from (mixed d x) xs
