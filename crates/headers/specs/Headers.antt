-- The words of a header as runs of stores, as the code writes them. They mirror the code; the rules say what a header is.
use Rattle.std.specs.Prelude.{ℕ, ◌+◌, ◌-◌, ◌%◌, ◌^◌, List, [], ◌∷◌}
use Rattle.region.specs.Words.{Store, put, forward, backward, size}

-- the links and the size of a free chunk at c, between the chunks at `before` and at `next`
unfoldable pub free_words : ℕ → ℕ → ℕ → List Store
free_words before c next = put c forward next ∷ put c backward before ∷ put c size (next - c) ∷ []

-- the links of a chunk in use
unfoldable pub used_words : ℕ → ℕ → ℕ → List Store
used_words before c next = put c forward next ∷ put c backward ((before + 1) % 2 ^ 32) ∷ []

-- the backward link of the chunk above, with its flags
unfoldable pub above_words : ℕ → ℕ → ℕ → List Store
above_words c above flags = put above backward ((c + flags) % 2 ^ 32) ∷ []
