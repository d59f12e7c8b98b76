-- What a walk of the chain finds: the first chunk that meets a test, with the place of the one below it.
-- It mirrors the code; that it is the spot of the rules (`spot`) is proved.
use Rattle.std.specs.Prelude.{Bool, false, not, cond, ◌&&◌, List, [], ◌∷◌, ℕ, ◌+◌, ◌-◌, ◌%◌, eqb, Option, Some, None}
use Rattle.record.specs.Heap.{at}
use Rattle.rules.specs.Kinds.{block_of}
use Rattle.rules.specs.Shape.{Entry, chunk_end}
use Rattle.seek.specs.declared.Place.{Place}

-- the chunk e, above one at p
abbrev pub placed : ℕ → Entry → Place
placed p e = record { before = at p; chunk = at e.place; end = chunk_end e; flags = e.flags }

-- the size of the chunk that was found
abbrev pub size_in : Place → ℕ
size_in p = p.end - p.chunk.0

-- the first of es that meets the test, where the chunk below es is at p
unfoldable pub sought_m : (Entry → Bool) → ℕ → List Entry → Option Place
sought_m q p [] = None
sought_m q p (e ∷ es) = cond (q e) (Some (placed p e)) (sought_m q e.place es)

-- a chunk with these flags at c has a live block
unfoldable pub live_m : ℕ → ℕ → ℕ → Bool
live_m bytes c flags = not (eqb c 0) && not (eqb (c + 8) bytes) && eqb (flags % 2) 1

-- the chunk e has a live block, and it is at b
unfoldable pub has_block_m : ℕ → ℕ → Entry → Bool
has_block_m bytes b e = cond (live_m bytes e.place e.flags) (eqb (block_of e) b) false
