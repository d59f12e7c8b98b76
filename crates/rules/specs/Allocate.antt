-- Allocate and cleared allocate (manual 5.2, 5.3; document 01, "The calls"); refusals 4, 5, 7.
use Rattle.std.specs.Prelude.{Bool, not, List, [], ◌∷◌, map, ℕ, ◌*◌, Option, Some, None, is_none}
use Rattle.lists.specs.Lists.{numbers_from}
use Rattle.record.specs.declared.answers.Refusal.{Refusal}
use Rattle.record.specs.declared.answers.Refusal.TheVariants.{BlockSize, NoRoom}
use Rattle.record.specs.declared.heap.Heap.{Heap}
use Rattle.record.specs.declared.sources.Source.{Source}
use Rattle.region.specs.Words.{Store, put}
use Rattle.rules.specs.Shape.{Entry}
use Rattle.rules.specs.Kinds.{overhead, block_of, block_words}
use Rattle.rules.specs.Serve.{need, permitted, chosen}
use Rattle.rules.specs.Draft.{Draft, as_read, also_writes}
use Rattle.rules.specs.Cut.{Grant, grant_from}
use Rattle.rules.specs.Outcome.{Outcome, Refusals, judged, heap_fails, made, grants}

-- the source chosen for n bytes
abbrev pub source_of : ℕ → Draft → Option Source
source_of n d = chosen d.heap d.chain d.lists n

-- n bytes are granted from it
abbrev pub grant : ℕ → Draft → Grant
grant n d = grant_from (source_of n d) n d

-- what a call writes into the granted block: nothing, or zeros up to the chunk's end
abbrev pub as_found : Entry → List Store
as_found e = []

abbrev pub cleared : Entry → List Store
cleared e = map (λ k. put (block_of e) k 0) (numbers_from 0 (block_words e))

-- the refusals in their order, behind `fails`, that of a heap that fails
abbrev pub allocate_refusals : Bool × Refusal → Draft → ℕ → Refusals
allocate_refusals fails d z =
    let n = need overhead z in
    fails
    ∷ (not (permitted z), BlockSize)
    ∷ (is_none (source_of n d), NoRoom)
    ∷ []

-- the outcome of an accepted call: the block is granted, then filled
abbrev pub allocated : (Entry → List Store) → Draft → ℕ → Outcome
allocated fill d z =
    let g = grant (need overhead z) d in
    made (grants 0 g.granted) (also_writes (fill g.granted) g.draft)

-- both calls on z bytes; `fill` is what the call writes into the block
abbrev pub allocate_with : (Entry → List Store) → List ℕ → Heap → ℕ → Outcome
allocate_with fill ws h z =
    let before = as_read ws h in
    judged h (allocate_refusals (heap_fails ws h) before z) (allocated fill before z)

-- z bytes; the block's words stay as found
unfoldable pub allocate : List ℕ → Heap → ℕ → Outcome
allocate ws h z = allocate_with as_found ws h z

-- the exact product of count and element size in bytes; every word of the block becomes 0
unfoldable pub allocate_cleared : List ℕ → Heap → ℕ → ℕ → Outcome
allocate_cleared ws h count element_size = allocate_with cleared ws h (count * element_size)
