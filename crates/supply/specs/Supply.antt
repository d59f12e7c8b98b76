-- What supplying a block leaves, as the code makes it: these definitions mirror the code. The rules say what a call leaves.
use Rattle.std.specs.Prelude.{Ok, Err, ℕ, ◌+◌, ◌%◌, ◌^◌, Bool, cond, List, Option, is_none}
use Rattle.books.specs.Books.{Books, books}
use Rattle.blocks.specs.Blocks.{cleared_m}
use Rattle.grant.specs.Choose.{choose_m}
use Rattle.grant.specs.declared.serve.Portion.{Portion}
use Rattle.grant.specs.Serve.{Served, serve_m}
use Rattle.replies.specs.Replies.{Concluded, answered, change_m, concluded}
use Rattle.record.specs.declared.answers.Answer.TheVariants.{Granted}
use Rattle.record.specs.declared.answers.Refusal.TheVariants.{NoRoom}
use Rattle.record.specs.declared.heap.Summary.{Summary}
use Rattle.record.specs.declared.sources.Source.{Source}
use Rattle.region.specs.Places.{block_at}
use Rattle.region.specs.Words.{Store}
use Rattle.rules.specs.Allocate.{as_found, cleared}
use Rattle.rules.specs.Shape.{Entry}
use Rattle.supply.specs.declared.Want.{Want}

-- what the rules write into a granted block besides: zeros, or nothing
abbrev pub fill_stores : Bool → Entry → List Store
fill_stores clears = cond clears cleared as_found

-- the same of a chunk of so many bytes, as the code makes it
unfoldable pub filled_m : List ℕ → Bool → ℕ → ℕ → List ℕ
filled_m ws clears c size = cond clears (cleared_m ws (block_at c) ((c + size) % 2 ^ 32)) ws

-- what the code makes of a grant
unfoldable pub supplied_m : Bool → Served → Concluded
supplied_m clears s =
    let g : Portion = s.grant in
    concluded (books (filled_m s.books.words clears g.chunk.0 g.size) s.books.heads s.books.tails)
    (Ok (answered (Granted (record { 0 = block_at g.chunk.0 }) (change_m 0 g.size)) g.summary))

-- what it makes of a want, on a heap that passes
unfoldable pub supply_m : Books → List ℕ → Summary → Want → Concluded
supply_m b table s w =
    let source : Option Source = choose_m b.words table b.heads s w.need in
    cond (is_none source) (concluded b (Err NoRoom)) (supplied_m w.clears (serve_m b table s source w.need))

abbrev pub want : ℕ → Bool → Want
want n clears = record { need = n; clears = clears }
