-- What freeing a chunk leaves, as the code makes it: this definition mirrors the code. The rules say what a call leaves.
use Rattle.std.specs.Prelude.{List, Ok, ℕ, ◌-◌}
use Rattle.books.specs.Books.{Books}
use Rattle.record.specs.declared.answers.Answer.TheVariants.{Returned}
use Rattle.record.specs.declared.heap.Summary.{Summary}
use Rattle.release.specs.Give.{GivenUp, give_up_m}
use Rattle.replies.specs.Replies.{Concluded, answered, change_m, concluded}
use Rattle.seek.specs.declared.Place.{Place}

unfoldable pub reclaim_m : Books → List ℕ → Summary → Place → Concluded
reclaim_m b table s p =
    let g : GivenUp = give_up_m b table s p in
    concluded g.books (Ok (answered (Returned (change_m (p.end - p.chunk.0) 0)) g.summary))
