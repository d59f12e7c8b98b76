-- What the code joins and writes where a chunk is given back, step by step: these definitions mirror the code.
-- That they do what the rules say of a heap that passes is proved (`ReleaseMeaning`).
use Rattle.std.specs.Prelude.{cond, ◌&&◌, List, ℕ, ◌-◌, ltb}
use Rattle.books.specs.Books.{Books}
use Rattle.chain.specs.Chain.{kind_m}
use Rattle.headers.specs.Headers.{above_words, free_words}
use Rattle.record.specs.declared.heap.Summary.{Summary}
use Rattle.record.specs.declared.kinds.Kind.{Kind}
use Rattle.record.specs.declared.kinds.Kind.TheVariants.{InUse}
use Rattle.record.specs.Heap.{at, patrol_now}
use Rattle.region.specs.Words.{word, forward, backward}
use Rattle.release.specs.declared.Union.{Union}
use Rattle.rules.specs.Join.{joined_as}
use Rattle.rules.specs.Kinds.{free_kind, ordinary_kind}
use Rattle.rules.specs.Shape.{entry, flags_at}
use Rattle.seek.specs.declared.Place.{Place}
use Rattle.settling.specs.Settling.{arrival, leave_bin_m, also_written, settle_m, settled_m}

-- the kind of the chunk at c, if merging is on
unfoldable pub neighbour_m : List ℕ → Summary → ℕ → Kind
neighbour_m ws s c = cond s.merge (kind_m s (entry c 0 (flags_at ws c))) InUse

-- a chunk at c between the neighbours `under` and `over`, which are at `before` and at `end`
unfoldable pub joined_m : List ℕ → Kind → Kind → ℕ → ℕ → ℕ → Union
joined_m ws under over before c end =
    let to : ℕ = cond (free_kind over) (word ws end forward) end in
    record {
      below = at (cond (ordinary_kind under) (word ws before backward) before);
      chunk = at (cond (ordinary_kind under) before c);
      end = to;
      flags = flags_at ws to;
      becomes = joined_as over;
      lower = ordinary_kind under;
      upper = ordinary_kind over;
    }

unfoldable pub join_m : List ℕ → Summary → Place → Union
join_m ws s p =
    joined_m ws (neighbour_m ws s p.before.0) (neighbour_m ws s p.end) p.before.0 p.chunk.0 p.end

-- a place inside the result moves down to it
unfoldable pub moved_m : Union → ℕ → ℕ
moved_m u c = cond (ltb u.chunk.0 c && ltb c u.end) u.chunk.0 c

-- the summary once the result has settled
abbrev pub settled_in : Summary → Union → Summary
settled_in s u = patrol_now (settled_m s u.becomes u.chunk.0) (moved_m u s.patrol.0)

unfoldable pub give_back_m : Books → List ℕ → Place → Union → Books
give_back_m b table p u =
    let out : Books = leave_bin_m (leave_bin_m b u.lower p.before.0) u.upper p.end in
    let linked : Books = also_written out (free_words u.below.0 u.chunk.0 u.end) in
    let all : Books = also_written linked (above_words u.chunk.0 u.end u.flags) in
    settle_m all table (arrival u.becomes u.chunk.0 (u.end - u.chunk.0))
