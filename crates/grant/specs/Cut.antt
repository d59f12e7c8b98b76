-- What the code reads of a chunk that it cuts, and what it writes: these definitions mirror the code.
-- That they do what the rules say of a heap that passes is proved (`CutMeaning`).
use Rattle.std.specs.Prelude.{ℕ, ◌+◌, ◌-◌, ◌%◌, ◌^◌, cond, List, ◌==◌, nat_le}
use Rattle.books.specs.Books.{Books}
use Rattle.grant.specs.declared.cut.Cut.{Cut}
use Rattle.headers.specs.Headers.{above_words, free_words, used_words}
use Rattle.record.specs.declared.kinds.Kind.{Kind}
use Rattle.record.specs.Heap.{at}
use Rattle.region.specs.Words.{word, forward, backward, size}
use Rattle.rules.specs.Kinds.{ordinary_kind}
use Rattle.rules.specs.Shape.{flags_at}
use Rattle.settling.specs.Settling.{arrival, leave_bin_m, also_written, settle_m}

unfoldable pub granted_m : ℕ → ℕ → ℕ
granted_m n s = cond (nat_le (n + 24) s) n s

unfoldable pub cut_m : List ℕ → ℕ → ℕ → Cut
cut_m ws c n =
    record {
      below = at (word ws c backward);
      chunk = at c;
      rest = at ((c + granted_m n (word ws c size)) % 2 ^ 32);
      end = at (word ws c forward);
      flags = flags_at ws (word ws c forward);
    }

unfoldable pub take_m : Books → List ℕ → Kind → Cut → Books
take_m b table kind t =
    let out : Books = leave_bin_m b (ordinary_kind kind) t.chunk.0 in
    let used : Books = also_written out (used_words t.below.0 t.chunk.0 t.rest.0) in
    let left : Books = also_written used (free_words t.chunk.0 t.rest.0 t.end.0) in
    cond (t.rest.0 == t.end.0)
    (also_written used (above_words t.chunk.0 t.end.0 t.flags))
    (settle_m (also_written left (above_words t.rest.0 t.end.0 t.flags)) table (arrival kind t.rest.0 (t.end.0 - t.rest.0)))
