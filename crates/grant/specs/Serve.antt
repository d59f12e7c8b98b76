-- What a request for room leaves behind, as the code makes it: these definitions mirror the code; the callers set the record.
-- That on a heap that passes it is what the rules say is proved (`ServeMeaning`).
use Rattle.std.specs.Prelude.{ℕ, ◌+◌, ◌-◌, ◌%◌, ◌^◌, List, Option}
use Rattle.books.specs.Books.{Books, books}
use Rattle.drafts.specs.Sources.{kind_in, place_in}
use Rattle.grant.specs.declared.cut.Cut.{Cut}
use Rattle.grant.specs.declared.serve.Portion.{Portion}
use Rattle.grant.specs.Cut.{cut_m, take_m}
use Rattle.record.specs.declared.heap.Heap.{Heap}
use Rattle.record.specs.declared.heap.Summary.{Summary}
use Rattle.record.specs.declared.kinds.Kind.{Kind}
use Rattle.record.specs.declared.sources.Source.{Source}
use Rattle.record.specs.Heap.{at, summary_of, used_now, with_summary, with_ends}
use Rattle.region.specs.declared.Chunk.{Chunk}
use Rattle.settling.specs.Settling.{settled_m}

-- the books, with what the code hands back
pub record Served : Type 0 where
  pub books : Books
  pub grant : Portion

abbrev pub served : Books → Portion → Served
served b g = record { books = b; grant = g }

-- the summary once m bytes of a chunk of this kind are granted, and the rest of it starts at c
abbrev pub granted_in : Summary → Kind → ℕ → ℕ → Summary
granted_in s kind c m = used_now (settled_m s kind c) ((s.used + m) % 2 ^ 32)

-- n bytes from the chunk at c, which is of this kind
unfoldable pub taken_m : Books → List ℕ → Summary → Kind → ℕ → ℕ → Served
taken_m b table s kind c n =
    let t : Cut = cut_m b.words c n in
    let size : ℕ = t.rest.0 - c in
    served (take_m b table kind t) (record { chunk = at c; size = size; summary = granted_in s kind t.rest.0 size })

unfoldable pub serve_m : Books → List ℕ → Summary → Option Source → ℕ → Served
serve_m b table s source n = taken_m b table s (kind_in source) (place_in s.donor.0 s.top.0 source) n

-- the words and the granted chunk, with the record that the callers make of it
pub record AfterGrant : Type 0 where
  pub words : List ℕ
  pub heap : Heap
  pub chunk : Chunk
  pub size : ℕ

abbrev pub after_grant : Heap → Served → AfterGrant
after_grant h s =
    let g : Portion = s.grant in
    record {
      words = s.books.words;
      heap = with_ends (with_summary h g.summary) s.books.heads s.books.tails;
      chunk = g.chunk;
      size = g.size;
    }

unfoldable pub served_m : List ℕ → List ℕ → Heap → Option Source → ℕ → AfterGrant
served_m ws table h source n = after_grant h (serve_m (books ws h.heads h.tails) table (summary_of h) source n)
