-- A request for room that something can serve is met as the rules say: the words, the record, and the chunk that is granted (`serve_is`).
-- Whether something can is ChooseMeaning's. Assumes nothing.
use Rattle.std.proofs.Common.{◌≡◌, ℕ, ◌+◌, ◌-◌, ◌%◌, ◌^◌, ◌<◌, ◌≤◌, List, sym, ap, ◌∙◌, arith, le-leb}
use native.Mathlib.Decide.{dec_lt}
use borrow.Author.Tests.{lt-leb}
use Rattle.books.specs.Books.{books}
use Rattle.record.specs.declared.heap.Heap.{Heap}
use Rattle.record.specs.declared.kinds.Kind.{Kind}
use Rattle.record.specs.Heap.{at, table_of, summary_of}
use Rattle.region.specs.Words.{written}
use Rattle.rules.specs.Cut.{Grant, grant_at}
use Rattle.rules.specs.Draft.{as_read}
use Rattle.rules.specs.Kinds.{used}
use Rattle.rules.specs.Shape.{Entry, entry}
use Rattle.rules.proofs.SpotLaws.{bounds, inside, used_few}
use Rattle.grant.specs.Cut.{granted_m}
use Rattle.drafts.specs.Sources.{kind_in}
use Rattle.grant.specs.Serve.{AfterGrant, after_grant, taken_m, serve_m, served_m}
use Rattle.drafts.proofs.SourceLaws.{Grantable, free_source}
use Rattle.grant.proofs.CutMeaning.{Serving, Taken, chunk_taken}
use Rattle.drafts.proofs.GrantKept.{source, the_grant, source_chunk, can, low, high}

-- what is left where the rule's grant was written, with this record and this chunk
abbrev handed_as : List ℕ → Grant → Heap → Entry → AfterGrant
handed_as ws g h e = record { words = written ws g.draft.stores; heap = h; chunk = at e.place; size = e.size }

-- the rule's grant, as the code hands it back
abbrev pub handed_on : List ℕ → Grant → AfterGrant
handed_on ws g = handed_as ws g g.draft.heap g.granted

-- no more is granted than the chunk has
granted_few : (n s : ℕ) → n ≤ s → granted_m n s ≤ s
unfolding granted_m
granted_few n s l = go (dec_lt s (n + 24))
  where
    go : Dec (s < n + 24) → granted_m n s ≤ s
    go (yes k) = rw (lt-leb (n + 24) s k) (omega arith)
    go (no k) = rw (le-leb (n + 24) s (omega arith)) l

-- m bytes of the chunk e, which were taken as the rule says, are handed back as its grant
taken_is : {ws : List ℕ} {h : Heap} {n : ℕ} {k : Kind} {e : Entry} {m : ℕ} {g : Grant} → m + h.used < 2 ^ 32 → Taken ws h n k e m g
    → after_grant h (taken_m (books ws h.heads h.tails) (table_of h) (summary_of h) k e.place n) ≡ handed_on ws g
unfolding taken_m
taken_is {ws} {h} {e = e} {m = m} {g = g} few t =
    let z : e.place + m - e.place ≡ m = omega arith in
    let u : (h.used + m) % 2 ^ 32 ≡ h.used + m = omega arith in
    rw (t.is, t.rest, z, u)
    (ap (λ (x : Heap). handed_as ws g x (entry e.place m used)) (sym t.heap) ∙ ap (handed_as ws g g.draft.heap) (sym t.granted))

module _ {ws : List ℕ} {h : Heap} {n : ℕ} (room : Grantable ws h n) where
  abbrev e : Entry
  e = source_chunk room

  abbrev kind : Kind
  kind = kind_in (source room)

  -- the chunk that the source names, as the cut wants it
  serving : Serving ws h n kind (low room) e (high room)
  serving =
      let c = can room in
      record {
        split = c.split;
        free = c.free;
        kind = c.kind;
        is_free = free_source (source room) room.some;
        enough = c.enough;
        spare = c.spare;
      }

  -- the rule's grant is of this chunk
  ruled : grant_at kind (record { low = low room; here = e; high = high room }) n (as_read ws h) ≡ the_grant room
  ruled =
      ap (λ (x : Entry). grant_at kind (record { low = low room; here = x; high = high room }) n (as_read ws h)) (sym (can room).here) ∙ sym (can room).is

  taken : Taken ws h n kind e (granted_m n e.size) (the_grant room)
  taken = rw ruled at (chunk_taken room.well room.large room.eight serving)

  pub serve_is : served_m ws (table_of h) h (source room) n ≡ handed_on ws (the_grant room)
  unfolding served_m serve_m
  serve_is =
      let c = can room in
      let g = granted_few n e.size c.enough in
      let i = inside ws h room.well e c.member in
      let b = bounds ws h room.well in
      rw (sym c.place) (taken_is (omega (arith, used_few ws h room.well)) taken)
