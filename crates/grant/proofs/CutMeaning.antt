-- Cutting a free chunk that can serve does to a heap that passes what the rules say: the words, the bins' ends and the record.
-- Which chunk is chosen is not looked at here. Assumes nothing.
use Rattle.std.proofs.Common.{◌≡◌, ℕ, ◌+◌, ◌-◌, ◌*◌, ◌%◌, ◌^◌, ◌<◌, ◌≤◌, Bool, true, false, ◌≢◌, ◌⊎◌, List, [], ◌∷◌, ◌++◌, length, sym, refl, ap, ◌∙◌, subst, inl, inr, append_assoc, add-zero, arith, eq-eqb, ne_eqb, le-leb}
use mathlib.Core.Bool.{false≢true}
use native.Mathlib.Decide.{dec_lt}
use native.Mathlib.Nat.{sub-zero}
use borrow.Author.Tests.{lt-leb}
use Rattle.lists.specs.Lists.{Mem, head_or, last_or}
use Rattle.lists.proofs.SplitLaws.{in_split}
use Rattle.record.specs.declared.heap.Heap.{Heap}
use Rattle.record.specs.declared.heap.Summary.{Summary}
use Rattle.record.specs.declared.kinds.Kind.{Kind}
use Rattle.record.specs.declared.kinds.Kind.TheVariants.{Start, InUse, Ordinary, Donor, Top, End}
use Rattle.record.specs.Heap.{at, table_of, summary_of, used_now, with_summary, with_ends, with_used}
use Rattle.region.proofs.WordsLaws.{written_append}
use Rattle.headers.specs.Headers.{above_words, free_words, used_words}
use Rattle.rules.specs.Shape.{Entry, chunk_end, entry, shape, bin_list, flags_at}
use Rattle.rules.specs.Kinds.{kind_of, ordinary_kind, free_kind, ordinary, unused, used, outside}
use Rattle.rules.specs.Check.{Passes}
use Rattle.rules.specs.Draft.{Draft, as_read, relink, settle}
use Rattle.rules.specs.Cut.{Grant, grant_at, leave_as}
use Rattle.rules.proofs.SpotLaws.{Around, bounds, inside, around, chunks_apart, one_chunk}
use Rattle.rules.proofs.NamedLaws.{Free}
use Rattle.rules.proofs.KindsLaws.{free_kinds}
use Rattle.books.specs.Books.{books, books_of}
use Rattle.books.proofs.HeapBooks.{member_entry, member_below, ordinary_listed}
use Rattle.settling.specs.Settling.{leave_bin_m, also_written, settled_m}
use Rattle.settling.proofs.SettledLaws.{settled_keeps, settled_ordinary}
use Rattle.settling.proofs.DraftLaws.{Clears, Follows, Settled, follows_begins, leave_step, relink_follows, settle_step}
use Rattle.grant.specs.declared.cut.Cut.{Cut}
use Rattle.grant.specs.Cut.{granted_m, cut_m, take_m}
use Rattle.drafts.proofs.WaitingLaws.{MembersSized, waiting_sized}
use Rattle.drafts.proofs.CutLaws.{FreeChunk, cut_parts, cut_in_two, grants_part, grants_all}
use Rattle.drafts.proofs.CutKept.{opens, cut_waits}

-- the chunk e of kind k, between low and high, from which n bytes can be granted
pub record Serving (ws : List ℕ) (h : Heap) (n : ℕ) (k : Kind) (low : List Entry) (e : Entry) (high : List Entry) : Type 0 where
  pub split : shape ws h.bytes ≡ low ++ e ∷ high
  pub free : Free ws h e
  pub kind : kind_of h e ≡ k
  pub is_free : free_kind k ≡ true
  pub enough : n ≤ e.size
  -- of donor and top 24 bytes stay
  pub spare : ordinary_kind k ≡ false → n + 24 ≤ e.size

-- what the code grants of s bytes
granted_part : (n s : ℕ) → n + 24 ≤ s → granted_m n s ≡ n
unfolding granted_m
granted_part n s l = rw (le-leb (n + 24) s l)

granted_all : (n s : ℕ) → s < n + 24 → granted_m n s ≡ s
unfolding granted_m
granted_all n s l = rw (lt-leb (n + 24) s l)

-- a record that says m bytes more are used
more_used : (h : Heap) {a : Heap} {heads tails : List ℕ} {s : Summary} (m : ℕ) → s.used ≡ h.used → a ≡ with_ends (with_summary h s) heads tails
    → with_used a (a.used + m - 0) ≡ with_ends (with_summary h (used_now s (h.used + m))) heads tails
more_used h m u q = rw (q, u, sub-zero)

-- the words, the bins' ends and the record after the grant g of m bytes, for which n were asked, from the chunk e of kind k
pub record Taken (ws : List ℕ) (h : Heap) (n : ℕ) (k : Kind) (e : Entry) (m : ℕ) (g : Grant) : Type 0 where
  pub is : take_m (books ws h.heads h.tails) (table_of h) k (cut_m ws e.place n) ≡ books_of ws g.draft
  pub rest : (cut_m ws e.place n).rest.0 ≡ e.place + m
  pub granted : g.granted ≡ entry e.place m used
  pub heap : g.draft.heap
      ≡ with_ends (with_summary h (used_now (settled_m (summary_of h) k (e.place + m)) (h.used + m))) g.draft.heap.heads g.draft.heap.tails

-- the chunk e has left its bin, if it was in one
record OutOfBin (ws : List ℕ) (h : Heap) (e : Entry) (k : Kind) (after : Draft) : Type 0 where
  pub is : leave_bin_m (books_of ws (as_read ws h)) (ordinary_kind k) e.place ≡ books_of ws after
  pub follows : Follows ws h after
  pub others : (j x : ℕ) → j < h.bins → Mem x (after.lists j) → x ≢ e.place

module _ {ws : List ℕ} {h : Heap} (p : Passes ws h) where
  -- no member of a bin is the donor or the top
  not_listed_lem : (e : Entry) → Mem e (shape ws h.bytes) → ordinary h e ≡ false → (j x : ℕ) → j < h.bins → Mem x (bin_list ws h j) → x ≢ e.place
  not_listed_lem e me o j x l m q =
      let r = member_entry ws h p j x l m in
      let s = one_chunk ws h p r.0 e r.1.member me (r.1.place ∙ q) in
      false≢true (sym o ∙ ap (ordinary h) (sym s) ∙ r.1.kind)

  -- a free chunk leaves its bin as its kind has it
  leaves_as : (k : Kind) (e : Entry) → Mem e (shape ws h.bytes) → kind_of h e ≡ k → free_kind k ≡ true → OutOfBin ws h e k (leave_as k e (as_read ws h))
  unfolding leave_bin_m as_read
  leaves_as Start e m q f = absurd (false≢true f)
  leaves_as InUse e m q f = absurd (false≢true f)
  leaves_as Ordinary e m q f =
      let b = ordinary_listed ws h p e m (ap ordinary_kind q) in
      let g = leave_step ws h (as_read ws h) (follows_begins ws h p) e b.0 b.1 b.2 b.3 in
      record { is = g.is; follows = g.follows; others = λ j x l k z. let a = g.far j x l k in omega arith }
  leaves_as Donor e m q f =
      record { is = refl; follows = follows_begins ws h p; others = λ j x l k. not_listed_lem e m (ap ordinary_kind q) j x l ((follows_begins ws h p).from j x l k) }
  leaves_as Top e m q f =
      record { is = refl; follows = follows_begins ws h p; others = λ j x l k. not_listed_lem e m (ap ordinary_kind q) j x l ((follows_begins ws h p).from j x l k) }
  leaves_as End e m q f = absurd (false≢true f)

  module _ {n : ℕ} (large : 24 ≤ n) (eight : n % 8 ≡ 0) {k : Kind} {low : List Entry} {e : Entry} {high : List Entry} (s : Serving ws h n k low e high) where
    here : Mem e (shape ws h.bytes)
    here = in_split low e high s.split

    chunk : FreeChunk ws h low e high
    chunk = record { well = p; split = s.split; free = s.free }

    sides : Around ws (shape ws h.bytes) low e high
    sides = let b = s.free.between in around ws h p low e high s.split (omega arith) (omega arith)

    abbrev below : Entry
    below = last_or outside low

    abbrev above : Entry
    above = head_or outside high

    abbrev out : Draft
    out = leave_as k e (as_read ws h)

    gone : OutOfBin ws h e k out
    gone = leaves_as k e here s.kind s.is_free

    left_is : leave_bin_m (books ws h.heads h.tails) (ordinary_kind k) e.place ≡ books_of ws out
    unfolding as_read
    left_is = gone.is

    -- where the chunk begins and ends, and what is below and above it
    record CutBounds : Type 0 where
      pub place : e.place % 8 ≡ 0
      pub size : e.size % 8 ≡ 0
      pub down : below.place < 65536
      pub next : above.place ≡ chunk_end e
      pub up : chunk_end e + 8 ≤ 65536
      pub flags : above.flags ≤ 1
      pub fits : chunk_end e ≤ 4 * length ws

    bounded : CutBounds
    bounded =
        let i = inside ws h p e here in
        let a = inside ws h p above sides.above in
        let b = s.free.between in
        let w = bounds ws h p in
        record {
          place = i.place;
          size = i.size;
          down = omega (arith, sides.below_end, i.ends, w.few);
          next = sides.above_place;
          up = omega (arith, b.below, w.few);
          flags = a.flags;
          fits = omega (arith, b.below, w.fits);
        }

    -- what is read of it, if m bytes are granted
    cut_reads : (m : ℕ) → granted_m n e.size ≡ m → m ≤ e.size
        → cut_m ws e.place n ≡ record { below = at below.place; chunk = at e.place; rest = at (e.place + m); end = at (chunk_end e); flags = above.flags }
    unfolding cut_m
    cut_reads m g u =
        let l = bounded in
        let r : (e.place + m) % 2 ^ 32 ≡ e.place + m = omega arith in
        let b : below.place + e.flags ≡ below.place = omega (arith, s.free.flags) in
        let f : flags_at ws (chunk_end e) ≡ above.flags = ap (flags_at ws) (sym sides.above_place) ∙ sym (inside ws h p above sides.above).stands in
        rw (sides.own_backward, b, s.free.sized, g, r, sides.own_forward, sides.above_place, f)

    -- headers that are written are clear of those of all that are in bins
    module _ (j x : ℕ) (lj : j < h.bins) (m : Mem x (out.lists j)) where
      listed : Mem x (bin_list ws h j)
      listed = gone.follows.from j x lj m

      clears_here : Clears x e.place
      clears_here = (bounded.place, λ l. member_below ws h p j x lj listed e here l)

      clears_above : Clears x above.place
      clears_above =
          let l = bounded in
          (omega arith, λ u. member_below ws h p j x lj listed above sides.above u)

      -- it lies below the chunk or above it
      outside_it : (x + 24 ≤ e.place) ⊎ (chunk_end e ≤ x)
      outside_it =
          let r = member_entry ws h p j x lj listed in
          let b = r.1.is.free.between in
          go r.0 r.1.place b.some (chunks_apart ws h p r.0 e r.1.member here (λ q. gone.others j x lj m (sym r.1.place ∙ q)))
        where
          go : (d : Entry) → d.place ≡ x → 24 ≤ d.size → (chunk_end d ≤ e.place) ⊎ (chunk_end e ≤ d.place) → (x + 24 ≤ e.place) ⊎ (chunk_end e ≤ x)
          go d q z (inl l) = inl (omega arith)
          go d q z (inr l) = inr (omega arith)

      clears_rest : n + 24 ≤ e.size → Clears x (e.place + n)
      clears_rest u = (let l = bounded in omega arith, λ l. go outside_it l)
        where
          go : (x + 24 ≤ e.place) ⊎ (chunk_end e ≤ x) → x < e.place + n → x + 24 ≤ e.place + n
          go (inl a) l = omega arith
          go (inr a) l = absurd (omega arith)

    -- the rule's grant, and what the code's cut comes to
    abbrev pub grant_ruled : Grant
    grant_ruled = grant_at k (record { low = low; here = e; high = high }) n (as_read ws h)

    -- n bytes are granted, and the rest takes the chunk's place
    module _ (l : n + 24 ≤ e.size) where
      abbrev given : Entry
      given = entry e.place n used

      abbrev rest : Entry
      rest = entry (e.place + n) (e.size - n) unused

      abbrev cut_up : Draft
      cut_up = relink low (given ∷ rest ∷ []) high out

      part_follows : Follows ws h cut_up
      part_follows =
          relink_follows ws h out gone.follows low (given ∷ rest ∷ []) high
          (λ j x lj m.
          let c = clears_here j x lj m in
          let r = clears_rest j x lj m l in
          let a = clears_above j x lj m in
          (omega arith, c, (omega arith, c, (omega arith, r, (omega arith, r, (omega arith, r, (omega arith, a, tt)))))))

      part_words : also_written (also_written (also_written (books_of ws out) (used_words below.place e.place (e.place + n))) (free_words e.place (e.place + n) (chunk_end e))) (above_words (e.place + n) (chunk_end e) above.flags)
          ≡ books_of ws cut_up
      unfolding relink used_words free_words above_words
      part_words =
          let i = bounded in
          let b : (below.place + 1) % 2 ^ 32 ≡ below.place + 1 = omega arith in
          let a : (e.place + n + above.flags) % 2 ^ 32 ≡ e.place + n + above.flags = omega arith in
          let z : e.place + n + (e.size - n) ≡ chunk_end e = omega arith in
          let y : chunk_end e - (e.place + n) ≡ e.size - n = omega arith in
          rw (b, a, y, z, add-zero, i.next, append_assoc, written_append)

      -- the rest of the chunk waits, as the rules cut it
      part_sized : MembersSized ws h cut_up
      part_sized =
          subst (λ (parts : List Entry). MembersSized ws h (relink low parts high out)) (cut_in_two k low e high (as_read ws h) large l)
          (waiting_sized
          (cut_waits chunk (cut_parts e 0 n (omega (arith, s.enough))) refl (λ z. absurd (omega arith)) eight large (opens chunk k s.kind s.is_free)))

      part_settles : (k₁ : Kind) → free_kind k₁ ≡ true → Settled ws h (books_of ws cut_up) k₁ (e.place + n) (e.size - n) (settle k₁ rest cut_up)
      unfolding relink
      part_settles k₁ f =
          let i = bounded in
          let t =
          settle_step ws h cut_up part_follows p part_sized (e.place + n) (e.size - n) unused (omega arith) (omega arith) in
          free_kinds (λ k₂. Settled ws h (books_of ws cut_up) k₂ (e.place + n) (e.size - n) (settle k₂ rest cut_up)) (t Ordinary) (t Donor) (t Top) k₁ f

      part_taken : take_m (books ws h.heads h.tails) (table_of h) k (cut_m ws e.place n) ≡ books_of ws (settle k rest cut_up)
      unfolding take_m
      part_taken =
          let y : chunk_end e - (e.place + n) ≡ e.size - n = omega arith in
          rw (cut_reads n (granted_part n e.size l) (omega arith), left_is, ne_eqb (e.place + n) (chunk_end e) (λ q. omega arith), part_words, y)
          (part_settles k s.is_free).is

      takes_part : Taken ws h n k e n grant_ruled
      takes_part =
          let t = part_settles k s.is_free in
          rw (grants_part k low e high (as_read ws h) large l)
          (record {
            is = part_taken;
            rest = ap (λ (x : Cut). x.rest.0) (cut_reads n (granted_part n e.size l) (omega arith));
            granted = refl;
            heap = more_used h n (settled_keeps (summary_of h) k (e.place + n)).used t.heap;
          })

    -- nothing is left, so the chunk is ordinary
    module _ (l : e.size < n + 24) where
      abbrev all : Entry
      all = entry e.place e.size used

      all_words : also_written (also_written (books_of ws out) (used_words below.place e.place (chunk_end e))) (above_words e.place (chunk_end e) above.flags)
          ≡ books_of ws (relink low (all ∷ []) high out)
      unfolding relink used_words above_words
      all_words =
          let i = bounded in
          let b : (below.place + 1) % 2 ^ 32 ≡ below.place + 1 = omega arith in
          let a : (e.place + above.flags) % 2 ^ 32 ≡ e.place + above.flags = omega arith in
          rw (b, a, i.next, append_assoc, written_append)

      all_taken : take_m (books ws h.heads h.tails) (table_of h) k (cut_m ws e.place n) ≡ books_of ws (relink low (all ∷ []) high out)
      unfolding take_m
      all_taken =
          rw (cut_reads e.size (granted_all n e.size l) (omega arith), left_is, eq-eqb (chunk_end e) (chunk_end e) refl, all_words)

      is_ordinary_lem : ordinary_kind k ≡ true
      is_ordinary_lem = go (ordinary_kind k) s.spare
        where
          go : (t : Bool) → (t ≡ false → n + 24 ≤ e.size) → t ≡ true
          go true f = refl
          go false f = let g = f refl in absurd (omega arith)

      takes_all : Taken ws h n k e e.size grant_ruled
      unfolding relink
      takes_all =
          rw (grants_all k low e high (as_read ws h) large s.enough l)
          (record {
            is = all_taken;
            rest = ap (λ (x : Cut). x.rest.0) (cut_reads e.size (granted_all n e.size l) (omega arith));
            granted = refl;
            heap =
                rw (settled_ordinary (summary_of h) k (chunk_end e) is_ordinary_lem) (more_used h e.size refl gone.follows.heap);
          })

    -- either way
    pub chunk_taken : Taken ws h n k e (granted_m n e.size) grant_ruled
    chunk_taken = go (dec_lt e.size (n + 24))
      where
        go : Dec (e.size < n + 24) → Taken ws h n k e (granted_m n e.size) grant_ruled
        go (yes l) = rw (granted_all n e.size l) (takes_all l)
        go (no m) = rw (granted_part n e.size (omega arith)) (takes_part (omega arith))
