-- On a heap that passes, a block is supplied or refused for room as the rules of the allocates say (`supply_is`). Assumes nothing.
use Rattle.std.specs.Prelude.{is_none}
use Rattle.std.proofs.Common.{◌≡◌, ℕ, ◌+◌, ◌%◌, ◌^◌, Bool, true, false, List, ◌++◌, sym, refl, ap, ◌∙◌, append-nil, arith}
use Rattle.books.specs.Books.{Books, books}
use Rattle.record.specs.declared.answers.Answer.TheVariants.{Granted}
use Rattle.record.specs.declared.heap.Heap.{Heap}
use Rattle.record.specs.Heap.{summary_of, table_of}
use Rattle.region.specs.Places.{block_at}
use Rattle.region.specs.Words.{Store, written}
use Rattle.region.proofs.WordsLaws.{written_append}
use Rattle.rules.specs.Allocate.{source_of, grant, cleared, allocate_with}
use Rattle.rules.specs.Check.{Passes, passes}
use Rattle.rules.specs.Cut.{Grant}
use Rattle.rules.specs.Draft.{as_read, also_writes}
use Rattle.rules.specs.Kinds.{overhead, block_of, block_end}
use Rattle.rules.specs.Outcome.{made, grants}
use Rattle.rules.specs.Serve.{need, permitted}
use Rattle.rules.specs.Shape.{Entry}
use Rattle.rules.specs.Statements.{Left, left_by}
use Rattle.rules.proofs.CheckLaws.{passes_iff}
use Rattle.blocks.proofs.BlocksMeaning.{clear_is}
use Rattle.drafts.proofs.SourceLaws.{need_grantable}
use Rattle.grant.specs.Serve.{AfterGrant, served_m}
use Rattle.grant.proofs.ChooseMeaning.{choose_is}
use Rattle.grant.proofs.ServeMeaning.{handed_on, serve_is}
use Rattle.drafts.proofs.GrantedChunk.{granted_lies}
use Rattle.supply.specs.Supply.{fill_stores, filled_m, supplied_m, supply_m, want}
use Rattle.replies.specs.Replies.{change_m, left, recorded}
use Rattle.replies.proofs.ChangeLaws.{change_ruled}

-- what a call leaves of a grant
abbrev left_of : Bool → AfterGrant → Left
left_of clears l =
    left (Granted (record { 0 = block_at l.chunk.0 }) (change_m 0 l.size)) l.heap (filled_m l.words clears l.chunk.0 l.size)

-- the rule's grant, which is a chunk of a heap that passes
module _ (ws : List ℕ) (h : Heap) (q : passes ws h ≡ true) (z : ℕ) (k : permitted z ≡ true) where
  well : Passes ws h
  well = (passes_iff ws h).0 q

  abbrev n : ℕ
  n = need overhead z

  abbrev granted : Grant
  granted = grant n (as_read ws h)

  -- what the code is lent
  abbrev entry : Books
  entry = books ws h.heads h.tails

  module _ (some : is_none (source_of n (as_read ws h)) ≡ false) where
    -- zeros, or nothing
    filled_is : (clears : Bool) → filled_m (written ws granted.draft.stores) clears granted.granted.place granted.granted.size
        ≡ written ws (granted.draft.stores ++ fill_stores clears granted.granted)
    unfolding filled_m
    filled_is true =
        let l = granted_lies (need_grantable z well some) in
        let b : block_at granted.granted.place ≡ block_of granted.granted = omega arith in
        let e : (granted.granted.place + granted.granted.size) % 2 ^ 32 ≡ block_end granted.granted = omega arith in
        rw (b, e)
        (clear_is (written ws granted.draft.stores) granted.granted l.place l.size l.least l.fits
        ∙ sym (written_append granted.draft.stores (cleared granted.granted) ws))
    filled_is false = ap (written ws) (sym (append-nil granted.draft.stores))

    code_is : (clears : Bool) → left_of clears (handed_on ws granted)
        ≡ left_by ws (made (grants 0 granted.granted) (also_writes (fill_stores clears granted.granted) granted.draft))
    code_is clears =
        let l = granted_lies (need_grantable z well some) in
        let b : block_at granted.granted.place ≡ block_of granted.granted = omega arith in
        rw (b, change_ruled 0 granted.granted.size (omega arith) (omega arith), filled_is clears)

    ruled_is : (fill : Entry → List Store) → allocate_with fill ws h z ≡ made (grants 0 granted.granted) (also_writes (fill granted.granted) granted.draft)
    ruled_is fill = rw (q, k, some)

    serves : (clears : Bool) → recorded h (supply_m entry (table_of h) (summary_of h) (want n clears))
        ≡ left_by ws (made (grants 0 granted.granted) (also_writes (fill_stores clears granted.granted) granted.draft))
    unfolding supply_m supplied_m served_m
    serves clears = rw (choose_is ws h well n, some) (ap (left_of clears) (serve_is (need_grantable z well some)) ∙ code_is clears)

  pub supply_is : (clears : Bool) → recorded h (supply_m entry (table_of h) (summary_of h) (want n clears)) ≡ left_by ws (allocate_with (fill_stores clears) ws h z)
  unfolding supply_m
  supply_is clears = by (is_none (source_of n (as_read ws h))) refl
    where
      by : (t : Bool) → is_none (source_of n (as_read ws h)) ≡ t
          → recorded h (supply_m entry (table_of h) (summary_of h) (want n clears)) ≡ left_by ws (allocate_with (fill_stores clears) ws h z)
      by true e = rw (choose_is ws h well n, e, q, k)
      by false e = serves e clears ∙ sym (ap (left_by ws) (ruled_is e (fill_stores clears)))
