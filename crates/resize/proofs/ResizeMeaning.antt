-- A live block gets another size as the rule says: it stays, gives its tail back, moves, or is refused for room (`resize_is`). Assumes nothing.
use Rattle.std.specs.Prelude.{is_none}
use Rattle.std.proofs.Common.{◌≡◌, ℕ, ◌+◌, ◌-◌, ◌%◌, ◌^◌, ◌<◌, ◌≤◌, Bool, true, false, List, sym, refl, ap, ◌∙◌, arith, le-ltb, lt-ltb, le-leb}
use native.Mathlib.Decide.{dec_lt}
use borrow.Author.Tests.{lt-leb}
use Rattle.lists.specs.Lists.{Mem}
use Rattle.lists.proofs.SplitLaws.{in_split}
use Rattle.record.specs.declared.heap.Heap.{Heap}
use Rattle.record.specs.Heap.{table_of}
use Rattle.region.specs.Places.{block_at}
use Rattle.rules.specs.Allocate.{source_of, grant}
use Rattle.rules.specs.Check.{Passes, passes}
use Rattle.rules.specs.Cut.{Grant}
use Rattle.rules.specs.Draft.{Draft, as_read}
use Rattle.rules.specs.Free.{is_live, block_spot, free_block}
use Rattle.rules.specs.Kinds.{overhead, block_of}
use Rattle.rules.specs.Outcome.{made, grants}
use Rattle.rules.specs.Reallocate.{resize, resized}
use Rattle.rules.specs.Serve.{need, permitted}
use Rattle.rules.specs.Shape.{Entry, chunk_end, shape}
use Rattle.rules.specs.Statements.{left_by}
use Rattle.rules.proofs.CheckLaws.{passes_iff}
use Rattle.rules.proofs.SpotLaws.{bounds, inside}
use Rattle.seek.specs.declared.Place.{Place}
use Rattle.grant.proofs.ChooseMeaning.{choose_is}
use Rattle.grant.proofs.ServeMeaning.{serve_is}
use Rattle.drafts.proofs.GrantedChunk.{granted_lies}
use Rattle.release.proofs.FindLaws.{place_of}
use Rattle.release.proofs.GiveMeaning.{give_up_tail_is}
use Rattle.drafts.proofs.BlockLaws.{splits}
use Rattle.drafts.proofs.ShrinkKept.{chunk_shrinks}
use Rattle.replies.proofs.ChangeLaws.{change_ruled}
use Rattle.resize.specs.Resize.{reread_m, shrink_m, moved_m, move_m, resize_m}
use Rattle.drafts.proofs.MovedLaws.{Moving, copied_over}
use Rattle.drafts.proofs.WantedLaws.{block_moves, block_shrinks}
use Rattle.resize.proofs.MoveMeaning.{copy_written, move_is}

-- the live block at b, in a heap that passes
module _ (ws : List ℕ) (h : Heap) (q : passes ws h ≡ true) (z : ℕ) (k : permitted z ≡ true) (b : ℕ) (l : is_live (as_read ws h) b ≡ true) where
  abbrev well : Passes ws h
  well = (passes_iff ws h).0 q

  abbrev n : ℕ
  n = need overhead z

  abbrev e : Entry
  e = (block_spot (as_read ws h) b).here

  abbrev p : Place
  p = place_of ws h well b l

  member : Mem e (shape ws h.bytes)
  member = in_split (block_spot (as_read ws h) b).low e (block_spot (as_read ws h) b).high (splits ws h well b l).split

  -- the size of the chunk, its block, and that they are small
  record Measured : Type 0 where
    pub size : chunk_end e - e.place ≡ e.size
    pub block : block_at e.place ≡ block_of e
    pub few : e.place + e.size ≤ 65536

  measured : Measured
  measured =
      let i = inside ws h well e member in
      let w = bounds ws h well in
      record { size = omega arith; block = omega arith; few = omega arith }

  -- what the code leaves is what the rule says
  abbrev AsRuled : Type 0
  AsRuled = resize_m ws (table_of h) h p n ≡ left_by ws (resize ws h b z)

  -- the chunk has the need, and nothing to give back
  stays : n ≤ e.size → e.size < n + 24 → AsRuled
  unfolding resize_m resize resized as_read
  stays m u =
      let i = measured in
      rw (i.size, le-ltb e.size n m, lt-leb (n + 24) e.size u, i.block, change_ruled e.size e.size (omega arith) (omega arith), q, k, l)

  -- the tail is given back
  shrinks : n + 24 ≤ e.size → AsRuled
  unfolding resize_m shrink_m resize resized
  shrinks u =
      let i = measured in
      let c = block_shrinks well b l z u in
      let r : (e.place + n) % 2 ^ 32 ≡ e.place + n = omega arith in
      rw (
        i.size,
        le-ltb e.size n (omega arith),
        le-leb (n + 24) e.size u,
        r,
        give_up_tail_is (chunk_shrinks c) e.flags,
        i.block,
        change_ruled e.size n (omega arith) (omega arith),
        q,
        k,
        l,
      )

  -- the block moves, if something can serve
  module _ (less : e.size < n) where
    refuses : is_none (source_of n (as_read ws h)) ≡ true → AsRuled
    unfolding resize_m move_m resize
    refuses none =
        let i = measured in
        rw (i.size, lt-ltb e.size n less, choose_is ws h well n, none, q, k, l)

    module _ (some : is_none (source_of n (as_read ws h)) ≡ false) where
      abbrev g : Grant
      g = grant n (as_read ws h)

      moving : Moving ws h n e
      moving = block_moves well b l z some less

      abbrev after : Draft
      after = copied_over moving

      code_moves : resize_m ws (table_of h) h p n ≡ left_by ws (made (grants e.size g.granted) (free_block (block_of e) after))
      unfolding resize_m move_m moved_m reread_m
      code_moves =
          let i = measured in
          let o = granted_lies moving.room in
          let block : block_at g.granted.place ≡ block_of g.granted = omega arith in
          rw (
            i.size,
            lt-ltb e.size n less,
            choose_is ws h well n,
            some,
            serve_is moving.room,
            copy_written moving,
            move_is moving,
            block,
            change_ruled e.size g.granted.size (omega arith) (omega arith),
          )

      rule_moves : resize ws h b z ≡ made (grants e.size g.granted) (free_block (block_of e) after)
      unfolding resize resized
      rule_moves =
          rw (q, k, l, lt-ltb e.size n less, some)

      moves : AsRuled
      moves = code_moves ∙ sym (ap (left_by ws) rule_moves)

  pub resize_is : resize_m ws (table_of h) h p n ≡ left_by ws (resize ws h b z)
  resize_is = by (dec_lt e.size n) (dec_lt e.size (n + 24)) (is_none (source_of n (as_read ws h))) refl
    where
      by : Dec (e.size < n) → Dec (e.size < n + 24) → (t : Bool) → is_none (source_of n (as_read ws h)) ≡ t
          → AsRuled
      by (yes u) d true t = refuses u t
      by (yes u) d false t = moves u t
      by (no u) (yes v) t s = stays (omega arith) v
      by (no u) (no v) t s = shrinks (omega arith)
