-- The bins' lists are in order in every heap that passes, and what a call puts stands behind its equals, in the small array before them; what was in a list
-- and stays there keeps its order (`order`). Late chunks stand behind the others of equal size, in the small array before them (`QueueLaws` of `drafts`), and
-- which ones are late may be chosen: those that were not on the chain before the call, or also those that stood behind some chunk. Assumes nothing.
use mathlib.Core.Path.{◌≡◌, refl, sym, ap, subst, ◌∙◌}
use mathlib.Core.Logic.{◌≢◌, ◌⊎◌, inl, inr}
use mathlib.Core.Bool.{Bool, true, false, cond, ◌&&◌, false≢true}
use mathlib.Core.List.Memᴰ
use mathlib.Core.List.{List, [], ◌∷◌}
use Prim.Native.Nat.{ℕ, ◌+◌, ◌*◌, ◌-◌, ◌≤◌, ◌<◌}
use native.Mathlib.Decide.{ℕ_discrete, dec_lt}
use native.Mathlib.Omega.{arith}
use lib.Dec.{eqb, ltb}
use lib.ListN.{length}
use borrow.Author.Tests.{lt-ltb, le-ltb}
use Rattle.lists.specs.Lists.{Mem, any, Before}
use Rattle.lists.proofs.AscendingLaws.{before_members, one_before, before_itself, before_through, before as stands_before, before_iff}
use Rattle.lists.proofs.ListsLaws.{Decides, number_is, both, for_some, meaning, not_so, zero_at}
use Rattle.record.specs.declared.answers.Answer.{Answer}
use Rattle.record.specs.declared.answers.Answer.TheVariants.{Done, Refused}
use Rattle.record.specs.declared.answers.Refusal.{Refusal}
use Rattle.record.specs.declared.answers.Refusal.TheVariants.{RegionLength, BadTable, DonorSize, HeapFails, BlockSize, NotLive, NoRoom, NotThere, RunSize, BeyondMending}
use Rattle.record.specs.declared.heap.Heap.{Heap}
use Rattle.std.specs.Prelude.{Some}
use Rattle.record.specs.Heap.{empty, table_of, with_merge, with_patrol}
use Rattle.record.specs.Table.{bin_of, small_bins}
use Rattle.record.proofs.TableLaws.{bin_takes, one_size}
use Rattle.region.specs.Words.{Store, written}
use Rattle.books.proofs.HeapBooks.{list_none, lists_apart}
use Rattle.drafts.proofs.PictureLaws.{StaysQueued}
use Rattle.drafts.proofs.QueueLaws.{standing, late_in, QueuedIn, Lateness, none_larger}
use Rattle.drafts.proofs.SourceLaws.{Grantable}
use Rattle.drafts.proofs.GrantKept.{the_grant, grant_queued, source_chunk, can, granted_place, granted_new, others_there}
use Rattle.drafts.proofs.GrantedChunk.{granted_heap, granted_pictured, filled_words, granted_filled, new_there, new_live}
use Rattle.drafts.proofs.FillLaws.{Within}
use Rattle.drafts.proofs.ReleaseKept.{free_kept, free_queued, others_stay}
use Rattle.drafts.proofs.ShrinkKept.{shrink_kept, shrink_queued}
use Rattle.drafts.proofs.MovedLaws.{Moving, copies, copies_within, copied_words, copied_heap, copied_passes, still_live, moved_reread, moved_words_lem}
use Rattle.rules.specs.Shape.{Entry, entry, shape, members, bin_list, heap_bytes}
use Rattle.rules.specs.Kinds.{ordinary, overhead, block_of}
use Rattle.rules.specs.Check.{Passes}
use Rattle.rules.specs.Draft.{Draft, as_read}
use Rattle.rules.specs.Serve.{need}
use Rattle.rules.specs.Outcome.{Outcome, Refusals, judged, heap_fails, unchanged}
use Rattle.rules.specs.Setup.{setup, setup_refusals, opened}
use Rattle.rules.specs.Free.{free_block}
use Rattle.rules.specs.Reallocate.{shrunk}
use Rattle.rules.specs.Merge.{set_merge, checked, check}
use Rattle.rules.specs.Ask.{ask_chunk, ask_bin, chunk_answers, asked_spot, is_there, bin_answers, answer_to, ask_refusals, asked}
use Rattle.rules.specs.Calls.{Call, Setup, Allocate, AllocateCleared, Free, Reallocate, SetMerge, Check, AskChunk, AskBin, Patrol, State, step}
use Rattle.rules.proofs.KindsLaws.{live_used}
use Rattle.rules.proofs.OrderLaws.{lists_in_order}
use Rattle.rules.proofs.OutcomeLaws.{Failed, judged_so}
use Rattle.rules.proofs.PatrolSound.{patrol_so}
use Rattle.rules.proofs.ShapeLaws.{read_none}
use Rattle.rules.proofs.SpotLaws.{inside, one_chunk}
use Rattle.promises.specs.Ways.{Way, ours}
use Rattle.promises.specs.Kept.{Passing, after}
use Rattle.promises.specs.Order.{list_of, InOrder, On, InBin, Behind, Ahead, Steady, Order}
use Rattle.promises.specs.Refusing.{asks_check, Because, setup_length, setup_table, setup_donor, fails, patrol_none, order_of, Refusing}
use Rattle.promises.proofs.EachOutcomeLaws.{EachOutcome, spot_of, allocate_so, cleared_so, free_so, reallocate_so}
use Rattle.promises.proofs.KeptLaws.{state_left, same_record, kept}

pub in_order_lem : (s : State) → Passing s → InOrder s
in_order_lem s p i l = lists_in_order s.words s.heap p i l

-- a chunk with this place, size and flags is among es
abbrev pub has : Entry → List Entry → Bool
has e es = any (λ x. eqb x.place e.place && eqb x.size e.size && eqb x.flags e.flags) es

pub has_iff : (e : Entry) (es : List Entry) → Decides (has e es) (Mem e es)
has_iff e es =
    meaning
    (for_some (λ x. both (both (number_is x.place e.place) (number_is x.size e.size)) (number_is x.flags e.flags)) es)
    (λ (x, m, ((place, size), flags)). subst (λ (y : Entry). Mem y es) (same x place size flags) m)
    (λ m. (e, m, ((refl, refl), refl)))
  where
    same : (x : Entry) → x.place ≡ e.place → x.size ≡ e.size → x.flags ≡ e.flags → x ≡ e
    same x p q r = let is : entry x.place x.size x.flags ≡ e = rw (p, q, r) refl in is

-- late is a chunk that is not among es
abbrev late_for : List Entry → Entry → ℕ
late_for es e = cond (has e es) 0 1

late_few : (t : Bool) → cond t 0 1 ≤ 1
late_few true = omega arith
late_few false = omega arith

early_there : (e : Entry) (es : List Entry) → Mem e es → late_for es e ≡ 0
early_there e es m = rw ((has_iff e es).1 m) refl

late_elsewhere : (e : Entry) (es : List Entry) → (Mem e es → ⊥) → late_for es e ≡ 1
late_elsewhere e es n = rw (not_so (has_iff e es) n) refl

-- before the call no chunk is late
none_late : (ws : List ℕ) (h : Heap) → Passes ws h → Lateness ws h (late_for (shape ws h.bytes))
none_late ws h p =
    record {
      at_most = λ e. late_few (has e (shape ws h.bytes));
      others = λ e n. late_elsewhere e (shape ws h.bytes) n;
      queued =
          λ i l.
          record {
            stand =
                λ x y m k s t b.
                let q = none_larger ws h p i l x y m k b in
                rw (early_there x (shape ws h.bytes) m, early_there y (shape ws h.bytes) k) (omega arith);
          };
    }

-- a number that is at most 1, turned round as in the small array, and turned round again
turned_few : (t : Bool) (n : ℕ) → n ≤ 1 → cond t (1 - n) n ≤ 1
turned_few true n l = omega arith
turned_few false n l = l

turned_twice : (t : Bool) (n : ℕ) → n ≤ 1 → cond t (1 - cond t (1 - n) n) (cond t (1 - n) n) ≡ n
turned_twice true n l = omega arith
turned_twice false n l = refl

-- a bin's list is parted behind the place c: late is what stands behind it
module _ (ws : List ℕ) (h : Heap) (p : Passes ws h) (i : ℕ) (l : i < h.bins) (c : ℕ) where
  abbrev row : List ℕ
  row = bin_list ws h i

  abbrev beyond : Entry → ℕ
  beyond e = cond (stands_before c e.place row) 1 0

  beyond_few : (t : Bool) → cond t 1 0 ≤ 1
  beyond_few true = omega arith
  beyond_few false = omega arith

  -- in the small array the other way about, since its bins are turned round; what is not on the chain is late
  abbrev parted : Entry → ℕ
  parted e = cond (has e (shape ws h.bytes)) (late_in h i beyond e) 1

  parted_few : (t : Bool) (e : Entry) → cond t (late_in h i beyond e) 1 ≤ 1
  parted_few true e = turned_few (ltb i (small_bins (table_of h))) (beyond e) (beyond_few (stands_before c e.place row))
  parted_few false e = omega arith

  parted_there : (e : Entry) → Mem e (shape ws h.bytes) → parted e ≡ late_in h i beyond e
  parted_there e m = rw ((has_iff e (shape ws h.bytes)).1 m) refl

  -- so in bin i itself what stands behind c is late
  parted_here : (e : Entry) → Mem e (shape ws h.bytes) → late_in h i parted e ≡ beyond e
  parted_here e m = rw (parted_there e m) (turned_twice (ltb i (small_bins (table_of h))) (beyond e) (beyond_few (stands_before c e.place row)))

  -- what stands behind something late is late
  late_on : (x y : Entry) → Before x.place y.place row → beyond x ≤ beyond y
  late_on x y b = go (stands_before c x.place row) refl
    where
      go : (t : Bool) → stands_before c x.place row ≡ t → cond t 1 0 ≤ beyond y
      go true q =
          let through = before_through c x.place y.place row (p.bins i l).once ((before_iff c x.place row).0 q) b in
          rw ((before_iff c y.place row).1 through) (omega arith)
      go false q = omega arith

  -- nothing in another bin stands behind c
  none_beyond : (j : ℕ) → j < h.bins → j ≢ i → (e : Entry) → Mem e.place (bin_list ws h j) → beyond e ≡ 0
  none_beyond j k other e m =
      rw (not_so (before_iff c e.place row) (λ b. lists_apart ws h p j i k l other e.place m (before_members c e.place row b).1)) refl

  parts : Lateness ws h parted
  parts =
      record {
        at_most = λ e. parted_few (has e (shape ws h.bytes)) e;
        others = λ e n. rw (not_so (has_iff e (shape ws h.bytes)) n) refl;
        queued = λ j k. record { stand = λ x y m n s t b. go j k x y m n b (none_larger ws h p j k x y m n b) (ℕ_discrete j i) };
      }
    where
      go : (j : ℕ) → j < h.bins → (x y : Entry) → Mem x (shape ws h.bytes) → Mem y (shape ws h.bytes) → Before x.place y.place (bin_list ws h j)
          → x.size ≤ y.size → Dec (j ≡ i) → standing (late_in h j parted) x ≤ standing (late_in h j parted) y
      go j k x y m n b q (yes same) =
          let f = late_on x y (rw same at b) in
          rw (same, parted_here x m, parted_here y n) (omega arith)
      go j k x y m n b q (no other) =
          let (mx, my) = before_members x.place y.place (bin_list ws h j) b in
          rw (parted_there x m, parted_there y n, none_beyond j k other x mx, none_beyond j k other y my) (omega arith)

-- A lateness of before the call is carried on to the state t: by `now` its lists stand so too, and `now` is the same for the chunks that were on the chain
-- before and are still, and has every other chunk late
record Carried (s t : State) (late : Entry → ℕ) : Type 0 where
  now : Entry → ℕ
  queued : QueuedIn now t.words t.heap
  same : (x : Entry) → On s x → On t x → now x ≡ late x
  others : (y : Entry) → (On s y → ⊥) → now y ≡ 1

-- every lateness is, and the table is the same
record Carries (s t : State) : Type 0 where
  passes : Passing t
  table : table_of t.heap ≡ table_of s.heap
  carried : (late : Entry → ℕ) → Lateness s.words s.heap late → Carried s t late

-- what a call puts stands behind its equals, and before them in the small array; what was in a list and is still keeps its order
record Placed (s t : State) : Type 0 where
  behind : Behind s t
  ahead : Ahead s t
  steady : Steady s t

module _ (s t : State) (p : Passing s) (c : Carries s t) (i : ℕ) (l : i < t.heap.bins) where
  in_bin_lem : (e : Entry) → InBin t i e → (ordinary t.heap e ≡ true) × (bin_of (table_of t.heap) e.size ≡ Some i)
  in_bin_lem e (o, m) =
      let (d, k, (q, b)) = (c.passes.bins i l).chunks e.place m in
      rw (one_chunk t.words t.heap c.passes d e k o q) at b

  stands : {late : Entry → ℕ} (k : Carried s t late) (x y : Entry) → InBin t i x → InBin t i y → Before x.place y.place (list_of t i)
      → standing (late_in t.heap i k.now) x ≤ standing (late_in t.heap i k.now) y
  stands k x y bx by b = (k.queued i l).stand x y bx.0 by.0 (in_bin_lem x bx).0 (in_bin_lem y by).0 b

  -- late is what was not on the chain
  abbrev new_late : Carried s t (late_for (shape s.words s.heap.bytes))
  new_late = c.carried (late_for (shape s.words s.heap.bytes)) (none_late s.words s.heap p)

  early : (x : Entry) → On s x → On t x → new_late.now x ≡ 0
  early x on there = new_late.same x on there ∙ early_there x (shape s.words s.heap.bytes) on

  -- one of two chunks of a bin stands before the other, if one was on the chain before the call and the other was not
  either : (x y : Entry) → InBin t i x → InBin t i y → On s x → (On s y → ⊥)
      → Before x.place y.place (list_of t i) ⊎ Before y.place x.place (list_of t i)
  either x y (ox, mx) (oy, my) on off =
      one_before (list_of t i) mx my (λ q. off (subst (On s) (one_chunk t.words t.heap c.passes x y ox oy q) on))

  late_behind : small_bins (table_of t.heap) ≤ i → (x y : Entry) → InBin t i x → InBin t i y → x.size ≡ y.size → On s x → (On s y → ⊥)
      → Before x.place y.place (list_of t i)
  late_behind large x y bx by same on off = go (either x y bx by on off)
    where
      go : Before x.place y.place (list_of t i) ⊎ Before y.place x.place (list_of t i) → Before x.place y.place (list_of t i)
      go (inl b) = b
      go (inr b) =
          let z = rw (le-ltb i (small_bins (table_of t.heap)) large) at (stands new_late y x by bx b) in
          let a = early x on bx.0 in
          let d = new_late.others y off in
          absurd (omega arith)

  late_ahead : i < small_bins (table_of t.heap) → (x y : Entry) → InBin t i x → InBin t i y → On s x → (On s y → ⊥)
      → Before y.place x.place (list_of t i)
  late_ahead small x y bx by on off = go (either x y bx by on off)
    where
      only : (e : Entry) → InBin t i e → e.size ≡ 24 + 8 * i
      only e b =
          one_size (table_of t.heap) c.passes.table.valid (bin_takes (table_of t.heap) (in_bin_lem e b).1) small
          (inside t.words t.heap c.passes e b.0).size

      go : Before x.place y.place (list_of t i) ⊎ Before y.place x.place (list_of t i) → Before y.place x.place (list_of t i)
      go (inl b) =
          let z = rw (lt-ltb i (small_bins (table_of t.heap)) small) at (stands new_late x y bx by b) in
          let a = early x on bx.0 in
          let d = new_late.others y off in
          let q = only x bx in
          let r = only y by in
          absurd (omega arith)
      go (inr b) = b

  -- two chunks that were in the list, x before y: late is what stood behind x
  module _ (x y : Entry) (bx : InBin t i x) (by : InBin t i y) (ox : On s x) (oy : On s y) (b : Before x.place y.place (list_of s i)) where
    was_bin : i < s.heap.bins
    was_bin = go (dec_lt i s.heap.bins)
      where
        go : Dec (i < s.heap.bins) → i < s.heap.bins
        go (yes k) = k
        go (no n) = absurd (rw (list_none s.words s.heap p i (omega arith)) at b)

    abbrev behind_first : Entry → ℕ
    behind_first = beyond s.words s.heap p i was_bin x.place

    abbrev parted_late : Carried s t (parted s.words s.heap p i was_bin x.place)
    parted_late = c.carried (parted s.words s.heap p i was_bin x.place) (parts s.words s.heap p i was_bin x.place)

    now_behind : (e : Entry) → On s e → On t e → late_in t.heap i parted_late.now e ≡ behind_first e
    now_behind e was is = rw (c.table, parted_late.same e was is) (parted_here s.words s.heap p i was_bin x.place e was)

    not_itself : Before x.place x.place (list_of s i) → ⊥
    not_itself = before_itself x.place (list_of s i) (p.bins i was_bin).once

    first_early : behind_first x ≡ 0
    first_early = rw (not_so (before_iff x.place x.place (list_of s i)) not_itself) refl

    second_late : behind_first y ≡ 1
    second_late = rw ((before_iff x.place y.place (list_of s i)).1 b) refl

    still_before : Before x.place y.place (list_of t i)
    still_before = go (one_before (list_of t i) bx.1 by.1 (λ q. not_itself (rw (← q) at b)))
      where
        go : Before x.place y.place (list_of t i) ⊎ Before y.place x.place (list_of t i) → Before x.place y.place (list_of t i)
        go (inl k) = k
        go (inr k) =
            let z = stands parted_late y x by bx k in
            let up = none_larger s.words s.heap p i was_bin x y ox oy b in
            absurd (omega (arith, now_behind x ox bx.0 ∙ first_early, now_behind y oy by.0 ∙ second_late))

carries_placed : (s t : State) → Passing s → Carries s t → Placed s t
carries_placed s t p c = record { behind = late_behind s t p c; ahead = late_ahead s t p c; steady = still_before s t p c }

-- a block is granted, and `ss` written into it
filled_queued : {ws : List ℕ} {h : Heap} {n : ℕ} (room : Grantable ws h n) (ss : List Store) (w : Within (the_grant room).granted ss)
    (late : Entry → ℕ) → Lateness ws h late → QueuedIn late (filled_words room ss w) (granted_heap room)
filled_queued room ss w late t i l =
    let f = granted_filled room ss w in
    rw (f.chain, f.lists i) ((grant_queued room).stand late t i l)

-- a block moves
module _ {ws : List ℕ} {h : Heap} (p : Passes ws h) {n : ℕ} {e : Entry} (moves : Moving ws h n e) where
  abbrev first : List Entry
  first = shape ws h.bytes

  abbrev second : List Entry
  second = shape (copied_words moves) (copied_heap moves).bytes

  abbrev source : Entry
  source = source_chunk moves.room

  abbrev new : Entry
  new = (the_grant moves.room).granted

  abbrev old : ℕ
  old = block_of e

  abbrev old_freed : Draft
  old_freed = free_block old (as_read (copied_words moves) (copied_heap moves))

  abbrev final : State
  final = record { words = written (copied_words moves) old_freed.stores; heap = old_freed.heap }

  final_passes : Passing final
  final_passes = (free_kept (copied_words moves) (copied_heap moves) (copied_passes moves) old (still_live moves)).passes

  -- the new chunk is on the chain to the end
  new_stays : On final new
  new_stays =
      let f = granted_filled moves.room (copies moves) (copies_within moves) in
      let there : Mem new second = rw f.chain (new_there moves.room) in
      let apart = granted_new moves.room e moves.member moves.live in
      rw (free_kept (copied_words moves) (copied_heap moves) (copied_passes moves) old (still_live moves)).chain
      (others_stay (copied_words moves) (copied_heap moves) (copied_passes moves) old (still_live moves) new there (new_live moves.room) (λ q. apart (omega arith))).0

  -- the source was free, so the new chunk, at its place, is another one
  new_is_new : Mem new first → ⊥
  new_is_new m =
      let q = one_chunk ws h p new source m (can moves.room).member (granted_place moves.room) in
      let f = (can moves.room).free.flags in
      let u = live_used (granted_heap moves.room) new (new_live moves.room) in
      let s = ap (λ (x : Entry). x.flags) q in
      omega arith

  -- a chunk that is there before and after is there in between
  between : (x : Entry) → Mem x first → On final x → Mem x second
  between x m on =
      let f = granted_filled moves.room (copies moves) (copies_within moves) in
      rw (f.chain, (granted_pictured moves.room).chain) (others_there moves.room x m elsewhere)
    where
      elsewhere : x.place ≢ source.place
      elsewhere q =
          let s = one_chunk final.words final.heap final_passes x new on new_stays (q ∙ sym (granted_place moves.room)) in
          new_is_new (subst (λ (y : Entry). Mem y first) s m)

  -- a lateness of before the call: after the grant all chunks are late, too, that are not on the chain then
  module _ (late : Entry → ℕ) (t : Lateness ws h late) where
    abbrev late_then : Entry → ℕ
    late_then x = cond (has x second) (late x) 1

    late_then_lem : (x : Entry) → Mem x second → late_then x ≡ late x
    late_then_lem x m = rw ((has_iff x second).1 m) refl

    few_then : (u : Bool) (x : Entry) → cond u (late x) 1 ≤ 1
    few_then true x = t.at_most x
    few_then false x = omega arith

    still_late : (u : Bool) (x : Entry) → (Mem x first → ⊥) → cond u (late x) 1 ≡ 1
    still_late true x off = t.others x off
    still_late false x off = refl

    then_late : Lateness (copied_words moves) (copied_heap moves) late_then
    then_late =
        record {
          at_most = λ x. few_then (has x second) x;
          others = λ x k. rw (not_so (has_iff x second) k) refl;
          queued =
              λ i l.
              record {
                stand =
                    λ x y m k s u b.
                    let q = (filled_queued moves.room (copies moves) (copies_within moves) late t i l).stand x y m k s u b in
                    rw (late_then_lem x m, late_then_lem y k) q;
              };
        }

    moved_carried : Carried (record { words = ws; heap = h }) final late
    moved_carried =
        record {
          now = late_then;
          queued = (free_queued (copied_words moves) (copied_heap moves) (copied_passes moves) old (still_live moves)).stand late_then then_late;
          same = λ x on stays. late_then_lem x (between x on stays);
          others = λ y off. still_late (has y second) y off;
        }

  move_carries : Carries (record { words = ws; heap = h }) final
  move_carries =
      record {
        passes = final_passes;
        table = (free_queued (copied_words moves) (copied_heap moves) (copied_passes moves) old (still_live moves)).table ∙ (grant_queued moves.room).table;
        carried = moved_carried;
      }

module _ (ws : List ℕ) (h : Heap) (p : Passes ws h) where
  abbrev before : State
  before = record { words = ws; heap = h }

  abbrev es : List Entry
  es = shape ws h.bytes

  -- the state that a draft leaves
  abbrev drafted : Draft → State
  drafted d = record { words = written ws d.stores; heap = d.heap }

  -- a draft in which late chunks stand as they should
  queued_placed : (d : Draft) → Passing (drafted d) → StaysQueued ws h d → Placed before (drafted d)
  queued_placed d passes queued =
      carries_placed before (drafted d) p
      (record {
        passes = passes;
        table = queued.table;
        carried = λ late t. record { now = late; queued = queued.stand late t; same = λ x on there. refl; others = t.others };
      })

  -- no chunk is new, and the lists are the same
  nothing_new : (t : State) → ((y : Entry) → On t y → On before y) → ((i : ℕ) → list_of t i ≡ list_of before i) → Placed before t
  nothing_new t same lists =
      record {
        behind = λ i l large x y bx (oy, my) e on off. absurd (off (same y oy));
        ahead = λ i l small x y bx (oy, my) on off. absurd (off (same y oy));
        steady = λ i l x y bx by ox oy b. rw (lists i) b;
      }

  nothing_else : Placed before before
  nothing_else = nothing_new before (λ y on. on) (λ i. refl)

  -- a block is granted, and `ss` written into it
  granted_placed : {n : ℕ} (room : Grantable ws h n) (ss : List Store) (w : Within (the_grant room).granted ss)
      → Placed before (record { words = filled_words room ss w; heap = granted_heap room })
  granted_placed room ss w =
      carries_placed before (record { words = filled_words room ss w; heap = granted_heap room }) p
      (record {
        passes = (granted_filled room ss w).passes;
        table = (grant_queued room).table;
        carried = λ late t. record { now = late; queued = filled_queued room ss w late t; same = λ x on there. refl; others = t.others };
      })

  -- a refusal leaves the heap as it was
  judged_placed : (came : Heap) (o : Outcome) (ts : Refusals) → (Failed ts → Placed before (state_left ws h o)) → Placed before (state_left ws h (judged came ts o))
  judged_placed came o ts = judged_so (λ x. Placed before (state_left ws h x)) came o ts (λ r. nothing_else)

  -- a block is granted, freed or resized
  each_placed : EachOutcome ws h (λ o. Placed before (state_left ws h o))
  unfolding as_read
  each_placed =
      record {
        refuses = λ r. nothing_else;
        grants = λ fill within z room. granted_placed room (fill (the_grant room).granted) (within (the_grant room).granted);
        frees_none = nothing_else;
        frees = λ b _ l. queued_placed (free_block b (as_read ws h)) (free_kept ws h p b l).passes (free_queued ws h p b l);
        moves = λ b z moves.
            rw ((moved_reread moves).0, moved_words_lem moves) (carries_placed before (final p moves) p (move_carries p moves));
        shrinks = λ b z shrinks.
            queued_placed (shrunk (spot_of ws h b) (need overhead z) (as_read ws h)).draft (shrink_kept shrinks).passes (shrink_queued shrinks);
        stays = λ b _. nothing_else;
      }

  -- a fresh heap has nothing in its bins
  setup_placed : (table : List ℕ) (donor : ℕ) (merge : Bool) → Placed before (state_left ws h (opened (heap_bytes (length ws)) table donor merge))
  unfolding members
  setup_placed table donor merge =
      record {
        behind = λ i l large x y bx (oy, my) e on off. absurd (none_in i y.place my);
        ahead = λ i l small x y bx (oy, my) on off. absurd (none_in i y.place my);
        steady = λ i l x y bx (oy, my) on too b. absurd (none_in i y.place my);
      }
    where
      none_in : (i c : ℕ) → Mem c (list_of (state_left ws h (opened (heap_bytes (length ws)) table donor merge)) i) → ⊥
      none_in i c m = Memᴰ.not-nil (rw (zero_at 32 i, read_none) at m)

  -- a call that changes nothing
  told_placed : (a : Answer) → Placed before (state_left ws h (unchanged h a))
  told_placed a = rw (same_record h a) nothing_else

  step_placed : (call : Call) → Placed before (state_left ws h (step call ws h))
  unfolding step setup check ask_chunk ask_bin set_merge
  step_placed (Setup table donor merge) =
      judged_placed empty (opened (heap_bytes (length ws)) table donor merge) (setup_refusals ws table donor) (λ _. setup_placed table donor merge)
  step_placed (Allocate z) = allocate_so ws h each_placed z
  step_placed (AllocateCleared count size) = cleared_so ws h each_placed count size
  step_placed (Free b) = free_so ws h each_placed b
  step_placed (Reallocate b z) = reallocate_so ws h each_placed b z
  step_placed (SetMerge on) = judged_placed h (unchanged (with_merge h on) Done) (heap_fails ws h ∷ []) (λ _. nothing_new (record { words = ws; heap = with_merge h on }) (λ y there. there) (λ i. refl))
  step_placed Check = told_placed (checked ws h)
  step_placed (AskChunk q c) =
      let d = as_read ws h in
      let answers = chunk_answers d (asked_spot d q c) in
      judged_placed h (asked h q answers) (ask_refusals (heap_fails ws h) q answers (is_there d q c)) (λ _. told_placed (answer_to q answers))
  step_placed (AskBin q i) =
      let answers = bin_answers ((as_read ws h).lists i) in
      judged_placed h (asked h q answers) (ask_refusals (heap_fails ws h) q answers (ltb i h.bins)) (λ _. told_placed (answer_to q answers))
  step_placed (Patrol f) =
      patrol_so ws h p (λ o. Placed before (state_left ws h o)) (λ r. nothing_else)
      (λ c t there. nothing_new (record { words = ws; heap = with_patrol h c }) (λ y on. on) (λ i. refl)) f

pub order : Order ours
unfolding ours
order s p =
    record {
      now = in_order_lem s p;
      left = λ call. in_order_lem (after ours call s) (kept.calls call s p);
      behind = λ call. (step_placed s.words s.heap p call).behind;
      ahead = λ call. (step_placed s.words s.heap p call).ahead;
      steady = λ call. (step_placed s.words s.heap p call).steady;
    }

-- A heap with a list that is not in order, as older firmware left them, is refused 4 by every call that asks the check: by every way that gives
-- refusals for their reasons
module _ (way : Way) (refuses : Refusing way) where
  pub unordered_refused : (call : Call) → asks_check call ≡ true → (s : State) → (InOrder s → ⊥) → (way call s.words s.heap).answer ≡ Refused HeapFails
  unordered_refused call asks s n =
      (refuses.exactly call s.words s.heap HeapFails).1
      (record { because = fails asks (λ p. n (in_order_lem s p)); before = λ q l b. none_before q l asks b })
    where
      none_before : {c : Call} (q : Refusal) → order_of q < 4 → asks_check c ≡ true → Because s.words s.heap c q → ⊥
      none_before RegionLength l a (setup_length w) = false≢true a
      none_before BadTable l a (setup_table w) = false≢true a
      none_before DonorSize l a (setup_donor w) = false≢true a
      none_before RunSize l a (patrol_none z) = false≢true a
      none_before HeapFails l a b = omega arith
      none_before BlockSize l a b = omega arith
      none_before NotLive l a b = omega arith
      none_before NoRoom l a b = omega arith
      none_before NotThere l a b = omega arith
      none_before BeyondMending l a b = omega arith
