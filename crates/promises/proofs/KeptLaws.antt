-- The check is an invariant (`kept`): an accepted setup makes a heap that passes, and every call and every write inside a live block
-- leaves one that passes. So a block that a call grants has one chunk (`of_its_chunk`). Assumes nothing.
use Rattle.std.specs.Prelude.{Some, None}
use mathlib.Core.Path.{◌≡◌, refl, ◌∙◌}
use mathlib.Core.Bool.{Bool}
use mathlib.Core.List.{List, [], ◌∷◌}
use Prim.Native.Nat.{ℕ}
use lib.Dec.{ltb}
use lib.IntN.{ℤ}
use lib.ListN.{length}
use Rattle.drafts.proofs.GrantKept.{the_grant}
use Rattle.drafts.proofs.GrantedChunk.{granted_filled}
use Rattle.lists.specs.Lists.{Mem}
use Rattle.record.specs.declared.answers.Answer.{Answer}
use Rattle.record.specs.declared.answers.Answer.TheVariants.{Done, Granted, Returned, Told, Counted, Refused}
use Rattle.record.specs.declared.heap.Heap.{Heap}
use Rattle.record.specs.Heap.{empty, with_merge, with_patrol}
use Rattle.region.specs.declared.Block.{Block}
use Rattle.region.specs.Words.{Store, written}
use Rattle.drafts.proofs.ReleaseKept.{free_kept}
use Rattle.drafts.proofs.ShrinkKept.{shrink_kept}
use Rattle.drafts.proofs.MovedLaws.{copied_words, copied_heap, copied_passes, still_live, moved_reread, moved_words_lem}
use Rattle.rules.specs.Shape.{Entry, shape, heap_bytes}
use Rattle.rules.specs.Kinds.{block_of}
use Rattle.rules.specs.Check.{Passes}
use Rattle.rules.specs.Draft.{Draft, as_read}
use Rattle.rules.specs.Outcome.{Outcome, Refusals, judged, heap_fails, unchanged}
use Rattle.rules.specs.Setup.{setup, fresh, first_headers, setup_refusals, opened}
use Rattle.rules.specs.Merge.{set_merge, checked, check}
use Rattle.rules.specs.Ask.{ask_chunk, ask_bin, chunk_answers, asked_spot, is_there, bin_answers, answer_to, ask_refusals, asked}
use Rattle.rules.specs.Patrol.{patrol}
use Rattle.rules.specs.Calls.{Call, Setup, Allocate, AllocateCleared, Free, Reallocate, SetMerge, Check, AskChunk, AskBin, Patrol, State, record_after, step}
use Rattle.rules.proofs.OutcomeLaws.{Failed, judged_so}
use Rattle.rules.proofs.PatrolSound.{patrol_so}
use Rattle.drafts.proofs.FillLaws.{written_inside}
use Rattle.promises.specs.Ways.{ours}
use Rattle.promises.specs.Room.{HoldsBlock}
use Rattle.promises.specs.Kept.{Passing, Accepted, OnLiveBlocks, after_stores, Kept}
use Rattle.promises.proofs.JudgedLaws.{accepted_made}
use Rattle.promises.proofs.ReasonLaws.{one_block}
use Rattle.promises.proofs.EachOutcomeLaws.{EachOutcome, spot_of, allocate_so, cleared_so, free_so, reallocate_so}
use Rattle.promises.proofs.FreshLaws.{fresh_passes, openable}

-- the state that an outcome leaves for the next call
abbrev pub state_left : List ℕ → Heap → Outcome → State
state_left ws h o = record { words = written ws o.stores; heap = record_after h o.heap o.answer }

-- the heap passes once a draft's stores are written
abbrev PassesAfter : List ℕ → Draft → Type 0
PassesAfter ws d = Passes (written ws d.stores) d.heap

-- an outcome that keeps the record leaves it, whatever the answer
pub same_record : (h : Heap) (a : Answer) → record_after h h a ≡ h
same_record h Done = refl
same_record h (Granted b c) = refl
same_record h (Returned c) = refl
same_record h (Told (Some v)) = refl
same_record h (Told None) = refl
same_record h (Counted c) = refl
same_record h (Refused r) = refl

-- an accepted setup makes a heap that passes
setup_passes : (ws table : List ℕ) (donor : ℕ) (merge : Bool) → Failed (setup_refusals ws table donor)
    → Passes (written ws (first_headers (heap_bytes (length ws)) donor)) (fresh (heap_bytes (length ws)) table donor merge)
setup_passes ws table donor merge f =
    let o = openable ws table donor f in
    fresh_passes ws table merge o.valid o.enough o.few donor o.fitting

setup_kept : (table : List ℕ) (donor : ℕ) (merge : Bool) (ws : List ℕ) (h : Heap) → Accepted (ours (Setup table donor merge) ws h).answer
    → Passes (ours (Setup table donor merge) ws h).words (ours (Setup table donor merge) ws h).heap
unfolding ours step setup
setup_kept table donor merge ws h a =
    let bytes = heap_bytes (length ws) in
    let k = accepted_made empty (opened bytes table donor merge) (setup_refusals ws table donor) a in
    rw k.1 (setup_passes ws table donor merge k.0)

module _ (ws : List ℕ) (h : Heap) (p : Passes ws h) where
  -- a refusal leaves the heap as it was
  judged_passes : (came : Heap) (o : Outcome) (ts : Refusals) → (Failed ts → Passing (state_left ws h o)) → Passing (state_left ws h (judged came ts o))
  judged_passes came o ts = judged_so (λ x. Passing (state_left ws h x)) came o ts (λ r. p)

  -- a block is granted, freed or resized
  each_passes : EachOutcome ws h (λ o. Passing (state_left ws h o))
  unfolding as_read
  each_passes =
      record {
        refuses = λ r. p;
        grants = λ fill within z room. (granted_filled room (fill (the_grant room).granted) (within (the_grant room).granted)).passes;
        frees_none = p;
        frees = λ b _ l. (free_kept ws h p b l).passes;
        moves = λ b z moves.
            rw ((moved_reread moves).0, moved_words_lem moves)
            (free_kept (copied_words moves) (copied_heap moves) (copied_passes moves) (block_of (spot_of ws h b).here) (still_live moves)).passes;
        shrinks = λ b z shrinks. (shrink_kept shrinks).passes;
        stays = λ b _. p;
      }

  -- the check does not read the merge setting, and asks of the patrol's place only that it be a chunk's
  set_otherwise : (on : Bool) (c : ℕ) → ((e : Entry) × Mem e (shape ws h.bytes) × (e.place ≡ c)) → Passes ws (with_patrol (with_merge h on) c)
  set_otherwise on c there =
      let t = p.table in
      let c = p.chain in
      record {
        fits = record { enough = p.fits.enough; not_too_many = p.fits.not_too_many; bytes = p.fits.bytes };
        table =
            record {
              size_places = t.size_places;
              head_places = t.head_places;
              tail_places = t.tail_places;
              bins = t.bins;
              valid = t.valid;
              sizes_end = t.sizes_end;
              heads_end = t.heads_end;
              tails_end = t.tails_end;
            };
        chain = record { reaches_end = c.reaches_end; ends_there = c.ends_there; eights = c.eights };
        ends = p.ends;
        backward = p.backward;
        chunks = λ e m. let s = p.chunks e m in record { flags = s.flags; room = s.room; sized = s.sized };
        top = p.top;
        donor = p.donor;
        bins = λ i l.
            let b = p.bins i l in
            record { tail = b.tail; links = b.links; once = b.once; chunks = b.chunks; words = b.words; order = b.order };
        binned = p.binned;
        used = p.used;
        patrol = there;
      }

  merge_passes : (on : Bool) → Passing (state_left ws h (set_merge ws h on))
  unfolding set_merge
  merge_passes on = judged_passes h (unchanged (with_merge h on) Done) (heap_fails ws h ∷ []) (λ _. set_otherwise on h.patrol.0 p.patrol)

  -- a run of the patrol writes nothing, and its place is a chunk's again
  patrol_passes : (f : ℕ) → Passing (state_left ws h (patrol ws h f))
  patrol_passes f = patrol_so ws h p (λ o. Passing (state_left ws h o)) (λ r. p) (λ c t there. set_otherwise h.merge c there) f

  -- a call that changes nothing
  told_passes : (a : Answer) → Passing (state_left ws h (unchanged h a))
  told_passes a = rw (same_record h a) p

  step_passes : (call : Call) → Passing (state_left ws h (step call ws h))
  unfolding step setup check ask_chunk ask_bin
  step_passes (Setup table donor merge) =
      let bytes = heap_bytes (length ws) in
      judged_passes empty (opened bytes table donor merge)
      (setup_refusals ws table donor) (setup_passes ws table donor merge)
  step_passes (Allocate z) = allocate_so ws h each_passes z
  step_passes (AllocateCleared count size) = cleared_so ws h each_passes count size
  step_passes (Free b) = free_so ws h each_passes b
  step_passes (Reallocate b z) = reallocate_so ws h each_passes b z
  step_passes (SetMerge on) = merge_passes on
  step_passes Check = told_passes (checked ws h)
  step_passes (AskChunk q c) =
      let d = as_read ws h in
      let answers = chunk_answers d (asked_spot d q c) in
      judged_passes h (asked h q answers) (ask_refusals (heap_fails ws h) q answers (is_there d q c)) (λ _. told_passes (answer_to q answers))
  step_passes (AskBin q i) =
      let answers = bin_answers ((as_read ws h).lists i) in
      judged_passes h (asked h q answers) (ask_refusals (heap_fails ws h) q answers (ltb i h.bins)) (λ _. told_passes (answer_to q answers))
  step_passes (Patrol f) = patrol_passes f

-- after a store into a live block the heap is read as before, so the next store is into a live block too
pub stores_read : (ss : List Store) (s : State) → Passing s → OnLiveBlocks s ss
    → Passing (after_stores ss s) × (shape (after_stores ss s).words s.heap.bytes ≡ shape s.words s.heap.bytes)
stores_read [] s p o = (p, refl)
stores_read (x ∷ ss) s p ((e, m, l, (lo, hi)), o) =
    let f = written_inside p m l (x ∷ []) ((lo, hi), tt) in
    let r = stores_read ss (after_stores (x ∷ []) s) f.passes (still ss o f.chain) in
    (r.0, r.1 ∙ f.chain)
  where
    still : (ys : List Store) → OnLiveBlocks s ys
        → shape (after_stores (x ∷ []) s).words s.heap.bytes ≡ shape s.words s.heap.bytes
        → OnLiveBlocks (after_stores (x ∷ []) s) ys
    still [] o q = tt
    still (y ∷ ys) ((d, k, l, on), o) q = ((d, rw q k, l, on), still ys o q)

pub kept : Kept ours
unfolding ours
kept =
    record {
      setup = setup_kept;
      calls = λ call s p. step_passes s.words s.heap p call;
      writes = λ ss s p o. (stores_read ss s p o).0;
    }

-- what holds of a chunk that holds the granted block holds of every one that does
pub of_its_chunk : (Q : Entry → Type 0) {ws : List ℕ} {h : Heap} → Passes ws h → (call : Call) {block : Block} {change : ℤ}
    → let left = ours call ws h in
    left.answer ≡ Granted block change → ((d : Entry) × HoldsBlock left.words left.heap block.0 d × Q d)
    → (e : Entry) → HoldsBlock left.words left.heap block.0 e → Q e
of_its_chunk Q {ws} {h} p call {block} q (d, m, holds) e k =
    let left = ours call ws h in
    let well : Passes left.words left.heap = rw q at (kept.calls call (record { words = ws; heap = h }) p) in
    rw (one_block left.words left.heap well block.0 e d k m) holds
