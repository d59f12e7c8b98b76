-- The rules keep the promise `Fields` (`fields`). No step on a draft changes heap bytes, table or merge setting. The patrol's place stays, or a joined chunk
-- swallows it and it moves down to that chunk; since the heap passes afterwards it is then the place of the chunk in which the old one lies.
-- Assumes nothing.
use mathlib.Core.Path.{◌≡◌, refl, sym, ap, subst, ◌∙◌}
use mathlib.Core.Logic.{inl, inr}
use mathlib.Core.Bool.{Bool, true, false, true≢false}
use mathlib.Core.List.Memᴰ
use mathlib.Core.List.{List, [], ◌∷◌}
use Rattle.std.specs.Prelude.{Option, Some, None}
use Prim.Native.Nat.{ℕ, ◌≤◌, ◌<◌}
use native.Mathlib.Decide.{dec_lt}
use native.Mathlib.Omega.{arith}
use Rattle.lists.proofs.SplitLaws.{middle_in}
use Rattle.record.specs.declared.answers.Answer.{Answer}
use Rattle.record.specs.declared.answers.Answer.TheVariants.{Done, Returned, Told, Refused}
use Rattle.record.specs.declared.heap.Heap.{Heap}
use Rattle.record.specs.Heap.{with_merge}
use Rattle.region.specs.Words.{written}
use Rattle.rules.specs.Shape.{Entry, chunk_end}
use Rattle.rules.specs.Kinds.{overhead, block_of}
use Rattle.rules.specs.Check.{Passes}
use Rattle.rules.specs.Draft.{Draft, as_read, now_uses}
use Rattle.rules.specs.Serve.{need}
use Rattle.rules.specs.Join.{joining, moved_down, release}
use Rattle.rules.specs.Outcome.{Outcome, Refusals, judged, heap_fails, unchanged, change_of}
use Rattle.rules.specs.Allocate.{source_of, grant}
use Rattle.rules.specs.Free.{is_live, block_spot, free_block}
use Rattle.rules.specs.Reallocate.{shrunk}
use Rattle.rules.specs.Merge.{set_merge, checked, check}
use Rattle.rules.specs.Ask.{ask_chunk, ask_bin}
use Rattle.rules.specs.Patrol.{Patrolled, patrol_run, patrol_refusals, ran, patrol}
use Rattle.rules.specs.Calls.{Call, Setup, Allocate, AllocateCleared, Free, Reallocate, SetMerge, Check, AskChunk, AskBin, Patrol, step}
use Rattle.rules.proofs.OutcomeLaws.{Failed, judged_so}
use Rattle.rules.proofs.SpotLaws.{inside, one_around}
use Rattle.drafts.proofs.StepLaws.{Frame, Rest, rest_of, released_chain, released_rest, granted_rest}
use Rattle.drafts.proofs.PictureLaws.{Pictured}
use Rattle.drafts.proofs.JoinLaws.{inside_moves, outside_stays}
use Rattle.drafts.proofs.GrantedChunk.{granted_filled}
use Rattle.drafts.proofs.ReleaseKept.{free_kept}
use Rattle.drafts.proofs.ShrinkKept.{ShrinkingBlock, shrink_kept}
use Rattle.drafts.proofs.MovedLaws.{Moving, copied_over, copied_words, copied_heap, copied_passes, still_live, moved_reread, moved_words_lem}
use Rattle.promises.specs.Ways.{ours}
use Rattle.promises.specs.Room.{OnChain}
use Rattle.promises.specs.Refusing.{is_setup}
use Rattle.promises.specs.Fields.{sets_merging, moves_patrol, Fields}
use Rattle.promises.proofs.EachOutcomeLaws.{EachOutcome, spot_of, allocate_so, cleared_so, free_so, reallocate_so}
use Rattle.promises.proofs.JudgedLaws.{unchanged_judged}

-- heap bytes, table and merge setting of the record `after` are those of h
abbrev SameFrame : Heap → Heap → Type 0
SameFrame h after = (rest_of after).frame ≡ (rest_of h).frame

-- a block is granted, or freed, on any draft
granted_frame : (n : ℕ) (d : Draft) → SameFrame d.heap (grant n d).draft.heap
granted_frame n d = ap (λ (r : Rest). r.frame) (granted_rest (source_of n d) n d)

freed_frame : (b : ℕ) (d : Draft) → SameFrame d.heap (free_block b d).heap
unfolding free_block
freed_frame b d = let s = block_spot d b in ap (λ (r : Rest). r.frame) (released_rest s.low s.here s.high d)

-- the patrol's place is that of the chunk in which c lies
abbrev Watches : List ℕ → Heap → ℕ → Type 0
Watches ws h c = (e : Entry) → OnChain ws h e → e.place ≤ c → c < chunk_end e → h.patrol.0 ≡ e.place

module _ {ws : List ℕ} {h : Heap} (p : Passes ws h) {c : ℕ} where
  -- c lies in one chunk only
  lies_in : (x : Entry) → OnChain ws h x → h.patrol.0 ≡ x.place → x.place ≤ c → c < chunk_end x → Watches ws h c
  lies_in x m q lo hi e k low high = q ∙ ap (λ (y : Entry). y.place) (one_around ws h p c x e m k (lo, hi) (low, high))

  -- the place is c: the check asks that it be a chunk's
  stays_there : h.patrol.0 ≡ c → Watches ws h c
  stays_there q =
      let (x, m, place) = p.patrol in
      let i = inside ws h p x m in
      lies_in x m (sym place) (omega arith) (omega arith)

  -- the place was c before the chunk x joined others
  joined_there : (x : Entry) → OnChain ws h x → h.patrol.0 ≡ moved_down x c → Watches ws h c
  joined_there x m q = go (dec_lt c x.place) (dec_lt c (chunk_end x))
    where
      go : Dec (c < x.place) → Dec (c < chunk_end x) → Watches ws h c
      go (yes l) _ = stays_there (q ∙ outside_stays x c (inl (omega arith)))
      go (no n) (yes l) = lies_in x m (q ∙ inside_moves x c (omega arith) l) (omega arith) l
      go (no n) (no k) = stays_there (q ∙ outside_stays x c (inr (omega arith)))

-- the same once the stores of a draft on these words are written
abbrev WatchesAfter : List ℕ → Draft → ℕ → Type 0
WatchesAfter ws d c = Watches (written ws d.stores) d.heap c

-- a grant leaves the place
granted_place : (n : ℕ) (d : Draft) → (grant n d).draft.heap.patrol.0 ≡ d.heap.patrol.0
granted_place n d = ap (λ (r : Rest). r.patrol) (granted_rest (source_of n d) n d)

-- a chunk is given back, and the heap passes then: the joined chunk is on the chain
given_watches : (ws : List ℕ) (low : List Entry) (e : Entry) (high : List Entry) (d : Draft) (gone new : ℕ)
    → let after = now_uses gone new (release low e high d) in Pictured ws after → WatchesAfter ws after d.heap.patrol.0
given_watches ws low e high d gone new k =
    let j = joining d.heap low e high in
    joined_there k.passes j.here
    (rw (k.chain ∙ released_chain low e high d) (middle_in j.low (j.here ∷ []) j.high (Memᴰ.head refl)))
    (ap (λ (r : Rest). r.patrol) (released_rest low e high d))

-- the live block at b is freed; it keeps n bytes
freed_watches : (ws : List ℕ) (h : Heap) → Passes ws h → (b : ℕ) → is_live (as_read ws h) b ≡ true → WatchesAfter ws (free_block b (as_read ws h)) h.patrol.0
unfolding free_block as_read
freed_watches ws h p b l =
    let s = block_spot (as_read ws h) b in
    given_watches ws s.low s.here s.high (as_read ws h) s.here.size 0 (free_kept ws h p b l)

shrunk_watches : {ws : List ℕ} {h : Heap} {b n : ℕ} → ShrinkingBlock ws h b n
    → WatchesAfter ws (shrunk (block_spot (as_read ws h) b) n (as_read ws h)).draft h.patrol.0
unfolding as_read
shrunk_watches {ws} {h} {b} {n} shrinks = given_watches ws _ _ _ _ _ n (shrink_kept shrinks)

-- the block of the chunk e moves: the old one is freed on the heap after the copy
moved_watches : {ws : List ℕ} {h : Heap} {n : ℕ} {e : Entry} (moves : Moving ws h n e)
    → WatchesAfter ws (free_block (block_of e) (copied_over moves)) h.patrol.0
unfolding as_read
moved_watches {ws} {h} {n} {e} moves =
    subst (WatchesAfter ws (free_block (block_of e) (copied_over moves))) (granted_place n (as_read ws h))
    (rw ((moved_reread moves).0, moved_words_lem moves)
    (freed_watches (copied_words moves) (copied_heap moves) (copied_passes moves) (block_of e) (still_live moves)))

-- what an outcome leaves on the words ws and the record h: heap bytes, table and merge setting, and, where the heap passed, the patrol's place
record Keeps (ws : List ℕ) (h : Heap) (o : Outcome) : Type 0 where
  frame : SameFrame h o.heap
  place : Passes ws h → Watches (written ws o.stores) o.heap h.patrol.0

module _ (ws : List ℕ) (h : Heap) where
  abbrev before : Draft
  before = as_read ws h

  -- the record as it came, and no word written
  unchanged_keeps : (a : Answer) → Keeps ws h (unchanged h a)
  unchanged_keeps a = record { frame = refl; place = λ p. stays_there p refl }

  judged_keeps : (o : Outcome) (ts : Refusals) → (Failed ts → Keeps ws h o) → Keeps ws h (judged h ts o)
  judged_keeps o ts = judged_so (Keeps ws h) h o ts (λ r. unchanged_keeps (Refused r))

  -- a block is granted, freed or resized
  each_keeps : EachOutcome ws h (Keeps ws h)
  unfolding as_read
  each_keeps =
      record {
        refuses = λ r. unchanged_keeps (Refused r);
        grants = λ fill within z room.
            let e = (grant (need overhead z) before).granted in
            record {
              frame = granted_frame (need overhead z) before;
              place = λ _. stays_there (granted_filled room (fill e) (within e)).passes (granted_place (need overhead z) before);
            };
        frees_none = unchanged_keeps (Returned (change_of 0 0));
        frees = λ b p l. record { frame = freed_frame b before; place = λ _. freed_watches ws h p b l };
        moves = λ b z moves.
            record {
              frame = freed_frame (block_of (spot_of ws h b).here) (copied_over moves) ∙ granted_frame (need overhead z) before;
              place = λ _. moved_watches moves;
            };
        shrinks = λ b z shrinks. record { frame = ap (λ (r : Rest). r.frame) (released_rest _ _ (spot_of ws h b).high _); place = λ _. shrunk_watches shrinks };
        stays = λ b p. record { frame = refl; place = λ _. stays_there p refl };
      }

-- what the promise says of a call with the outcome o
record Leaves (call : Call) (ws : List ℕ) (h : Heap) (o : Outcome) : Type 0 where
  bytes : is_setup call ≡ false → o.heap.bytes ≡ h.bytes
  bins : is_setup call ≡ false → o.heap.bins ≡ h.bins
  sizes : is_setup call ≡ false → o.heap.sizes ≡ h.sizes
  merge : sets_merging call ≡ false → o.heap.merge ≡ h.merge
  patrol : moves_patrol call ≡ false → Passes ws h → Watches (written ws o.stores) o.heap h.patrol.0

module _ (ws : List ℕ) (h : Heap) where
  all_left : (call : Call) {o : Outcome} → Keeps ws h o → Leaves call ws h o
  all_left call k =
      record {
        bytes = λ _. ap (λ (f : Frame). f.bytes) k.frame;
        bins = λ _. ap (λ (f : Frame). f.bins) k.frame;
        sizes = λ _. ap (λ (f : Frame). f.sizes) k.frame;
        merge = λ _. ap (λ (f : Frame). f.merge) k.frame;
        patrol = λ _. k.place;
      }

  -- the merge setting changes that field alone
  setting_leaves : (on : Bool) → Leaves (SetMerge on) ws h (set_merge ws h on)
  unfolding set_merge
  setting_leaves on =
      judged_so (Leaves (SetMerge on) ws h) h (unchanged (with_merge h on) Done) (heap_fails ws h ∷ [])
      (λ r. all_left (SetMerge on) (unchanged_keeps ws h (Refused r)))
      (λ _.
      record { bytes = λ _. refl; bins = λ _. refl; sizes = λ _. refl; merge = λ q. absurd (true≢false q); patrol = λ _ p. stays_there p refl })

  -- a run of the patrol changes its place alone
  run_leaves : (f : ℕ) → Leaves (Patrol f) ws h (patrol ws h f)
  unfolding patrol
  run_leaves f =
      judged_so (Leaves (Patrol f) ws h) h (ran h (patrol_run ws h f)) (patrol_refusals ws h f)
      (λ r. all_left (Patrol f) (unchanged_keeps ws h (Refused r))) (λ _. go (patrol_run ws h f))
    where
      go : (o : Option Patrolled) → Leaves (Patrol f) ws h (ran h o)
      go None = all_left (Patrol f) (unchanged_keeps ws h (Told (Some 0)))
      go (Some r) =
          record { bytes = λ _. refl; bins = λ _. refl; sizes = λ _. refl; merge = λ _. refl; patrol = λ q. absurd (true≢false q) }

  step_leaves : (call : Call) → Leaves call ws h (step call ws h)
  unfolding step check ask_chunk ask_bin
  step_leaves (Setup table donor merge) =
      record {
        bytes = λ q. absurd (true≢false q);
        bins = λ q. absurd (true≢false q);
        sizes = λ q. absurd (true≢false q);
        merge = λ q. absurd (true≢false q);
        patrol = λ q. absurd (true≢false q);
      }
  step_leaves (Allocate z) = all_left (Allocate z) (allocate_so ws h (each_keeps ws h) z)
  step_leaves (AllocateCleared count size) = all_left (AllocateCleared count size) (cleared_so ws h (each_keeps ws h) count size)
  step_leaves (Free b) = all_left (Free b) (free_so ws h (each_keeps ws h) b)
  step_leaves (Reallocate b z) = all_left (Reallocate b z) (reallocate_so ws h (each_keeps ws h) b z)
  step_leaves (SetMerge on) = setting_leaves on
  step_leaves Check = all_left Check (unchanged_keeps ws h (checked ws h))
  step_leaves (AskChunk q c) = all_left (AskChunk q c) (rw (unchanged_judged h _ _) (unchanged_keeps ws h _))
  step_leaves (AskBin q i) = all_left (AskBin q i) (rw (unchanged_judged h _ _) (unchanged_keeps ws h _))
  step_leaves (Patrol f) = run_leaves f

pub fields : Fields ours
unfolding ours
fields =
    record {
      bytes = λ call q ws h. (step_leaves ws h call).bytes q;
      bins = λ call q ws h. (step_leaves ws h call).bins q;
      sizes = λ call q ws h. (step_leaves ws h call).sizes q;
      merge = λ call q ws h. (step_leaves ws h call).merge q;
      patrol = λ call q ws h. (step_leaves ws h call).patrol q;
    }
