-- The rules keep the promise `Apart` (`apart`): a granted block is cut from a chunk that can serve and overlaps no live one; every live block
-- but the one that is freed or reallocated keeps its place, its length and its words. Assumes nothing.
use mathlib.Core.Path.{◌≡◌, refl, sym, ap, subst, ◌∙◌}
use mathlib.Core.Logic.{◌≢◌, ◌⊎◌, inl, inr}
use mathlib.Core.Bool.{true, false, true≢false, false≢true}
use mathlib.Core.List.{List}
use Prim.Native.Nat.{ℕ, ◌+◌, ◌*◌, ◌≤◌, ◌<◌}
use native.Mathlib.Decide.{ℕ_discrete}
use native.Mathlib.Omega.{arith}
use lib.IntN.{ℤ}
use borrow.Author.Tests.{ne_eqb, lt-ltb, not-false}
use Rattle.drafts.proofs.SourceLaws.{Grantable, need_grantable}
use Rattle.record.specs.declared.answers.Answer.{Answer}
use Rattle.record.specs.declared.answers.Answer.TheVariants.{Done, Granted, Returned}
use Rattle.record.specs.declared.heap.Heap.{Heap}
use Rattle.record.specs.Answers.{figures_of}
use Rattle.record.specs.Heap.{with_merge, with_patrol}
use Rattle.region.specs.declared.Block.{Block}
use Rattle.region.specs.Words.{Store, written}
use Rattle.region.proofs.WordsLaws.{off}
use Rattle.drafts.proofs.ReleaseSpared.{shrink_spares, shrink_spares_own}
use Rattle.drafts.proofs.ShrinkKept.{ShrinkingBlock, shrink_kept, shrink_there, shrink_others_stay, shrink_none_new}
use Rattle.drafts.proofs.MovedLaws.{Moving}
use Rattle.drafts.proofs.WantedLaws.{block_moves, block_shrinks}
use Rattle.rules.specs.Shape.{Entry, shape}
use Rattle.rules.specs.Kinds.{live, overhead, block_of, block_words}
use Rattle.rules.specs.Check.{Passes}
use Rattle.rules.specs.Draft.{as_read, also_writes}
use Rattle.rules.specs.Serve.{need, permitted}
use Rattle.rules.specs.Cut.{Grant}
use Rattle.rules.specs.Outcome.{Outcome, Refusals, judged, heap_fails, unchanged, made, grants, change_of}
use Rattle.rules.specs.Allocate.{grant, as_found, cleared, allocate_with, allocate, allocate_cleared, allocate_refusals}
use Rattle.rules.specs.Free.{is_live, block_spot, free_block, free}
use Rattle.rules.specs.Reallocate.{shrunk, moved, resized, resize, reallocate, resize_refusals, resized_to}
use Rattle.rules.specs.Merge.{set_merge, check}
use Rattle.rules.specs.Ask.{ask_chunk, ask_bin}
use Rattle.rules.specs.Patrol.{patrol}
use Rattle.rules.specs.Statements.{Left, left_by}
use Rattle.rules.specs.Calls.{Call, Setup, Allocate, AllocateCleared, Free, Reallocate, SetMerge, Check, AskChunk, AskBin, Patrol, step}
use Rattle.rules.proofs.CheckLaws.{passes_iff}
use Rattle.rules.proofs.SpotLaws.{inside}
use Rattle.rules.proofs.OutcomeLaws.{Failed}
use Rattle.rules.proofs.PatrolSound.{patrol_so}
use Rattle.drafts.proofs.FillLaws.{Within}
use Rattle.promises.specs.Ways.{ours}
use Rattle.promises.specs.Room.{OnChain, HoldsBlock}
use Rattle.promises.specs.Refusing.{is_setup, refused_record}
use Rattle.promises.specs.Apart.{SameWords, Keeps, KeepsAll, KeepsOthers, Gone, NoneNew, NoneNewBut, New, Clear, Stays, only_looks, Apart}
use Rattle.promises.proofs.RefusingLaws.{refusing}
use Rattle.promises.proofs.GrantedLaws.{NewApart, kept_still, new_apart, new_clear, cleared_within, others_kept, none_others, moved_apart}
use Rattle.promises.proofs.JudgedLaws.{accepts, accepted_made, unchanged_judged}
use Rattle.promises.proofs.ReasonLaws.{live_iff, one_block, here_holds}
use Rattle.promises.proofs.ResizedLaws.{resized_so}

-- a call that granted a block was accepted: all its tests for refusal failed
pub accepted : (h : Heap) (o : Outcome) {block : Block} {change : ℤ} (ts : Refusals) → (judged h ts o).answer ≡ Granted block change
    → Failed ts × (judged h ts o ≡ o)
accepted h o ts q = accepted_made h o ts (accepts (ap (λ (a : Answer). (figures_of a).refusal) q))

-- the block that an answer grants
granted_block_lem : (before : ℕ) (e : Entry) {block : Block} {change : ℤ} → grants before e ≡ Granted block change → block_of e ≡ block.0
granted_block_lem before e q = ap (λ (a : Answer). (figures_of a).offset) q

module _ {ws : List ℕ} {h : Heap} (p : Passes ws h) {block : Block} {change : ℤ} where
  -- a new block; `fill` is written into it
  module _ (fill : Entry → List Store) (within : (e : Entry) → Within e (fill e)) (z : ℕ) (q : (allocate_with fill ws h z).answer ≡ Granted block change) where
    abbrev pub n : ℕ
    n = need overhead z

    abbrev pub made_of : Outcome
    made_of = made (grants 0 (grant n (as_read ws h)).granted) (also_writes (fill (grant n (as_read ws h)).granted) (grant n (as_read ws h)).draft)

    taken : Failed (allocate_refusals (heap_fails ws h) (as_read ws h) z) × (allocate_with fill ws h z ≡ made_of)
    taken = accepted h made_of (allocate_refusals (heap_fails ws h) (as_read ws h) z) q

    -- some chunk can serve the need
    pub grantable : Grantable ws h n
    grantable = let (_, (_, (some, _))) = taken.0 in need_grantable z p some

    -- the block is the one that the rule grants
    pub block_is : block_of (grant n (as_read ws h)).granted ≡ block.0
    block_is = granted_block_lem 0 (grant n (as_read ws h)).granted (sym (ap (λ (o : Outcome). o.answer) taken.1) ∙ q)

    -- and what holds of what the rule's draft leaves holds of what the call leaves
    pub granted_left : (P : ℕ → Left → Type 0) → P (block_of (grant n (as_read ws h)).granted) (left_by ws made_of) → P block.0 (left_by ws (allocate_with fill ws h z))
    granted_left P t = rw (taken.1, ← block_is) t

    with_apart : NewApart ws h n block.0 (left_by ws (allocate_with fill ws h z))
    with_apart = granted_left (NewApart ws h n) (new_apart grantable (fill (grant n (as_read ws h)).granted) (within _) made_of.answer)

  -- a cleared block
  cleared_clear : (z : ℕ) → (allocate_with cleared ws h z).answer ≡ Granted block change → Clear block.0 (left_by ws (allocate_with cleared ws h z))
  cleared_clear z q = granted_left cleared cleared_within z q Clear (new_clear (grantable cleared cleared_within z q))

-- the live block at b, whose chunk is e
module _ {ws : List ℕ} {h : Heap} (p : Passes ws h) {b : ℕ} {e : Entry} (k : HoldsBlock ws h b e) where
  some_block : b ≢ 0
  some_block q = omega arith

  pub is_live_lem : is_live (as_read ws h) b ≡ true
  is_live_lem = (live_iff ws h b).1 (e, k)

  -- what freeing it leaves
  pub free_left : ours (Free b) ws h ≡ left_by ws (made (Returned (change_of (block_spot (as_read ws h) b).here.size 0)) (free_block b (as_read ws h)))
  unfolding ours step free
  free_left = rw ((passes_iff ws h).1 p, ne_eqb b 0 some_block, is_live_lem) refl

  -- the chunk that the rule finds is e
  abbrev pub old : Entry
  old = (block_spot (as_read ws h) b).here

  pub old_holds : HoldsBlock ws h b old
  old_holds = here_holds ws h p b (e, k)

  pub old_is : old ≡ e
  old_is = one_block ws h p b old e old_holds k

  -- it is reallocated
  module _ {block : Block} {change : ℤ} (z : ℕ) (q : (ours (Reallocate b z) ws h).answer ≡ Granted block change) where
    abbrev pub wanted : ℕ
    wanted = need overhead z

    abbrev pub result : Grant
    result = resized ws (block_spot (as_read ws h) b) wanted (as_read ws h)

    abbrev pub outcome : Outcome
    outcome = made (grants old.size result.granted) result.draft

    abbrev tests : Refusals
    tests = resize_refusals (heap_fails ws h) (as_read ws h) b z

    -- what the call leaves: it was accepted
    resize_left : ours (Reallocate b z) ws h ≡ left_by ws (judged h tests outcome)
    unfolding ours step reallocate resize
    resize_left = rw (ne_eqb b 0 some_block) refl

    resize_taken : Failed tests × (judged h tests outcome ≡ outcome)
    resize_taken = accepted h outcome tests (sym (ap (λ (x : Left). x.answer) resize_left) ∙ q)

    -- the size was permitted
    pub size_permitted : permitted z ≡ true
    size_permitted = let (_, (size, _)) = resize_taken.0 in not-false (permitted z) size

    pub resized_left : ours (Reallocate b z) ws h ≡ left_by ws outcome
    resized_left = resize_left ∙ ap (left_by ws) resize_taken.1

    resized_block : block_of result.granted ≡ block.0
    resized_block = granted_block_lem old.size result.granted (sym (ap (λ (x : Left). x.answer) resized_left) ∙ q)

    -- and what holds of what the rule's draft leaves holds of what the call leaves
    pub reallocated_left : (P : ℕ → Left → Type 0) → P (block_of result.granted) (left_by ws outcome) → P block.0 (ours (Reallocate b z) ws h)
    reallocated_left P t = rw (resized_left, ← resized_block) t

    -- it outgrows its chunk and moves
    module _ (less : e.size < wanted) where
      abbrev pub left : Left
      left = ours (Reallocate b z) ws h

      outgrown : old.size < wanted
      outgrown = rw old_is less

      pub moving : Moving ws h wanted old
      moving =
          let (_, (_, (_, (room, _)))) = resize_taken.0 in
          block_moves p b is_live_lem z (rw (lt-ltb old.size wanted outgrown) at room) outgrown

      abbrev pub moves : Grant
      moves = moved ws (block_spot (as_read ws h) b) wanted (as_read ws h)

      moved_is : result ≡ moves
      unfolding resized
      moved_is = rw (lt-ltb old.size wanted outgrown) refl

      -- the block that it becomes
      pub moved_block : block_of moves.granted ≡ block.0
      moved_block = ap (λ (x : Grant). block_of x.granted) (sym moved_is) ∙ resized_block

      -- and what holds of what the rule's move leaves holds of what the call leaves
      abbrev pub left_moved : Left
      left_moved = left_by ws (made (grants old.size moves.granted) moves.draft)

      pub moved_left : (P : ℕ → Left → Type 0) → P (block_of moves.granted) left_moved → P block.0 left
      moved_left P t = reallocated_left P (rw moved_is t)

      -- the promise about a moved block
      abbrev Moved : ℕ → Entry → ℕ → Left → Type 0
      Moved c x d y = New ws h wanted d y × KeepsOthers ws h c y × Gone c y × NoneNewBut ws h d y × SameWords ws c y.words d (block_words x)

      moves_apart : Moved b e block.0 left
      moves_apart =
          moved_left (Moved b e)
          (subst (λ (x : Entry). Moved b x (block_of moves.granted) left_moved) old_is
          (subst (λ (c : ℕ). Moved c old (block_of moves.granted) left_moved) old_holds.block (moved_apart moving (grants old.size moves.granted))))

    -- its chunk has room for it
    module _ (fits : wanted ≤ e.size) where
      -- the promise about a block that stays
      abbrev Stay : Grant → Type 0
      Stay x =
          let left = left_by ws (made (grants old.size x.granted) x.draft) in
          (block_of x.granted ≡ b) × ((y : Entry) × Stays ws wanted b e left.words left.heap y) × KeepsOthers ws h b left × NoneNewBut ws h b left

      -- a tail is split off and given back
      module _ (l : wanted + 24 ≤ old.size) where
        pub shrinking : ShrinkingBlock ws h b wanted
        shrinking = block_shrinks p b is_live_lem z l

        abbrev pub shrinks : Grant
        shrinks = shrunk (block_spot (as_read ws h) b) wanted (as_read ws h)

        abbrev pub shrunk_words : List ℕ
        shrunk_words = written ws shrinks.draft.stores

        shrunk_chain : shape shrunk_words shrinks.draft.heap.bytes ≡ shrinks.draft.chain
        shrunk_chain = (shrink_kept shrinking).chain

        pub shrunk_stays : Stays ws wanted b e shrunk_words shrinks.draft.heap shrinks.granted
        shrunk_stays =
            let t = shrink_there shrinking in
            record {
              held = record { member = rw shrunk_chain t.0; live = t.1; block = old_holds.block };
              enough = omega arith;
              no_more = fits;
              same = λ j r.
                  let i = (inside ws h p old old_holds.member).place in
                  off shrinks.draft.stores ws b j
                  (shrink_spares_own shrinking _ (omega (arith, old_holds.block)) (omega (arith, old_holds.block)));
            }

        shrunk_keeps : (d : Entry) → OnChain ws h d → live h d ≡ true → block_of d ≢ b → Keeps ws shrunk_words shrinks.draft.heap d
        shrunk_keeps d m v o =
            let s = shrink_others_stay shrinking d m v o in
            record {
              held = record { member = rw shrunk_chain s.0; live = s.1; block = refl };
              same = λ j r.
                  let i = inside ws h p d m in
                  off shrinks.draft.stores ws (block_of d) j
                  (shrink_spares shrinking d m v o _ (omega arith) (omega arith));
            }

        shrunk_only : (d : Entry) → OnChain shrunk_words shrinks.draft.heap d → live shrinks.draft.heap d ≡ true
            → (block_of d ≡ b) ⊎ (OnChain ws h d × (live h d ≡ true))
        shrunk_only d m v = go (ℕ_discrete (block_of d) b)
          where
            go : Dec (block_of d ≡ b) → (block_of d ≡ b) ⊎ (OnChain ws h d × (live h d ≡ true))
            go (yes q) = inl q
            go (no o) = inr (shrink_none_new shrinking d (rw shrunk_chain at m) v o)

      -- nothing changes
      same_stays : Stay (record { granted = old; draft = as_read ws h })
      unfolding as_read
      same_stays = (
        old_holds.block,
        (old, record { held = old_holds; enough = rw old_is fits; no_more = rw old_is (omega arith); same = λ j r. refl }),
        (λ d m v o. kept_still ws h d m v),
        λ d m v. inr (m, v),
      )

      result_stays : Stay result
      result_stays =
          let f : wanted ≤ old.size = rw old_is fits in
          resized_so Stay ws (block_spot (as_read ws h) b) wanted (as_read ws h) (λ less. absurd (omega arith))
          (λ l. (old_holds.block, ((shrinks l).granted, shrunk_stays l), shrunk_keeps l, shrunk_only l)) same_stays

      stays_apart : let left = ours (Reallocate b z) ws h in
          (block.0 ≡ b) × ((y : Entry) × Stays ws wanted b e left.words left.heap y) × KeepsOthers ws h b left × NoneNewBut ws h b left
      stays_apart = let (place, stays, keeps, none) = result_stays in rw resized_left (sym resized_block ∙ place, stays, keeps, none)

-- a block that was reallocated was live
pub was_live : {ws : List ℕ} {h : Heap} (b z : ℕ) {block : Block} {change : ℤ} → b ≢ 0 → (ours (Reallocate b z) ws h).answer ≡ Granted block change
    → (e : Entry) × HoldsBlock ws h b e
unfolding ours step reallocate resize
was_live {ws} {h} b z some q =
    let (_, (_, (l, _))) = (accepted h (resized_to ws (as_read ws h) b z) (resize_refusals (heap_fails ws h) (as_read ws h) b z) (rw (ne_eqb b 0 some) at q)).0 in
    (live_iff ws h b).0 (not-false (is_live (as_read ws h) b) l)

-- where nothing is written every live block is kept, and none is new
still : (ws : List ℕ) (h : Heap) → KeepsAll ws h (left_by ws (unchanged h Done)) × NoneNew ws h (left_by ws (unchanged h Done))
still ws h = (kept_still ws h, λ e m l. (m, l))

module _ (ws : List ℕ) (h : Heap) (p : Passes ws h) where
  -- a run of the patrol moves its place alone
  patrol_looks : (f : ℕ) → KeepsAll ws h (left_by ws (patrol ws h f)) × NoneNew ws h (left_by ws (patrol ws h f))
  patrol_looks f =
      patrol_so ws h p (λ o. KeepsAll ws h (left_by ws o) × NoneNew ws h (left_by ws o)) (λ r. still ws h)
      (λ c t there. still ws (with_patrol h c)) f

  look : (call : Call) → only_looks call ≡ true → KeepsAll ws h (ours call ws h) × NoneNew ws h (ours call ws h)
  unfolding ours step set_merge check ask_chunk ask_bin free as_read
  look (Setup table donor merge) q = absurd (false≢true q)
  look (Allocate z) q = absurd (false≢true q)
  look (AllocateCleared count size) q = absurd (false≢true q)
  look (Free b) q = rw ((passes_iff ws h).1 p, q) (still ws h)
  look (Reallocate b z) q = absurd (false≢true q)
  look (SetMerge on) q = rw ((passes_iff ws h).1 p) (still ws (with_merge h on))
  look Check q = still ws h
  look (AskChunk question place) q = rw (unchanged_judged h _ _) (still ws h)
  look (AskBin question i) q = rw (unchanged_judged h _ _) (still ws h)
  look (Patrol f) q = patrol_looks f

-- a refused call gives the record as it came
came : (call : Call) (h : Heap) → is_setup call ≡ false → refused_record call h ≡ h
came (Setup table donor merge) h q = absurd (true≢false q)
came (Allocate z) h q = refl
came (AllocateCleared count size) h q = refl
came (Free b) h q = refl
came (Reallocate b z) h q = refl
came (SetMerge on) h q = refl
came Check h q = refl
came (AskChunk question place) h q = refl
came (AskBin question i) h q = refl
came (Patrol f) h q = refl

module _ {ws : List ℕ} {h : Heap} (p : Passes ws h) {block : Block} {change : ℤ} where
  allocated : (z : ℕ) → (ours (Allocate z) ws h).answer ≡ Granted block change
      → NewApart ws h (need overhead z) block.0 (ours (Allocate z) ws h)
  unfolding ours step allocate
  allocated z q = with_apart p as_found (λ e. tt) z q

  reallocated : (z : ℕ) → (ours (Reallocate 0 z) ws h).answer ≡ Granted block change
      → NewApart ws h (need overhead z) block.0 (ours (Reallocate 0 z) ws h)
  unfolding ours step reallocate allocate
  reallocated z q = with_apart p as_found (λ e. tt) z q

  cleared_apart : (count size : ℕ) → let left = ours (AllocateCleared count size) ws h in
      left.answer ≡ Granted block change
      → New ws h (need overhead (count * size)) block.0 left × KeepsAll ws h left × NoneNewBut ws h block.0 left × Clear block.0 left
  unfolding ours step allocate_cleared
  cleared_apart count size q =
      let (new, keeps, none) = with_apart p cleared cleared_within (count * size) q in
      (new, keeps, none, cleared_clear p (count * size) q)

pub apart : Apart ours
apart ws h p =
    record {
      allocate = λ z block change q. allocated p z q;
      cleared = λ count size block change q. cleared_apart p count size q;
      no_block = λ z block change q. reallocated p z q;
      moved = λ b z block change e k l q. moves_apart p k z q l;
      stays = λ b z block change e k l q. stays_apart p k z q l;
      free = λ b e k. rw (free_left p k) (others_kept ws h p b (is_live_lem p k), none_others ws h p b (is_live_lem p k));
      looks = look ws h p;
      refused = λ call s r q.
          rw (refusing.heap call ws h r q ∙ came call h s, refusing.words call ws h r q) (still ws h);
    }
