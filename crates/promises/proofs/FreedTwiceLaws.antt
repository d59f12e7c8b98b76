-- A block that was freed is not live again until a call grants one there: this is kept along a run, by every way that keeps `Refusing`, `Apart`, `Kept`,
-- `Answering` and `Fresh`. So such a way keeps the promise `FreedTwice` (`freed_twice_from`), and the rules do (`freed_twice_refused`). Assumes nothing.
use Rattle.std.specs.Prelude.{Some, None}
use mathlib.Core.Path.{◌≡◌, refl, sym, ap, subst, ◌∙◌}
use mathlib.Core.Logic.{◌≢◌, ◌⊎◌, inl, inr}
use mathlib.Core.Bool.{Bool, true, false, false≢true}
use mathlib.Core.List.{List, [], ◌∷◌}
use Prim.Native.Nat.{ℕ, ◌<◌}
use native.Mathlib.Decide.{ℕ_discrete, dec_lt}
use native.Mathlib.Omega.{arith}
use lib.IntN.{ℤ}
use borrow.Author.Tests.{eq-eqb}
use Rattle.record.specs.declared.answers.Answer.{Answer}
use Rattle.record.specs.declared.answers.Answer.TheVariants.{Done, Granted, Returned, Told, Counted, Refused}
use Rattle.record.specs.declared.answers.Refusal.{Refusal}
use Rattle.record.specs.declared.heap.Heap.{Heap}
use Rattle.region.specs.declared.Block.{Block}
use Rattle.rules.specs.Shape.{Entry}
use Rattle.rules.specs.Kinds.{live, overhead, block_of}
use Rattle.rules.specs.Check.{Passes}
use Rattle.rules.specs.Serve.{need}
use Rattle.rules.specs.Statements.{Left}
use Rattle.rules.specs.Calls.{Call, Setup, Allocate, AllocateCleared, Free, Reallocate, SetMerge, Check, AskChunk, AskBin, Patrol, State, record_after}
use Rattle.promises.specs.Ways.{Way, ours}
use Rattle.promises.specs.Room.{OnChain, HoldsBlock}
use Rattle.promises.specs.Refusing.{Refusing}
use Rattle.promises.specs.Kept.{Passing, Accepted, after, Kept}
use Rattle.promises.specs.Apart.{Gone, NoneNew, NoneNewBut, only_looks, Apart}
use Rattle.promises.specs.Answering.{Form, JustDone, ABlock, AChange, AValue, FourCounts, ARefusal, form_of, Answering}
use Rattle.promises.specs.Fresh.{Fresh}
use Rattle.promises.specs.Runs.{Step, Calls, Writes, after_step, MayStep, IsRun}
use Rattle.promises.specs.FreedTwice.{GrantsElsewhere, NeverGranted, after_run, FreedTwice}
use Rattle.promises.proofs.JudgedLaws.{accepts}
use Rattle.promises.proofs.RefusedLaws.{free_refused, freed_held, resized_held}
use Rattle.promises.proofs.FreshHeapLaws.{none_live, fresh_heap}
use Rattle.promises.proofs.AnsweringLaws.{answering}
use Rattle.promises.proofs.KeptLaws.{stores_read, kept}
use Rattle.promises.proofs.RefusingLaws.{refusing}
use Rattle.promises.proofs.ApartLaws.{apart}

-- an answer is a refusal, or accepted
refused_or_not : (a : Answer) → ((r : Refusal) × (a ≡ Refused r)) ⊎ Accepted a
refused_or_not Done = inr (accepts refl)
refused_or_not (Granted block change) = inr (accepts refl)
refused_or_not (Returned change) = inr (accepts refl)
refused_or_not (Told (Some value)) = inr (accepts refl)
refused_or_not (Told None) = inr (accepts refl)
refused_or_not (Counted counts) = inr (accepts refl)
refused_or_not (Refused r) = inl (r, refl)

-- after an accepted call the record is the new one
new_record : (h g : Heap) (a : Answer) → Accepted a → record_after h g a ≡ g
new_record h g Done n = refl
new_record h g (Granted block change) n = refl
new_record h g (Returned change) n = refl
new_record h g (Told (Some value)) n = refl
new_record h g (Told None) n = refl
new_record h g (Counted counts) n = refl
new_record h g (Refused r) n = absurd (n r refl)

-- an answer in the form of a block grants one
is_block : Form → Bool
is_block JustDone = false
is_block ABlock = true
is_block AChange = false
is_block AValue = false
is_block FourCounts = false
is_block ARefusal = false

grants_block : (a : Answer) → form_of a ≡ ABlock → (block : Block) × (change : ℤ) × (a ≡ Granted block change)
unfolding is_block
grants_block Done q = absurd (false≢true (ap is_block q))
grants_block (Granted block change) q = (block, change, refl)
grants_block (Returned change) q = absurd (false≢true (ap is_block q))
grants_block (Told (Some value)) q = absurd (false≢true (ap is_block q))
grants_block (Told None) q = absurd (false≢true (ap is_block q))
grants_block (Counted counts) q = absurd (false≢true (ap is_block q))
grants_block (Refused r) q = absurd (false≢true (ap is_block q))

-- no live block is at b
abbrev NoneAt : ℕ → List ℕ → Heap → Type 0
NoneAt b ws h = (e : Entry) → HoldsBlock ws h b e → ⊥

-- where no block was live at b, and all live ones are old, none is at b; nor if one is new and elsewhere
module _ (ws : List ℕ) (h : Heap) (b : ℕ) (none : NoneAt b ws h) (left : Left) where
  old_none : (e : Entry) → HoldsBlock left.words left.heap b e → OnChain ws h e → live h e ≡ true → ⊥
  old_none e k m l = none e (record { member = m; live = l; block = k.block })

  none_new : NoneNew ws h left → Gone b left
  none_new f e k = let (m, l) = f e k.member k.live in old_none e k m l

  none_but : (c : ℕ) → c ≢ b → NoneNewBut ws h c left → Gone b left
  none_but c n f e k = go (f e k.member k.live)
    where
      go : (block_of e ≡ c) ⊎ (OnChain ws h e × (live h e ≡ true)) → ⊥
      go (inl q) = n (sym q ∙ k.block)
      go (inr (m, l)) = old_none e k m l

module _ (way : Way) (refuses : Refusing way) (keeps_apart : Apart way) (keeps : Kept way) (answers : Answering way) (opens : Fresh way) (b : ℕ) where
  -- a call on a heap that passes, where no live block is at b
  module _ (ws : List ℕ) (h : Heap) (p : Passes ws h) (none : NoneAt b ws h) where
    -- it grants no block there
    abbrev Elsewhere : Call → Type 0
    Elsewhere call = (block : Block) (change : ℤ) → (way call ws h).answer ≡ Granted block change → block.0 ≢ b

    -- a call that neither grants nor frees
    looked_gone : (call : Call) → only_looks call ≡ true → Gone b (way call ws h)
    looked_gone call q = none_new ws h b none (way call ws h) ((keeps_apart ws h p).looks call q).1

    -- an accepted free, of block 0 or of a live block
    freed_gone : (c : ℕ) → Accepted (way (Free c) ws h).answer → Gone b (way (Free c) ws h)
    freed_gone c a = go (ℕ_discrete c 0)
      where
        go : Dec (c ≡ 0) → Gone b (way (Free c) ws h)
        go (yes z) = looked_gone (Free c) (eq-eqb c 0 z)
        go (no n) =
            let (e, k) = freed_held way refuses p c n a in
            λ d j. let (m, l, _) = ((keeps_apart ws h p).free c e k).1 d j.member j.live in old_none ws h b none (way (Free c) ws h) d j m l

    -- block 0 is reallocated; a live block gets another size, and moves or stays
    reallocated_gone : (z : ℕ) (block : Block) (change : ℤ) → block.0 ≢ b → (way (Reallocate 0 z) ws h).answer ≡ Granted block change
        → Gone b (way (Reallocate 0 z) ws h)
    reallocated_gone z block change n q =
        let (_, _, only) = (keeps_apart ws h p).no_block z block change q in
        none_but ws h b none (way (Reallocate 0 z) ws h) block.0 n only

    resized_gone : (c z : ℕ) (block : Block) (change : ℤ) → block.0 ≢ b → (way (Reallocate c z) ws h).answer ≡ Granted block change
        → (e : Entry) → HoldsBlock ws h c e → Gone b (way (Reallocate c z) ws h)
    resized_gone c z block change n q e k = go (dec_lt e.size (need overhead z))
      where
        go : Dec (e.size < need overhead z) → Gone b (way (Reallocate c z) ws h)
        go (yes l) =
            let (_, _, _, only, _) = (keeps_apart ws h p).moved c z block change e k l q in
            none_but ws h b none (way (Reallocate c z) ws h) block.0 n only
        go (no l) =
            let (place, _, _, only) = (keeps_apart ws h p).stays c z block change e k (omega arith) q in
            none_but ws h b none (way (Reallocate c z) ws h) c (λ s. n (place ∙ s)) only

    -- each call, if it is accepted
    gone : (call : Call) → Accepted (way call ws h).answer → Elsewhere call → Gone b (way call ws h)
    gone (Setup table donor merge) a n =
        λ e k. false≢true (sym (none_live (opens table donor merge ws h a) e k.member) ∙ k.live)
    gone (Allocate z) a n =
        let (block, change, q) = grants_block (way (Allocate z) ws h).answer (answers.form (Allocate z) ws h a) in
        let (_, _, only) = (keeps_apart ws h p).allocate z block change q in
        none_but ws h b none (way (Allocate z) ws h) block.0 (n block change q) only
    gone (AllocateCleared count size) a n =
        let (block, change, q) = grants_block (way (AllocateCleared count size) ws h).answer (answers.form (AllocateCleared count size) ws h a) in
        let (_, _, only, _) = (keeps_apart ws h p).cleared count size block change q in
        none_but ws h b none (way (AllocateCleared count size) ws h) block.0 (n block change q) only
    gone (Free c) a n = freed_gone c a
    gone (Reallocate c z) a n =
        let (block, change, q) = grants_block (way (Reallocate c z) ws h).answer (answers.form (Reallocate c z) ws h a) in
        go block change (n block change q) q (ℕ_discrete c 0)
      where
        go : (block : Block) (change : ℤ) → block.0 ≢ b → (way (Reallocate c z) ws h).answer ≡ Granted block change → Dec (c ≡ 0)
            → Gone b (way (Reallocate c z) ws h)
        go block change n q (yes zero) =
            subst (λ (x : ℕ). (way (Reallocate x z) ws h).answer ≡ Granted block change → Gone b (way (Reallocate x z) ws h)) (sym zero)
            (reallocated_gone z block change n) q
        go block change n q (no some) = let (e, k) = resized_held way refuses p c z some a in resized_gone c z block change n q e k
    gone (SetMerge on) a n = looked_gone (SetMerge on) refl
    gone Check a n = looked_gone Check refl
    gone (AskChunk q c) a n = looked_gone (AskChunk q c) refl
    gone (AskBin q i) a n = looked_gone (AskBin q i) refl
    gone (Patrol f) a n = looked_gone (Patrol f) refl

  -- a state that passes, with no live block at b
  record Freed (s : State) : Type 0 where
    passing : Passing s
    none : NoneAt b s.words s.heap

  -- a refused call leaves the state as it was; an accepted one leaves what it made
  call_none : (call : Call) (s : State) → Freed s → GrantsElsewhere way b (Calls call) s → NoneAt b (after way call s).words (after way call s).heap
  call_none call s f n = go (refused_or_not (way call s.words s.heap).answer)
    where
      go : ((r : Refusal) × ((way call s.words s.heap).answer ≡ Refused r)) ⊎ Accepted (way call s.words s.heap).answer
          → NoneAt b (after way call s).words (after way call s).heap
      go (inl (r, q)) = rw (refuses.words call s.words s.heap r q, q) f.none
      go (inr a) =
          rw (new_record s.heap (way call s.words s.heap).heap (way call s.words s.heap).answer a)
          (gone s.words s.heap f.passing f.none call a n)

  step_freed : (x : Step) (s : State) → MayStep x s → GrantsElsewhere way b x s → Freed s → Freed (after_step way x s)
  step_freed (Calls call) s m n f = record { passing = keeps.calls call s f.passing; none = call_none call s f n }
  step_freed (Writes ss) s m n f =
      let (p, same) = stores_read ss s f.passing m in
      record { passing = p; none = λ e k. f.none e (record { member = rw same at k.member; live = k.live; block = k.block }) }

  -- along a run that grants no block at b
  run_freed : (xs : List Step) (s : State) → IsRun way xs s → NeverGranted way b xs s → Freed s → Freed (after_run way xs s)
  run_freed [] s r n f = f
  run_freed (x ∷ xs) s r n f = run_freed xs (after_step way x s) r.1 n.1 (step_freed x s r.0 n.0 f)

  -- it begins when the block was freed
  begins_freed : (s : State) → Passing s → b ≢ 0 → Accepted (way (Free b) s.words s.heap).answer → Freed (after way (Free b) s)
  begins_freed s p some a =
      let (e, k) = freed_held way refuses p b some a in
      let others = ((keeps_apart s.words s.heap p).free b e k).1 in
      record {
        passing = keeps.calls (Free b) s p;
        none =
            rw (new_record s.heap (way (Free b) s.words s.heap).heap (way (Free b) s.words s.heap).answer a)
            (λ d j. (others d j.member j.live).2 j.block);
      }

pub freed_twice_from : (way : Way) → Refusing way → Apart way → Kept way → Answering way → Fresh way → FreedTwice way
freed_twice_from way refuses keeps_apart keeps answers opens s p b some a xs r n =
    let begun = begins_freed way refuses keeps_apart keeps answers opens b s p some a in
    let f = run_freed way refuses keeps_apart keeps answers opens b xs (after way (Free b) s) r n begun in
    free_refused way refuses f.passing b (omega arith, f.none)

pub freed_twice_refused : FreedTwice ours
freed_twice_refused = freed_twice_from ours refusing apart kept answering fresh_heap
