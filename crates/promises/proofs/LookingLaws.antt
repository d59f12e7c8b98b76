-- The rules keep the promise `Looking` (`looking`): the check, the questions and free of block 0 change nothing, refused or not; the merge setting
-- changes that field alone. Assumes nothing.
use mathlib.Core.Path.{◌≡◌, refl, ap}
use mathlib.Core.Bool.{Bool, true, false≢true}
use mathlib.Core.List.{List, [], ◌∷◌}
use Prim.Native.Nat.{ℕ}
use Rattle.record.specs.declared.answers.Answer.TheVariants.{Done}
use Rattle.record.specs.declared.heap.Heap.{Heap}
use Rattle.record.specs.Heap.{with_merge}
use Rattle.region.specs.Words.{written}
use Rattle.rules.specs.Draft.{as_read}
use Rattle.rules.specs.Outcome.{Outcome, unchanged, heap_fails}
use Rattle.rules.specs.Free.{free}
use Rattle.rules.specs.Merge.{set_merge, check}
use Rattle.rules.specs.Ask.{ask_chunk, ask_bin}
use Rattle.rules.specs.Calls.{Call, Setup, Allocate, AllocateCleared, Free, Reallocate, SetMerge, Check, AskChunk, AskBin, Patrol, step}
use Rattle.rules.proofs.OutcomeLaws.{judged_so}
use Rattle.promises.specs.Ways.{ours}
use Rattle.promises.specs.Kept.{Accepted}
use Rattle.promises.specs.Looking.{only_asks, Looking}
use Rattle.promises.proofs.JudgedLaws.{accepted_made, unchanged_judged}

-- a call that only asks is an answer, and nothing else
only_answers : (call : Call) → only_asks call ≡ true → (ws : List ℕ) (h : Heap) → step call ws h ≡ unchanged h (step call ws h).answer
unfolding step free check ask_chunk ask_bin as_read
only_answers (Setup table donor merge) q ws h = absurd (false≢true q)
only_answers (Allocate z) q ws h = absurd (false≢true q)
only_answers (AllocateCleared count size) q ws h = absurd (false≢true q)
only_answers (Free b) q ws h = rw (q, unchanged_judged h _ _)
only_answers (Reallocate b z) q ws h = absurd (false≢true q)
only_answers (SetMerge on) q ws h = absurd (false≢true q)
only_answers Check q ws h = refl
only_answers (AskChunk question place) q ws h = rw (unchanged_judged h _ _)
only_answers (AskBin question i) q ws h = rw (unchanged_judged h _ _)
only_answers (Patrol f) q ws h = absurd (false≢true q)

-- the merge setting, if it is accepted
sets : (on : Bool) (ws : List ℕ) (h : Heap) → Accepted (ours (SetMerge on) ws h).answer → (ours (SetMerge on) ws h).heap ≡ with_merge h on
unfolding ours step set_merge
sets on ws h a = ap (λ (o : Outcome). o.heap) (accepted_made h (unchanged (with_merge h on) Done) (heap_fails ws h ∷ []) a).1

-- it writes no word, accepted or not
sets_no_word : (on : Bool) (ws : List ℕ) (h : Heap) → (ours (SetMerge on) ws h).words ≡ ws
unfolding ours step set_merge
sets_no_word on ws h =
    judged_so (λ o. written ws o.stores ≡ ws) h (unchanged (with_merge h on) Done) (heap_fails ws h ∷ []) (λ r. refl) (λ _. refl)

pub looking : Looking ours
unfolding ours
looking =
    record {
      heap = λ call q ws h. ap (λ (o : Outcome). o.heap) (only_answers call q ws h);
      words = λ call q ws h. ap (λ (o : Outcome). written ws o.stores) (only_answers call q ws h);
      setting = sets;
      setting_words = sets_no_word;
    }
