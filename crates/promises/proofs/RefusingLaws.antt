-- Every call is refused exactly with the first number whose reason holds, and a refused call changes nothing (`refusing`).
-- The tests of the calls about blocks are in `BlockReasons`, those of the patrol in `PatrolReasons`. Assumes nothing.
use mathlib.Core.Path.{◌≡◌, refl, sym, ap, ◌∙◌}
use mathlib.Core.Logic.{◌↔◌}
use mathlib.Core.Bool.{Bool, true, false, not, cond, ◌&&◌, ◌||◌, false≢true}
use mathlib.Core.List.{List, [], ◌∷◌}
use Rattle.std.specs.Prelude.{Option}
use Prim.Native.Nat.{ℕ}
use native.Mathlib.Omega.{arith}
use lib.Dec.{leb, ltb}
use lib.ListN.{length}
use Rattle.lists.specs.Lists.{Mem}
use Rattle.lists.proofs.ListsLaws.{Decides, less, meaning, or_else, denied}
use Rattle.record.specs.declared.answers.Answer.TheVariants.{Done, Counted, Refused}
use Rattle.record.specs.declared.answers.Refusal.{Refusal}
use Rattle.record.specs.declared.answers.Refusal.TheVariants.{RegionLength, BadTable, DonorSize, HeapFails, NotThere}
use Rattle.record.specs.declared.heap.Heap.{Heap}
use Rattle.record.specs.Answers.{figures_of}
use Rattle.record.specs.Heap.{with_merge}
use Rattle.record.specs.Table.{valid_table}
use Rattle.record.proofs.TableLaws.{valid_iff}
use Rattle.region.specs.Words.{written}
use Rattle.rules.specs.Shape.{shape, heap_bytes}
use Rattle.rules.specs.Check.{passes, counts_of}
use Rattle.rules.specs.Draft.{as_read}
use Rattle.rules.specs.Outcome.{Outcome, unchanged, judged, heap_fails}
use Rattle.rules.specs.Setup.{setup, donor_fits, setup_refusals, opened}
use Rattle.rules.specs.Merge.{set_merge, checked, check}
use Rattle.rules.specs.Ask.{ask_chunk, ask_bin, chunk_answers, asked_spot, is_there, is_asked, bin_answers, ask_refusals, asked}
use Rattle.rules.proofs.AskLaws.{answer_accepted}
use Rattle.rules.specs.Calls.{Call, Setup, Allocate, AllocateCleared, Free, Reallocate, SetMerge, Check, AskChunk, AskBin, Patrol, step}
use Rattle.promises.specs.Ways.{ours}
use Rattle.promises.specs.Refusing.{Because, setup_length, setup_table, setup_donor, fails, ask_no_chunk, ask_no_bin, asks_check, First, refused_record, Refusing}
use Rattle.promises.proofs.JudgedLaws.{accepts, judged_first, judged_keeps, first, second, third, Judging, fails_iff}
use Rattle.promises.proofs.ReasonLaws.{range_iff, there_iff, donor_iff}
use Rattle.promises.proofs.PatrolReasons.{patrol_judged}
use Rattle.promises.proofs.BlockReasons.{allocate_judged, cleared_judged, free_judged, reallocate_judged}

module _ (ws : List ℕ) (h : Heap) where
  merge_judged : (on : Bool) → Judging (SetMerge on) ws h
  unfolding step set_merge
  merge_judged on =
      record {
        tests = heap_fails ws h ∷ [];
        made = unchanged (with_merge h on) Done;
        accepted = accepts refl;
        is = refl;
        rising = omega arith;
        stands = stands;
        decided = (fails_iff ws h (SetMerge on) refl, λ _. tt);
      }
    where
      stands : (r : Refusal) → Because ws h (SetMerge on) r → Mem r (HeapFails ∷ [])
      stands r (fails s n) = first

  check_judged : Judging Check ws h
  unfolding step check checked
  check_judged =
      record {
        tests = heap_fails ws h ∷ [];
        made = unchanged h (Counted (counts_of h (shape ws h.bytes)));
        accepted = accepts refl;
        is = go (passes ws h);
        rising = omega arith;
        stands = stands;
        decided = (fails_iff ws h Check refl, λ _. tt);
      }
    where
      go : (t : Bool)
          → unchanged h (cond t (Counted (counts_of h (shape ws h.bytes))) (Refused HeapFails))
          ≡ judged h ((not t, HeapFails) ∷ []) (unchanged h (Counted (counts_of h (shape ws h.bytes))))
      go true = refl
      go false = refl

      stands : (r : Refusal) → Because ws h Check r → Mem r (HeapFails ∷ [])
      stands r (fails s n) = first

  -- a question q with these answers; `there` says whether what it is about exists
  question_judged : (call : Call) (q : ℕ) (answers : List (Option ℕ)) (there : Bool) → asks_check call ≡ true
      → step call ws h ≡ judged (refused_record call h) (ask_refusals (heap_fails ws h) q answers there) (asked h q answers)
      → Decides (not (is_asked q answers) || not there) (Because ws h call NotThere)
      → ((r : Refusal) → Because ws h call r → Mem r (HeapFails ∷ NotThere ∷ [])) → Judging call ws h
  question_judged call q answers there other is misses stands =
      record {
        tests = ask_refusals (heap_fails ws h) q answers there;
        made = asked h q answers;
        accepted = accepts (answer_accepted q answers);
        is = is;
        rising = omega arith;
        stands = stands;
        decided = (fails_iff ws h call other, λ _. (misses, λ _. tt));
      }

  chunk_judged : (q p : ℕ) → Judging (AskChunk q p) ws h
  unfolding step ask_chunk
  chunk_judged q p =
      let d = as_read ws h in
      question_judged (AskChunk q p) q (chunk_answers d (asked_spot d q p)) (is_there d q p) refl refl misses stands
    where
      misses : Decides (not (leb 1 q && leb q 9) || not (is_there (as_read ws h) q p)) (Because ws h (AskChunk q p) NotThere)
      misses =
          meaning
          (or_else (range_iff 9 q) (meaning (denied (there_iff ws h q p)) (λ n e k. n (e, k)) (λ f (e, k). f e k)))
          (λ w. ask_no_chunk w) (λ k. elim k [ ask_no_chunk w ↦ w ])

      stands : (r : Refusal) → Because ws h (AskChunk q p) r → Mem r (HeapFails ∷ NotThere ∷ [])
      stands r (fails s n) = first
      stands r (ask_no_chunk w) = second

  bin_judged : (q i : ℕ) → Judging (AskBin q i) ws h
  unfolding step ask_bin
  bin_judged q i = question_judged (AskBin q i) q (bin_answers ((as_read ws h).lists i)) (ltb i h.bins) refl refl misses stands
    where
      misses : Decides (not (leb 1 q && leb q 3) || not (ltb i h.bins)) (Because ws h (AskBin q i) NotThere)
      misses =
          meaning
          (or_else (range_iff 3 q) (meaning (denied (less i h.bins)) (λ n. omega arith) (λ l k. omega arith)))
          (λ w. ask_no_bin w) (λ k. elim k [ ask_no_bin w ↦ w ])

      stands : (r : Refusal) → Because ws h (AskBin q i) r → Mem r (HeapFails ∷ NotThere ∷ [])
      stands r (fails s n) = first
      stands r (ask_no_bin w) = second

  setup_judged : (table : List ℕ) (donor : ℕ) (merge : Bool) → Judging (Setup table donor merge) ws h
  unfolding step setup
  setup_judged table donor merge =
      record {
        tests = setup_refusals ws table donor;
        made = opened (heap_bytes (length ws)) table donor merge;
        accepted = accepts refl;
        is = refl;
        rising = omega arith;
        stands = stands;
        decided = (lengths, λ _. (tables, λ _. (donors, λ _. tt)));
      }
    where
      lengths : Decides (ltb (length ws) 10 || ltb 16384 (length ws)) (Because ws h (Setup table donor merge) RegionLength)
      lengths = meaning (or_else (less (length ws) 10) (less 16384 (length ws))) (λ w. setup_length w) (λ k. elim k [ setup_length w ↦ w ])

      tables : Decides (not (valid_table table)) (Because ws h (Setup table donor merge) BadTable)
      tables = meaning (denied (valid_iff table)) (λ w. setup_table w) (λ k. elim k [ setup_table w ↦ w ])

      donors : Decides (not (donor_fits (heap_bytes (length ws)) donor)) (Because ws h (Setup table donor merge) DonorSize)
      donors = meaning (donor_iff ws donor) (λ w. setup_donor w) (λ k. elim k [ setup_donor w ↦ w ])

      stands : (r : Refusal) → Because ws h (Setup table donor merge) r → Mem r (RegionLength ∷ BadTable ∷ DonorSize ∷ [])
      stands r (fails s n) = absurd (false≢true s)
      stands r (setup_length w) = first
      stands r (setup_table w) = second
      stands r (setup_donor w) = third

  -- every call is a list of tests before an acceptance
  judging : (call : Call) → Judging call ws h
  judging (Setup table donor merge) = setup_judged table donor merge
  judging (Allocate z) = allocate_judged ws h z
  judging (AllocateCleared count size) = cleared_judged ws h count size
  judging (Free b) = free_judged ws h b
  judging (Reallocate b z) = reallocate_judged ws h b z
  judging (SetMerge on) = merge_judged on
  judging Check = check_judged
  judging (AskChunk q p) = chunk_judged q p
  judging (AskBin q i) = bin_judged q i
  judging (Patrol f) = patrol_judged ws h f

-- the refusal that is given is the first whose reason holds
ours_first : (call : Call) (ws : List ℕ) (h : Heap) (r : Refusal) → ((ours call ws h).answer ≡ Refused r) ↔ First ws h call r
unfolding ours
ours_first call ws h r =
    let j = judging ws h call in
    let f = judged_first (Because ws h call) (refused_record call h) j.made j.accepted 0 j.tests j.rising j.stands j.decided r in
    rw j.is
    (λ e. let k = f.0 e in record { because = k.0; before = k.1 }, λ k. f.1 (k.because, k.before))

-- a refusal gives the record as it came, setup an empty one, and writes no word
ours_keeps : (call : Call) (ws : List ℕ) (h : Heap) (r : Refusal) → (ours call ws h).answer ≡ Refused r
    → ((ours call ws h).heap ≡ refused_record call h) × ((ours call ws h).words ≡ ws)
unfolding ours
ours_keeps call ws h r e =
    let j = judging ws h call in
    let k = judged_keeps (Because ws h call) (refused_record call h) j.made j.accepted j.tests r (sym (ap (λ (o : Outcome). o.answer) j.is) ∙ e) in (
      ap (λ (o : Outcome). o.heap) j.is ∙ k.0,
      ap (λ (o : Outcome). written ws o.stores) j.is ∙ ap (written ws) k.1,
    )

pub refusing : Refusing ours
refusing =
    record {
      exactly = ours_first;
      figures = λ call ws h r e. ap figures_of e;
      heap = λ call ws h r e. (ours_keeps call ws h r e).0;
      words = λ call ws h r e. (ours_keeps call ws h r e).1;
    }
