-- What a call leaves to C, from what its steps ensure: the reply's words, and the rule's outcome. Assumes nothing.
use mathlib.Core.Path.{◌≡◌, refl, sym, ap, ◌∙◌}
use mathlib.Core.Logic.{◌≢◌}
use mathlib.Core.Bool.{Bool, true, false, cond}
use mathlib.Core.List.{List}
use Rattle.std.proofs.Common.{Option}
use Prim.Native.Nat.{ℕ, ◌<◌, ◌≤◌}
use lib.Dec.{eqb, leb, ltb}
use lib.ListN.{length, get_or, set, take, drop}
use lib.Seq.{set-get_or}
use Rattle.std.specs.Prelude.{Ok, Err}
use borrow.Author.Tests.{le-leb, lt-leb}
use Rattle.record.specs.declared.answers.Answer.{Answer}
use Rattle.record.specs.declared.answers.Answer.TheVariants.{Done, Granted, Returned, Told, Counted, Refused}
use Rattle.record.specs.declared.answers.Counts.{Counts}
use Rattle.record.specs.declared.answers.Refusal.{Refusal}
use Rattle.record.specs.declared.answers.Refusal.TheVariants.{HeapFails}
use Rattle.record.specs.declared.answers.Reply.{Reply}
use Rattle.record.specs.declared.heap.Heap.{Heap}
use Rattle.record.specs.declared.heap.Summary.{Summary}
use Rattle.record.specs.Heap.{places, record_of, summary_of}
use Rattle.record.proofs.AnswersLaws.{not_nine}
use Rattle.rules.specs.Ask.{chunk_answers, bin_answers, asked_spot, is_there, ask_refusals, asked, ask_chunk, ask_bin}
use Rattle.rules.specs.Draft.{as_read}
use Rattle.rules.specs.Merge.{check}
use Rattle.rules.specs.Outcome.{Outcome, Refusals, judged, heap_fails}
use Rattle.rules.specs.Statements.{Left, left_by, Meets}
use Rattle.audit.specs.Audit.{AuditIs, answer_of}
use Rattle.audit.proofs.AuditMeaning.{answer_is}
use Rattle.heap.proofs.CallLaws.{checks}
use Rattle.patrol.specs.declared.Toured.{Toured}
use Rattle.patrol.specs.Tours.{leaving}
use Rattle.rules.proofs.OutcomeLaws.{judged_so}
use Rattle.abi.specs.Flat.{merge_place, sizes_from, heads_from, tails_from, patrol_place, record_words, record_in, record_out, answer_out, refusal_out}
use Rattle.abi.specs.Handed.{Handed, handed, answering, handed_by, opened_by, patrolled_by, flat_after}
use Rattle.abi.proofs.FlatLaws.{parts_are}
use Rattle.abi.proofs.BackLaws.{back_and_flat}

-- the first word is what the call returns
pub refusal_first : (a : Answer) → get_or (answer_out a) 0 0 ≡ refusal_out a
unfolding answer_out
refusal_first Done = refl
refusal_first (Granted block change) = refl
refusal_first (Returned change) = refl
refusal_first (Told value) = refl
refusal_first (Counted counts) = refl
refusal_first (Refused refusal) = refl

-- no function returns 9. What each of the ten returns is `handed_by`, `opened_by` or `patrolled_by`
module _ (ws rs : List ℕ) (o : Outcome) where
  pub handed_not_nine : (handed_by ws rs o).refusal ≢ 9
  unfolding handed_by
  handed_not_nine = by (leb (get_or rs merge_place 0) 1) _ _ (not_nine (left_by ws o).answer) (not_nine (Refused HeapFails))
    where
      by : (t : Bool) (x y : Handed) → x.refusal ≢ 9 → y.refusal ≢ 9 → (cond t x y).refusal ≢ 9
      by true x y f g = f
      by false x y f g = g

  pub opened_not_nine : (opened_by ws o).refusal ≢ 9
  unfolding opened_by
  opened_not_nine = not_nine (left_by ws o).answer

  pub patrolled_not_nine : (patrolled_by ws rs o).refusal ≢ 9
  unfolding patrolled_by
  patrolled_not_nine = not_nine (left_by ws o).answer

-- a damaged merge word
pub refuses_merge_word : {ws rs : List ℕ} (o : Outcome) {r : ℕ} {five : List ℕ} → 1 < get_or rs merge_place 0 → (r ≡ 4) × (five ≡ answer_out (Refused HeapFails))
    → handed r five rs ws ≡ handed_by ws rs o
unfolding handed_by
refuses_merge_word o l (n, e) = rw (lt-leb _ _ l, n, e) refl

-- a reply on a record whose merge word is 0 or 1, and what is told of it
module _ (ws rs : List ℕ) (o : Outcome) (l : get_or rs merge_place 0 ≤ 1) (reply : Reply) {after : List ℕ} {r : ℕ} {five : List ℕ}
    (m : Meets ws o reply after) where
  -- a call that may change the record
  pub answers : {state : List ℕ} → r ≡ refusal_out reply.answer → five ≡ answer_out reply.answer → state ≡ flat_after rs reply.answer reply.heap
      → handed r five state after ≡ handed_by ws rs o
  unfolding handed_by
  answers n e p =
      rw (le-leb _ _ l, n, e, p) (ap (λ (x : Left). answering x.answer (flat_after rs x.answer x.heap) x.words) m)

  -- a call that leaves the record as it is: the words that say it stay
  pub tells : length rs ≡ record_words → o.heap ≡ record_in rs → (r ≡ refusal_out reply.answer) × (five ≡ answer_out reply.answer)
      → handed r five rs after ≡ handed_by ws rs o
  unfolding flat_after
  tells whole stays (n, e) =
      let kept : reply.heap ≡ record_in rs = ap (λ (x : Left). x.heap) m ∙ stays in
      answers n e (by kept (eqb (refusal_out reply.answer) 0))
    where
      by : reply.heap ≡ record_in rs → (t : Bool) → rs ≡ cond t (record_out reply.heap) rs
      by kept true = sym (ap record_out kept ∙ back_and_flat rs whole l)
      by kept false = refl

-- the check and the questions leave the record as it is, refused or not
judged_stays : (h : Heap) (ts : Refusals) (o : Outcome) → o.heap ≡ h → (judged h ts o).heap ≡ h
judged_stays h ts o e = judged_so (λ x. x.heap ≡ h) h o ts (λ r. refl) (λ _. e)

pub check_stays : (ws : List ℕ) (h : Heap) → (check ws h).heap ≡ h
unfolding check
check_stays ws h = refl

pub chunk_stays : (ws : List ℕ) (q p : ℕ) (h : Heap) → (ask_chunk ws h q p).heap ≡ h
unfolding ask_chunk
chunk_stays ws q p h =
    let d = as_read ws h in
    let answers = chunk_answers d (asked_spot d q p) in
    judged_stays h (ask_refusals (heap_fails ws h) q answers (is_there d q p)) (asked h q answers) refl

pub bin_stays : (ws : List ℕ) (q i : ℕ) (h : Heap) → (ask_bin ws h q i).heap ≡ h
unfolding ask_bin
bin_stays ws q i h =
    let answers = bin_answers ((as_read ws h).lists i) in
    judged_stays h (ask_refusals (heap_fails ws h) q answers (ltb i h.bins)) (asked h q answers) refl

-- the check of the record's parts, where they stand in the words, is that of the record that the words say
module _ (ws rs : List ℕ) (whole : length rs ≡ record_words) (found : Option Counts) {s : Summary} (q : s ≡ summary_of (record_in rs))
    (look : AuditIs ws (record_of s (take places (drop sizes_from rs)) (take places (drop heads_from rs)) (take places (drop tails_from rs))) found)
  where
    pub tells_check : get_or rs merge_place 0 ≤ 1 → {said : Answer} {r : ℕ} {five : List ℕ} → said ≡ answer_of found
        → (r ≡ refusal_out said) × (five ≡ answer_out said)
        → handed r five rs ws ≡ handed_by ws rs (check ws (record_in rs))
    tells_check l {said} a told =
        let h = record_in rs in
        tells ws rs (check ws h) l (record { answer = said; heap = h }) (checks ws h said (a ∙ answer_is ws h found (rw (q, parts_are rs) at look))) whole (check_stays ws h) told

-- setup hands back its record, accepted or refused
pub opens : (ws : List ℕ) (o : Outcome) (reply : Reply) {after : List ℕ} {r : ℕ} {five state : List ℕ} → Meets ws o reply after
    → (r ≡ refusal_out reply.answer) × (five ≡ answer_out reply.answer) → state ≡ record_out reply.heap
    → handed r five state after ≡ opened_by ws o
unfolding opened_by
opens ws o reply m (n, e) p =
    rw (sym (ap (λ (x : Left). x.answer) m), sym (ap (λ (x : Left). x.heap) m), sym (ap (λ (x : Left). x.words) m), n, e, p) refl

-- the patrol hands back its place in the record's words; where it is refused, they stay
module _ (ws rs : List ℕ) (o : Outcome) (h : Heap) where
  pub patrols : {t : Toured} {after five : List ℕ} {r : ℕ} → leaving h (Ok t) after ≡ left_by ws o
      → (r ≡ refusal_out t.answer) × (five ≡ answer_out t.answer)
      → handed r five (set rs patrol_place t.place.0) after ≡ patrolled_by ws rs o
  unfolding patrolled_by
  patrols m (n, e) =
      rw (sym (ap (λ (x : Left). x.answer) m), sym (ap (λ (x : Left). x.heap.patrol.0) m), sym (ap (λ (x : Left). x.words) m), n, e) refl

  pub patrol_refused : h.patrol.0 ≡ get_or rs patrol_place 0 → {e : Refusal} {after five : List ℕ} {r : ℕ}
      → leaving h (Err e) after ≡ left_by ws o → (r ≡ refusal_out (Refused e)) × (five ≡ answer_out (Refused e))
      → handed r five rs after ≡ patrolled_by ws rs o
  unfolding patrolled_by
  patrol_refused p m (n, e) =
      rw (
        sym (ap (λ (x : Left). x.answer) m),
        sym (ap (λ (x : Left). x.heap.patrol.0) m),
        sym (ap (λ (x : Left). x.words) m),
        n,
        e,
        p,
        set-get_or rs patrol_place 0,
      )
