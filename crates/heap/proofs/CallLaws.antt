-- What a call's reply must be, by what the check says: the refusal for a heap that fails, and the questions' answers
-- found on the even part of the region. Assumes nothing.
use mathlib.Core.Path.{◌≡◌, refl, ap, ◌∙◌}
use mathlib.Core.Bool.{Bool, true, false, not, ◌||◌}
use mathlib.Core.List.{List, [], ◌∷◌}
use Prim.Native.Nat.{ℕ, ◌*◌, ◌/◌, ◌≤◌}
use native.Mathlib.Omega.{arith}
use lib.Dec.{ltb}
use lib.ListN.{length, take}
use Rattle.record.specs.declared.answers.Answer.{Answer}
use Rattle.record.specs.declared.answers.Answer.TheVariants.{Done}
use Rattle.record.specs.declared.answers.Refusal.{Refusal}
use Rattle.record.specs.declared.answers.Refusal.TheVariants.{HeapFails, NotThere}
use Rattle.record.specs.declared.answers.Reply.{Reply}
use Rattle.record.specs.declared.heap.Heap.{Heap}
use Rattle.record.specs.declared.heap.Summary.{Summary}
use Rattle.record.specs.Heap.{table_of, summary_of, with_merge}
use Rattle.record.specs.Answers.{told}
use Rattle.record.specs.Table.{ValidTable}
use Rattle.std.specs.Prelude.{Option, Result}
use Rattle.rules.specs.Check.{Passes, passes}
use Rattle.rules.specs.Draft.{as_read}
use Rattle.rules.specs.Outcome.{Outcome, judged, unchanged}
use Rattle.rules.specs.Statements.{Meets}
use Rattle.rules.specs.Ask.{ask_chunk, ask_bin, chunk_answers, asked_spot, is_asked, is_there, answer_to, bin_answers}
use Rattle.rules.specs.Merge.{set_merge, checked, check}
use Rattle.rules.proofs.CheckLaws.{passes_iff}
use Rattle.rules.proofs.EvenLaws.{even_part, even_read, even_passes}
use Rattle.ask.specs.Questions.{ask_chunk_m, ask_bin_m}
use Rattle.ask.proofs.AskMeaning.{ask_chunk_is, ask_bin_is}
use Rattle.replies.specs.Replies.{reply, refused_reply}

-- a question leaves the heap as it came, refused or not
question_keeps : (h : Heap) (t u : Bool) (a : Answer)
    → let o : Outcome = judged h ((t, HeapFails) ∷ (u, NotThere) ∷ []) (unchanged h a) in
    (o.heap ≡ h) × (o.stores ≡ [])
question_keeps h true u a = (refl, refl)
question_keeps h false true a = (refl, refl)
question_keeps h false false a = (refl, refl)

pub tells : (ws : List ℕ) (h : Heap) (o : Outcome) (a : Answer) → (o.heap ≡ h) × (o.stores ≡ []) → a ≡ o.answer
    → Meets ws o (reply h a) ws
tells ws h o a (k, s) q = rw (k, s, q) refl

module _ (ws : List ℕ) (h : Heap) (q : passes ws h ≡ true) where
  well : Passes ws h
  well = (passes_iff ws h).0 q

  -- what is lent on is there
  pub lent : h.bytes / 4 ≤ length ws
  lent = omega (arith, well.fits.bytes)

  pub bins_there : h.bins ≤ length h.sizes
  bins_there = omega (arith, well.table.bins, well.table.size_places)

  pub table_valid : ValidTable (table_of h)
  table_valid = well.table.valid

  lent_even : take (h.bytes / 4) ws ≡ even_part ws
  lent_even =
      let n : h.bytes / 4 ≡ length ws / 2 * 2 = omega (arith, well.fits.bytes) in
      rw n refl

  even_well : Passes (even_part ws) h
  even_well = (even_passes ws h well.fits).0 well

-- a reply about a chunk, or about a bin, and the words after it are what the rule says. They are records, so that the checker finds by
-- itself what the call was handed
pub record AskedChunk (ws : List ℕ) (h : Heap) (question place : ℕ) (r : Reply) (words : List ℕ) : Type 0 where
  pub meets : Meets ws (ask_chunk ws h question place) r words

pub asked_chunk : {ws : List ℕ} {h : Heap} {question place : ℕ} {r : Reply} {words : List ℕ} → AskedChunk ws h question place r words
    → Meets ws (ask_chunk ws h question place) r words
asked_chunk a = a.meets

pub record AskedBin (ws : List ℕ) (h : Heap) (question bin : ℕ) (r : Reply) (words : List ℕ) : Type 0 where
  pub meets : Meets ws (ask_bin ws h question bin) r words

pub asked_bin : {ws : List ℕ} {h : Heap} {question bin : ℕ} {r : Reply} {words : List ℕ} → AskedBin ws h question bin r words
    → Meets ws (ask_bin ws h question bin) r words
asked_bin a = a.meets

module _ {ws : List ℕ} {h : Heap} {question place : ℕ} where
  pub fails_chunk : passes ws h ≡ false → AskedChunk ws h question place (refused_reply h HeapFails) ws
  unfolding ask_chunk
  fails_chunk q = record { meets = rw q refl }

  pub asks_chunk_lem : passes ws h ≡ true → {s : Summary} → s ≡ summary_of h
      → {t : Result (Option ℕ) Refusal} → t ≡ ask_chunk_m (take (h.bytes / 4) ws) (table_of h) s question place → {a : Answer} → a ≡ told t
      → AskedChunk ws h question place (reply h a) ws
  unfolding ask_chunk
  asks_chunk_lem q e {t} r {a} g =
      let d = as_read ws h in
      let answers = chunk_answers d (asked_spot d question place) in
      record {
        meets =
            tells ws h (ask_chunk ws h question place) a
            (question_keeps h (not (passes ws h)) (not (is_asked question answers) || not (is_there d question place)) (answer_to question answers))
            (g ∙ ap told r ∙ rw (e, lent_even ws h q) (ask_chunk_is (even_part ws) h (even_well ws h q) question place) ∙ same_answer);
      }
    where
      same_answer : (ask_chunk (even_part ws) h question place).answer ≡ (ask_chunk ws h question place).answer
      same_answer = rw ((passes_iff (even_part ws) h).1 (even_well ws h q), q, even_read ws h (well ws h q)) refl

module _ {ws : List ℕ} {h : Heap} {question bin : ℕ} where
  pub fails_bin : passes ws h ≡ false → AskedBin ws h question bin (refused_reply h HeapFails) ws
  unfolding ask_bin
  fails_bin q = record { meets = rw q refl }

  pub asks_bin_lem : passes ws h ≡ true → {s : Summary} → s ≡ summary_of h
      → {t : Result (Option ℕ) Refusal} → t ≡ ask_bin_m (take (h.bytes / 4) ws) h.heads h.tails s question bin → {a : Answer} → a ≡ told t
      → AskedBin ws h question bin (reply h a) ws
  unfolding ask_bin
  asks_bin_lem q e {t} r {a} g =
      let answers = bin_answers ((as_read ws h).lists bin) in
      record {
        meets =
            tells ws h (ask_bin ws h question bin) a
            (question_keeps h (not (passes ws h)) (not (is_asked question answers) || not (ltb bin h.bins)) (answer_to question answers))
            (g ∙ ap told r ∙ rw (e, lent_even ws h q) (ask_bin_is (even_part ws) h (even_well ws h q) question bin) ∙ same_answer);
      }
    where
      same_answer : (ask_bin (even_part ws) h question bin).answer ≡ (ask_bin ws h question bin).answer
      same_answer = rw ((passes_iff (even_part ws) h).1 (even_well ws h q), q, even_read ws h (well ws h q)) refl

pub sets_merge_lem : (ws : List ℕ) (h : Heap) (on : Bool) → passes ws h ≡ true
    → Meets ws (set_merge ws h on) (reply (with_merge h on) Done) ws
unfolding set_merge
sets_merge_lem ws h on q = rw q refl

pub fails_merge : (ws : List ℕ) (h : Heap) (on : Bool) → passes ws h ≡ false → Meets ws (set_merge ws h on) (refused_reply h HeapFails) ws
unfolding set_merge
fails_merge ws h on q = rw q refl

pub checks : (ws : List ℕ) (h : Heap) (a : Answer) → a ≡ checked ws h → Meets ws (check ws h) (reply h a) ws
unfolding check
checks ws h a q = rw q refl
