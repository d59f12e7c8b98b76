-- The answers to the twelve questions are those of the chain and the lists (`telling`). Assumes nothing.
use mathlib.Core.Path.{◌≡◌, refl, sym, ap, ◌∙◌}
use mathlib.Core.Bool.{true, false, not, cond, ◌||◌}
use mathlib.Core.List.Memᴰ
use mathlib.Core.List.{List, [], ◌∷◌, ◌++◌, map-append}
use Rattle.std.specs.Prelude.{Option, Some, None}
use Prim.Native.Nat.{ℕ, ◌%◌, ◌≤◌, ◌<◌}
use native.Mathlib.Omega.{arith}
use lib.Dec.{eqb, ltb}
use lib.ListN.{length}
use borrow.Author.Tests.{eqb-true, eqb-false, eq-eqb, ne_eqb, le-leb, lt-ltb}
use Rattle.books.proofs.HeapBooks.{Member, member_entry}
use Rattle.lists.specs.Lists.{Mem, up_to, past}
use Rattle.lists.proofs.MembersLaws.{distinct_parts}
use Rattle.lists.proofs.SplitLaws.{in_split, split_second, up_to_first, past_first}
use Rattle.record.specs.declared.answers.Answer.{Answer}
use Rattle.record.specs.declared.answers.Answer.TheVariants.{Told, Refused}
use Rattle.record.specs.declared.answers.Refusal.TheVariants.{NotThere}
use Rattle.record.specs.declared.heap.Heap.{Heap}
use Rattle.rules.specs.Shape.{Entry, shape, bin_list}
use Rattle.rules.specs.Kinds.{is_at, in_use, ordinary, live, block_of}
use Rattle.rules.specs.Check.{Passes, passes}
use Rattle.rules.specs.Draft.{as_read, Spot, spot}
use Rattle.rules.specs.Free.{is_live, block_spot}
use Rattle.rules.specs.Ask.{first_in, last_in, places_of, chunk_answers, asked_spot, is_there, is_asked, answer_to, ask_chunk, ask_bin}
use Rattle.rules.specs.Calls.{step}
use Rattle.rules.specs.Outcome.{judged, heap_fails, unchanged}
use Rattle.rules.proofs.AskLaws.{question_answer, last_in_lem}
use Rattle.rules.proofs.CheckLaws.{passes_iff}
use Rattle.rules.proofs.SpotLaws.{spot_at, spot_cut, inside}
use Rattle.promises.specs.Ways.{ours}
use Rattle.promises.specs.Room.{HoldsBlock}
use Rattle.promises.specs.Telling.{Adjacent, StartsWith, EndsWith, of_chunk, of_bin, TellingAt, Telling}
use Rattle.promises.proofs.ReasonLaws.{live_iff, here_holds, one_block}

-- the questions about a chunk: 1 to 9 but for 3, which is about a block
abbrev OfChunks : ℕ → Type 0
OfChunks q = (1 ≤ q) × (q ≤ 9) × (q ≡ 3 → ⊥)

-- a chain cut at a chunk
abbrev cut_at : List Entry → Entry → List Entry → Spot
cut_at low e high = record { low = low; here = e; high = high }

-- the first and the last of a list, as answers
abbrev told_first : List ℕ → Answer
told_first cs = Told (first_in cs)

abbrev told_last : List ℕ → Answer
told_last cs = Told (last_in cs)

-- the place of the last chunk is the last of the places
last_of_places : (low : List Entry) (e : Entry) → last_in (places_of (low ++ e ∷ [])) ≡ Some e.place
last_of_places low e = ap last_in (map-append (λ (x : Entry). x.place) low (e ∷ [])) ∙ last_in_lem (places_of low) e.place

module _ (ws : List ℕ) (h : Heap) (p : Passes ws h) where
  abbrev es : List Entry
  es = shape ws h.bytes

  well : passes ws h ≡ true
  well = (passes_iff ws h).1 p

  -- questions about a chunk, with the chain cut at it
  module _ (low : List Entry) (e : Entry) (high : List Entry) (split : es ≡ low ++ e ∷ high) where
    abbrev answers : ℕ → List (Option ℕ)
    answers q = chunk_answers (as_read ws h) (asked_spot (as_read ws h) q e.place)

    module _ (q : ℕ) (k : OfChunks q) where
      accepted : (not (is_asked q (answers q)) || not (is_there (as_read ws h) q e.place)) ≡ false
      unfolding as_read
      accepted =
          let found = (spot_at ws h p e.place e (in_split low e high split) refl).found in
          rw (le-leb 1 q k.0, le-leb q 9 k.1, ne_eqb q 3 k.2, found)

      asked_cut : asked_spot (as_read ws h) q e.place ≡ cut_at low e high
      unfolding as_read
      asked_cut = rw (ne_eqb q 3 k.2) (spot_cut ws h p low e high split)

      cut_told : of_chunk ours ws h q e.place ≡ answer_to q (chunk_answers (as_read ws h) (cut_at low e high))
      unfolding ours step ask_chunk
      cut_told =
          question_answer h (passes ws h) (not (is_asked q (answers q)) || not (is_there (as_read ws h) q e.place)) (answer_to q (answers q)) well
          ∙ rw accepted (ap (λ (x : Spot). answer_to q (chunk_answers (as_read ws h) x)) asked_cut)

  -- any chunk of the chain
  module _ (e : Entry) (m : Mem e es) where
    abbrev lows : List Entry
    lows = (spot (is_at e.place) es).low

    abbrev highs : List Entry
    highs = (spot (is_at e.place) es).high

    chunk_told : (q : ℕ) → OfChunks q → of_chunk ours ws h q e.place ≡ answer_to q (chunk_answers (as_read ws h) (cut_at lows e highs))
    chunk_told = cut_told lows e highs (spot_at ws h p e.place e m refl).split

    -- the same where the chunk is known by its place
    told_at : (c : ℕ) → e.place ≡ c → (q : ℕ) → OfChunks q
        → of_chunk ours ws h q c ≡ answer_to q (chunk_answers (as_read ws h) (cut_at lows e highs))
    told_at c place q k = ap (of_chunk ours ws h q) (sym place) ∙ chunk_told q k

    size_told : of_chunk ours ws h 8 e.place ≡ Told (Some e.size)
    size_told = chunk_told 8 (omega arith)

    type_told : (v : ℕ) → e.flags ≡ v → of_chunk ours ws h 9 e.place ≡ Told (Some v)
    type_told v f = chunk_told 9 (omega arith) ∙ ap (λ v. Told (Some v)) f

    used_told : in_use e ≡ true → of_chunk ours ws h 9 e.place ≡ Told (Some 1)
    unfolding in_use
    used_told u = type_told 1 (omega (arith, eqb-true (e.flags % 2) 1 u, (inside ws h p e m).flags))

    free_told : in_use e ≡ false → of_chunk ours ws h 9 e.place ≡ Told (Some 0)
    unfolding in_use
    free_told u = let n = eqb-false (e.flags % 2) 1 u in type_told 0 (omega (arith, (inside ws h p e m).flags))

    no_block_told : live h e ≡ false → of_chunk ours ws h 2 e.place ≡ Told None
    unfolding as_read
    no_block_told l = chunk_told 2 (omega arith) ∙ rw l refl

    block_told : live h e ≡ true → of_chunk ours ws h 2 e.place ≡ Told (Some (block_of e))
    unfolding as_read
    block_told l = chunk_told 2 (omega arith) ∙ rw l refl

    module _ (o : ordinary h e ≡ false) where
      no_bin_told : of_chunk ours ws h 1 e.place ≡ Told None
      unfolding as_read
      no_bin_told = chunk_told 1 (omega arith) ∙ rw o refl

      not_listed_lem : (of_chunk ours ws h 5 e.place ≡ Told None) × (of_chunk ours ws h 7 e.place ≡ Told None)
      unfolding as_read
      not_listed_lem = (
        chunk_told 5 (omega arith) ∙ rw o refl,
        chunk_told 7 (omega arith) ∙ rw o refl,
      )

  -- neighbours on the chain
  module _ (e d : Entry) where
    next_told : Adjacent es e d → of_chunk ours ws h 4 e.place ≡ Told (Some d.place)
    next_told (before, after, s) = cut_told before e (d ∷ after) s 4 (omega arith)

    previous_told : Adjacent es e d → of_chunk ours ws h 6 d.place ≡ Told (Some e.place)
    previous_told (before, after, s) =
        cut_told (before ++ e ∷ []) d after (split_second before e d after s) 6 (omega arith)
        ∙ ap Told (last_of_places before e)

  no_next_told : (e : Entry) → EndsWith es e → of_chunk ours ws h 4 e.place ≡ Told None
  no_next_told e (before, s) = cut_told before e [] s 4 (omega arith)

  no_previous_told : (e : Entry) → StartsWith es e → of_chunk ours ws h 6 e.place ≡ Told None
  no_previous_told e (after, s) = cut_told [] e after s 6 (omega arith)

  -- the chunk of a live block: one chunk holds it
  holder_told : (b : ℕ) (e : Entry) → HoldsBlock ws h b e → of_chunk ours ws h 3 b ≡ Told (Some e.place)
  unfolding ours step ask_chunk
  holder_told b e k =
      let is = one_block ws h p b (block_spot (as_read ws h) b).here e (here_holds ws h p b (e, k)) k in
      question_answer h (passes ws h) (not (is_live (as_read ws h) b)) (Told (Some (block_spot (as_read ws h) b).here.place)) well
      ∙ rw ((live_iff ws h b).1 (e, k)) (ap (λ (x : Entry). Told (Some x.place)) is)

  -- a member of the list of bin i, with the list cut at it
  module _ (i : ℕ) (l : i < h.bins) (xs : List ℕ) (c : ℕ) (ys : List ℕ) (split : bin_list ws h i ≡ xs ++ c ∷ ys) where
    listed : (e : Entry) × Member ws h es i c e
    listed = member_entry ws h p i c l (in_split xs c ys split)

    others : (d : ℕ) → Mem d xs → eqb c d ≡ false
    others d m = ne_eqb c d (λ q. (distinct_parts xs (c ∷ ys) (rw split at (p.bins i l).once)).none d m (Memᴰ.head (sym q)))

    before_it : up_to (eqb c) (bin_list ws h i) ≡ xs
    before_it = ap (up_to (eqb c)) split ∙ up_to_first (eqb c) xs c ys others (eq-eqb c c refl)

    after_it : past (eqb c) (bin_list ws h i) ≡ ys
    after_it = ap (past (eqb c)) split ∙ past_first (eqb c) xs c ys others (eq-eqb c c refl)

    next_in_bin_lem : of_chunk ours ws h 5 c ≡ Told (first_in ys)
    unfolding as_read
    next_in_bin_lem =
        let (e, r) = listed in
        told_at e r.member c r.place 5 (omega arith)
        ∙ rw (r.kind, r.takes, r.place) (ap told_first after_it)

    previous_in_bin_lem : of_chunk ours ws h 7 c ≡ Told (last_in xs)
    unfolding as_read
    previous_in_bin_lem =
        let (e, r) = listed in
        told_at e r.member c r.place 7 (omega arith)
        ∙ rw (r.kind, r.takes, r.place) (ap told_last before_it)

  bin_told : (i c : ℕ) → i < h.bins → Mem c (bin_list ws h i) → of_chunk ours ws h 1 c ≡ Told (Some i)
  unfolding as_read
  bin_told i c l m =
      let (e, r) = member_entry ws h p i c l m in
      told_at e r.member c r.place 1 (omega arith) ∙ rw (r.kind, r.takes) refl

  -- a bin, by what its list is
  module _ (i : ℕ) (l : i < h.bins) where
    of_bin_lem : (a : Answer) → cond (not (ltb i h.bins)) (Refused NotThere) a ≡ a
    of_bin_lem a = rw (lt-ltb i h.bins l) refl

    judged_bin : (a : Answer) → (judged h (heap_fails ws h ∷ (not (ltb i h.bins), NotThere) ∷ []) (unchanged h a)).answer ≡ a
    judged_bin a = question_answer h (passes ws h) (not (ltb i h.bins)) a well ∙ of_bin_lem a

    count_told : of_bin ours ws h 1 i ≡ Told (Some (length (bin_list ws h i)))
    unfolding ours step ask_bin as_read
    count_told = judged_bin (Told (Some (length (bin_list ws h i))))

    first_told : of_bin ours ws h 2 i ≡ Told (first_in (bin_list ws h i))
    unfolding ours step ask_bin as_read
    first_told = judged_bin (Told (first_in (bin_list ws h i)))

    last_told : of_bin ours ws h 3 i ≡ Told (last_in (bin_list ws h i))
    unfolding ours step ask_bin as_read
    last_told = judged_bin (Told (last_in (bin_list ws h i)))

  pub telling_at : TellingAt ours ws h
  telling_at =
      record {
        bin = bin_told;
        no_bin = no_bin_told;
        block = λ b e k. block_told e k.member k.live ∙ ap (λ v. Told (Some v)) k.block;
        no_block = no_block_told;
        holder = holder_told;
        next = next_told;
        no_next = no_next_told;
        previous = previous_told;
        no_previous = no_previous_told;
        next_in_bin = λ i c d l (before, after, s). next_in_bin_lem i l before c (d ∷ after) s;
        no_next_in_bin = λ i c l (before, s). next_in_bin_lem i l before c [] s;
        previous_in_bin = λ i c d l (before, after, s). previous_in_bin_lem i l (before ++ c ∷ []) d after (split_second before c d after s) ∙ ap Told (last_in_lem before c);
        no_previous_in_bin = λ i c l (after, s). previous_in_bin_lem i l [] c after s;
        not_listed = not_listed_lem;
        size = size_told;
        used = used_told;
        free = free_told;
        count = count_told;
        first = λ i c l (after, s). first_told i l ∙ ap told_first s;
        no_first = λ i l s. first_told i l ∙ ap told_first s;
        last = λ i c l (before, s). last_told i l ∙ ap told_last s ∙ ap Told (last_in_lem before c);
        no_last = λ i l s. last_told i l ∙ ap told_last s;
      }

pub telling : Telling ours
telling = telling_at
