-- On a heap that passes, the answers that the code finds are those of the rules (`ask_chunk_is`, `ask_bin_is`). Assumes nothing.
use mathlib.Core.Path.{◌≡◌, refl, sym, ◌∙◌, ap}
use mathlib.Core.Bool.{Bool, true, false, not, cond, ◌&&◌, ◌||◌}
use mathlib.Core.List.Memᴰ
use mathlib.Core.List.{List, [], ◌∷◌}
use Rattle.std.specs.Prelude.{Option, None, Some, is_some}
use Rattle.std.proofs.lemmas.Option.{none-some, same_Some}
use Prim.Native.Nat.{ℕ, zero, suc, ◌+◌, ◌-◌, ◌≤◌, ◌<◌}
use native.Mathlib.Decide.{ℕ_discrete, dec_lt}
use native.Mathlib.Omega.{arith}
use lib.Dec.{eqb, leb, ltb}
use lib.ListN.{get_or}
use borrow.Author.Tests.{eq-eqb, ne_eqb, le-leb, lt-leb, lt-ltb, le-ltb}
use Rattle.books.proofs.HeapBooks.{list_nodes}
use Rattle.lists.specs.Lists.{Mem, head_or, last_or, any, up_to, past}
use Rattle.lists.proofs.MembersLaws.{last_member}
use Rattle.lists.proofs.SplitLaws.{before_from, after_from}
use Rattle.record.specs.declared.answers.Answer.{Answer}
use Rattle.record.specs.declared.answers.Answer.TheVariants.{Told, Refused}
use Rattle.record.specs.declared.answers.Refusal.TheVariants.{NotThere}
use Rattle.record.specs.declared.heap.Heap.{Heap}
use Rattle.record.specs.declared.questions.ChunkQuestion.{ChunkQuestion}
use Rattle.record.specs.declared.questions.ChunkQuestion.TheVariants.{Bin, Block, Next, NextInBin, Previous, PreviousInBin, Size, «Type»}
use Rattle.record.specs.Answers.{told}
use Rattle.record.specs.Heap.{table_of, summary_of}
use Rattle.record.specs.Questions.{chunk_question}
use Rattle.record.specs.Table.{bin_of}
use Rattle.region.specs.Places.{block_at}
use Rattle.region.specs.Words.{word, next_in_bin, previous_in_bin}
use Rattle.rules.specs.Ask.{only_if, first_in, last_in, list_of, places_of, chunk_answers, bin_answers, asked_spot, is_there, is_asked, answer_to, ask_chunk, ask_bin}
use Rattle.rules.specs.Check.{Linked, Passes, passes}
use Rattle.rules.specs.Draft.{as_read, Spot, spot}
use Rattle.rules.specs.Kinds.{ordinary, live, block_of, is_at, holds_block}
use Rattle.rules.specs.Shape.{Entry, chunk_end, entry, members, bin_list, shape}
use Rattle.rules.proofs.AskLaws.{question_answer}
use Rattle.rules.proofs.ChainLaws.{shape_chain}
use Rattle.rules.proofs.CheckLaws.{passes_iff}
use Rattle.rules.proofs.ShapeLaws.{read_head}
use Rattle.rules.proofs.TiledLaws.{Tiled, tiled_up}
use Rattle.rules.proofs.SpotLaws.{TiledAt, spot_member, spot_splits, tiled_at}
use Rattle.seek.specs.Seek.{placed, sought_m, live_m, has_block_m}
use Rattle.seek.proofs.SeekLaws.{live_is, sought_none, sought_spot, sought_block}
use Rattle.details.specs.Details.{link_told_m, of_chunk_m}
use Rattle.ask.specs.Questions.{told_of, holder_of, list_told, ask_chunk_m, ask_bin_m}

-- the place of the last chunk is the last of the places
last_place : (d : Entry) (es : List Entry) → (last_or d es).place ≡ last_or d.place (places_of es)
last_place d [] = refl
last_place d (e ∷ es) = last_place e es

-- the words of a member of a linked list name its neighbours
module _ (ws : List ℕ) (c : ℕ) where
  linked_next : (p : ℕ) (cs : List ℕ) → Linked ws p cs → Mem c cs → word ws c next_in_bin ≡ head_or 0 (past (eqb c) cs)
  linked_next p [] _ m = elim m [ ]
  linked_next p (d ∷ ds) (previous, next, links) m = go (ℕ_discrete c d) m (linked_next d ds links)
    where
      go : Dec (c ≡ d) → Mem c (d ∷ ds) → (Mem c ds → word ws c next_in_bin ≡ head_or 0 (past (eqb c) ds))
          → word ws c next_in_bin ≡ head_or 0 (past (eqb c) (d ∷ ds))
      go (yes e) m f = rw (eq-eqb c d e, e) next
      go (no n) (Memᴰ.head e) f = absurd (n e)
      go (no n) (Memᴰ.tail k) f = rw (ne_eqb c d n) (f k)

  linked_previous : (p : ℕ) (cs : List ℕ) → Linked ws p cs → Mem c cs → word ws c previous_in_bin ≡ last_or p (up_to (eqb c) cs)
  linked_previous p [] _ m = elim m [ ]
  linked_previous p (d ∷ ds) (previous, next, links) m = go (ℕ_discrete c d) m (linked_previous d ds links)
    where
      go : Dec (c ≡ d) → Mem c (d ∷ ds) → (Mem c ds → word ws c previous_in_bin ≡ last_or d (up_to (eqb c) ds))
          → word ws c previous_in_bin ≡ last_or p (up_to (eqb c) (d ∷ ds))
      go (yes e) m f = rw (eq-eqb c d e, e) previous
      go (no n) (Memᴰ.head e) f = absurd (n e)
      go (no n) (Memᴰ.tail k) f = rw (ne_eqb c d n) (f k)

-- 0, which a link has for none, is no member's place
first_told : (cs : List ℕ) → ((c : ℕ) → Mem c cs → 0 < c) → link_told_m (head_or 0 cs) ≡ first_in cs
unfolding link_told_m
first_told [] f = refl
first_told (x ∷ xs) f = let n = f x (Memᴰ.head refl) in rw (ne_eqb x 0 (omega arith))

last_told : (cs : List ℕ) → ((c : ℕ) → Mem c cs → 0 < c) → link_told_m (last_or 0 cs) ≡ last_in cs
unfolding link_told_m
last_told [] f = refl
last_told (x ∷ xs) f = let n = f (last_or x xs) (last_member x xs) in rw (ne_eqb (last_or x xs) 0 (omega arith))

-- so the links of a member name its neighbours in the list, or none
module _ (ws : List ℕ) (c : ℕ) (cs : List ℕ) (links : Linked ws 0 cs) (places : (d : ℕ) → Mem d cs → 0 < d) (m : Mem c cs) where
  next_told : link_told_m (word ws c next_in_bin) ≡ first_in (past (eqb c) cs)
  next_told =
      ap link_told_m (linked_next ws c 0 cs links m) ∙ first_told (past (eqb c) cs) (λ d j. places d (after_from (eqb c) cs j))

  previous_told : link_told_m (word ws c previous_in_bin) ≡ last_in (up_to (eqb c) cs)
  previous_told =
      ap link_told_m (linked_previous ws c 0 cs links m) ∙ last_told (up_to (eqb c) cs) (λ d j. places d (before_from (eqb c) cs j))

-- a chunk ends where the next one is, and the last with the heap
next_behind : (bytes : ℕ) (e : Entry) (high : List Entry) → Tiled (chunk_end e) high bytes
    → cond (eqb (chunk_end e) bytes) None (Some (chunk_end e)) ≡ first_in (places_of high)
next_behind bytes e [] t = rw (eq-eqb (chunk_end e) bytes t)
next_behind bytes e (d ∷ ds) (here, some, further) =
    let up = tiled_up (chunk_end d) bytes ds further in
    rw (ne_eqb (chunk_end e) bytes (omega arith), here)

-- the first chunk of the chain, and no other, is at 0
previous_below : (from : ℕ) (e : Entry) (low : List Entry) → Tiled 0 low from → e.place ≡ from
    → cond (eqb e.place 0) None (Some (last_or (entry 0 0 0) low).place) ≡ last_in (places_of low)
previous_below from e [] t z = rw (eq-eqb e.place 0 (z ∙ sym t))
previous_below from e (d ∷ ds) (here, some, further) z =
    let up = tiled_up (chunk_end d) from ds further in
    rw (ne_eqb e.place 0 (omega arith), last_place d ds)

module _ (ws : List ℕ) (h : Heap) (k : Passes ws h) where
  some_bytes : (0 < h.bytes) × (h.bytes ≤ 65536)
  some_bytes = omega (arith, k.fits.enough, k.fits.not_too_many, k.fits.bytes)

  -- the chunk at 0 is the start, which is in no bin
  members_above : (i : ℕ) → i < h.bins → (c : ℕ) → Mem c (bin_list ws h i) → 0 < c
  members_above i l c m = (list_nodes ws h k i l c m).some

  -- what a chunk of the chain tells, by question: next and previous in its bin if it is ordinary, block if it is live
  module _ (e : Entry) (m : Mem e (shape ws h.bytes)) where
    -- what a word of the chunk tells of the list of its bin
    neighbour_is : (number : ℕ) (beside : List ℕ → Option ℕ) → beside [] ≡ None
        → ((cs : List ℕ) → Linked ws 0 cs → ((c : ℕ) → Mem c cs → 0 < c) → Mem e.place cs → link_told_m (word ws e.place number) ≡ beside cs)
        → (t : Bool) → ordinary h e ≡ t
        → cond t (link_told_m (word ws e.place number)) None ≡ beside (list_of (as_read ws h) (cond t (bin_of (table_of h) e.size) None))
    unfolding as_read
    neighbour_is number beside nothing linked false o = sym nothing
    neighbour_is number beside nothing linked true o =
        let (i, takes, (below, listed)) = k.binned e m o in
        rw takes (linked (bin_list ws h i) (k.bins i below).links (members_above i below) listed)

    block_is : cond (live_m h.bytes e.place e.flags) (Some (block_at e.place)) None ≡ only_if (live h e) (block_of e)
    block_is =
        let l = (shape_chain ws h.bytes).inside some_bytes.0 e m in
        let a : block_at e.place ≡ e.place + 8 = omega (arith, some_bytes.1) in
        rw (a, live_is h.bytes h.donor.0 h.top.0 e) (go (live h e))
      where
        go : (t : Bool) → cond t (Some (e.place + 8)) None ≡ only_if t (e.place + 8)
        go true = refl
        go false = refl

  -- a chunk of the chain that meets the test, in the code's terms and in those of the rules
  module _ (p : Entry → Bool) (found : any p (shape ws h.bytes) ≡ true) where
    abbrev here : Spot
    here = spot p (shape ws h.bytes)

    member : Mem here.here (shape ws h.bytes)
    member = spot_member p (shape ws h.bytes) found

    size_is : here.here.place + here.here.size - here.here.place ≡ here.here.size
    size_is = omega arith

    split : TiledAt h.bytes here.low here.here here.high
    split = tiled_at ws h k here.low here.here here.high (spot_splits p (shape ws h.bytes) found).0

    -- what the code tells of it
    abbrev tells : ChunkQuestion → Option ℕ
    tells q = of_chunk_m ws (table_of h) (summary_of h) q (placed (last_or (entry 0 0 0) here.low).place here.here)

    tells_is : (q : ℕ) (r : ChunkQuestion) → chunk_question q ≡ Some r → Told (tells r) ≡ answer_to q (chunk_answers (as_read ws h) here)
    unfolding as_read of_chunk_m
    tells_is zero r e = absurd (none-some r e)
    tells_is (suc zero) r e = rw (← same_Some Bin r e, size_is)
    tells_is (suc (suc zero)) r e = rw (← same_Some Block r e) (ap Told (block_is here.here member))
    tells_is (suc (suc (suc zero))) r e = absurd (none-some r e)
    tells_is (suc (suc (suc (suc zero)))) r e = rw (← same_Some Next r e) (ap Told (next_behind h.bytes here.here here.high split.above))
    tells_is (suc (suc (suc (suc (suc zero))))) r e =
        rw (← same_Some NextInBin r e, size_is)
        (ap Told (neighbour_is here.here member next_in_bin (λ cs. first_in (past (eqb here.here.place) cs)) refl
        (λ cs l f j. next_told ws here.here.place cs l f j) (ordinary h here.here) refl))
    tells_is (suc (suc (suc (suc (suc (suc zero)))))) r e =
        rw (← same_Some Previous r e) (ap Told (previous_below split.from here.here here.low split.below split.place))
    tells_is (suc (suc (suc (suc (suc (suc (suc zero))))))) r e =
        rw (← same_Some PreviousInBin r e, size_is)
        (ap Told (neighbour_is here.here member previous_in_bin (λ cs. last_in (up_to (eqb here.here.place) cs)) refl
        (λ cs l f j. previous_told ws here.here.place cs l f j) (ordinary h here.here) refl))
    tells_is (suc (suc (suc (suc (suc (suc (suc (suc zero)))))))) r e = rw (← same_Some Size r e) (ap (λ s. Told (Some s)) size_is)
    tells_is (suc (suc (suc (suc (suc (suc (suc (suc (suc zero))))))))) r e = rw (← same_Some «Type» r e) refl
    tells_is (suc (suc (suc (suc (suc (suc (suc (suc (suc (suc q)))))))))) r e = absurd (none-some r e)

  -- the rules' answers to all questions about the chunk that is asked for
  abbrev answers : ℕ → ℕ → List (Option ℕ)
  answers q place = chunk_answers (as_read ws h) (asked_spot (as_read ws h) q place)

  -- what the rules answer
  rule_chunk : (q place : ℕ)
      → (ask_chunk ws h q place).answer
      ≡ cond (not (is_asked q (answers q place)) || not (is_there (as_read ws h) q place)) (Refused NotThere) (answer_to q (answers q place))
  unfolding ask_chunk
  rule_chunk q place =
      question_answer h (passes ws h) (not (is_asked q (answers q place)) || not (is_there (as_read ws h) q place)) (answer_to q (answers q place))
      ((passes_iff ws h).1 k)

  -- question 3, of a block
  holder_is : (place : ℕ) (t : Bool) → any (holds_block h place) (shape ws h.bytes) ≡ t
      → told (holder_of (sought_m (has_block_m h.bytes place) 0 (shape ws h.bytes)))
      ≡ cond (not t) (Refused NotThere) (Told (Some (spot (holds_block h place) (shape ws h.bytes)).here.place))
  unfolding holder_of
  holder_is place true e =
      rw (sought_block h place 0 (shape ws h.bytes) ∙ sought_spot (holds_block h place) 0 (shape ws h.bytes) e)
  holder_is place false e =
      rw (sought_block h place 0 (shape ws h.bytes) ∙ sought_none (holds_block h place) 0 (shape ws h.bytes) e)

  -- the numbers of the others
  numbered : (q : ℕ) → (q ≡ 3 → ⊥) → (leb 1 q && leb q 9) ≡ is_some (chunk_question q)
  numbered zero n = refl
  numbered (suc zero) n = refl
  numbered (suc (suc zero)) n = refl
  numbered (suc (suc (suc zero))) n = absurd (n refl)
  numbered (suc (suc (suc (suc zero)))) n = refl
  numbered (suc (suc (suc (suc (suc zero))))) n = refl
  numbered (suc (suc (suc (suc (suc (suc zero)))))) n = refl
  numbered (suc (suc (suc (suc (suc (suc (suc zero))))))) n = refl
  numbered (suc (suc (suc (suc (suc (suc (suc (suc zero)))))))) n = refl
  numbered (suc (suc (suc (suc (suc (suc (suc (suc (suc zero))))))))) n = refl
  numbered (suc (suc (suc (suc (suc (suc (suc (suc (suc (suc q)))))))))) n =
      rw (le-leb 1 (suc (suc (suc (suc (suc (suc (suc (suc (suc (suc q)))))))))) (omega arith), lt-leb (suc (suc (suc (suc (suc (suc (suc (suc (suc (suc q)))))))))) 9 (omega arith))

  -- every other, of a chunk
  told_is : (q place : ℕ) → (q ≡ 3 → ⊥) → (t : Bool) → any (is_at place) (shape ws h.bytes) ≡ t
      → told (told_of ws (table_of h) (summary_of h) (chunk_question q) (sought_m (is_at place) 0 (shape ws h.bytes)))
      ≡ cond (not (leb 1 q && leb q 9) || not t) (Refused NotThere) (answer_to q (chunk_answers (as_read ws h) (spot (is_at place) (shape ws h.bytes))))
  unfolding told_of
  told_is q place n t e = rw (numbered q n) (go (chunk_question q) refl t e)
    where
      go : (o : Option ChunkQuestion) → chunk_question q ≡ o → (t : Bool) → any (is_at place) (shape ws h.bytes) ≡ t
          → told (told_of ws (table_of h) (summary_of h) o (sought_m (is_at place) 0 (shape ws h.bytes)))
          ≡ cond (not (is_some o) || not t) (Refused NotThere) (answer_to q (chunk_answers (as_read ws h) (spot (is_at place) (shape ws h.bytes))))
      go None x t e = refl
      go (Some r) x true e = rw (sought_spot (is_at place) 0 (shape ws h.bytes) e) (tells_is (is_at place) e q r x)
      go (Some r) x false e = rw (sought_none (is_at place) 0 (shape ws h.bytes) e)

  pub ask_chunk_is : (q place : ℕ)
      → told (ask_chunk_m ws (table_of h) (summary_of h) q place) ≡ (ask_chunk ws h q place).answer
  unfolding ask_chunk_m as_read
  ask_chunk_is q place = go (ℕ_discrete q 3) ∙ sym (rule_chunk q place)
    where
      go : Dec (q ≡ 3)
          → told (ask_chunk_m ws (table_of h) (summary_of h) q place)
          ≡ cond (not (is_asked q (answers q place)) || not (is_there (as_read ws h) q place)) (Refused NotThere) (answer_to q (answers q place))
      go (yes e) = rw e (holder_is place _ refl)
      go (no n) = rw (ne_eqb q 3 n) (told_is q place n _ refl)

  -- the answers about the list of a bin below the bin count
  list_is : (q i : ℕ) → i < h.bins
      → told (ask_bin_m ws h.heads h.tails (summary_of h) q i)
      ≡ cond (not (is_asked q (bin_answers (bin_list ws h i))) || false) (Refused NotThere) (answer_to q (bin_answers (bin_list ws h i)))
  unfolding ask_bin_m list_told members
  list_is zero i l = rw (lt-leb h.bins i l)
  list_is (suc zero) i l = rw (lt-leb h.bins i l)
  list_is (suc (suc zero)) i l =
      rw (lt-leb h.bins i l)
      (ap Told (ap link_told_m (read_head ws h.bytes (get_or h.heads i 0) some_bytes.0) ∙ first_told (bin_list ws h i) (members_above i l)))
  list_is (suc (suc (suc zero))) i l =
      rw (lt-leb h.bins i l) (ap Told (ap link_told_m (k.bins i l).tail ∙ last_told (bin_list ws h i) (members_above i l)))
  list_is (suc (suc (suc (suc q)))) i l =
      rw (
        lt-leb h.bins i l,
        le-leb 1 (suc (suc (suc (suc q)))) (omega arith),
        lt-leb (suc (suc (suc (suc q)))) 3 (omega arith),
      )
      refl

  -- and what the rules answer
  rule_bin : (q i : ℕ)
      → (ask_bin ws h q i).answer
      ≡ cond (not (is_asked q (bin_answers (bin_list ws h i))) || not (ltb i h.bins)) (Refused NotThere) (answer_to q (bin_answers (bin_list ws h i)))
  unfolding ask_bin as_read
  rule_bin q i =
      question_answer h (passes ws h) (not (is_asked q (bin_answers (bin_list ws h i))) || not (ltb i h.bins)) (answer_to q (bin_answers (bin_list ws h i)))
      ((passes_iff ws h).1 k)

  pub ask_bin_is : (q i : ℕ) → told (ask_bin_m ws h.heads h.tails (summary_of h) q i) ≡ (ask_bin ws h q i).answer
  unfolding ask_bin_m
  ask_bin_is q i = go (dec_lt i h.bins) ∙ sym (rule_bin q i)
    where
      past_all : (b : Bool) (a : Answer) → Refused NotThere ≡ cond (b || true) (Refused NotThere) a
      past_all true a = refl
      past_all false a = refl

      go : Dec (i < h.bins)
          → told (ask_bin_m ws h.heads h.tails (summary_of h) q i)
          ≡ cond (not (is_asked q (bin_answers (bin_list ws h i))) || not (ltb i h.bins)) (Refused NotThere) (answer_to q (bin_answers (bin_list ws h i)))
      go (yes l) = rw (lt-ltb i h.bins l) (list_is q i l)
      go (no n) =
          rw (le-leb h.bins i (omega arith), le-ltb i h.bins (omega arith))
          (past_all (not (is_asked q (bin_answers (bin_list ws h i)))) (answer_to q (bin_answers (bin_list ws h i))))
