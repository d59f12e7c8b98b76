-- The tests before and after the two walks, part by part as the code makes them. Assumes nothing.
use mathlib.Core.Path.{◌≡◌, refl, sym, ◌∙◌, ap, subst}
use mathlib.Core.Bool.{Bool, true, false, ◌&&◌}
use mathlib.Core.List.{List}
use Rattle.std.proofs.Common.{Option, Some, None}
use Prim.Native.Nat.{ℕ, zero, suc, ◌<◌}
use native.Mathlib.Omega.{arith}
use lib.Bits.{bit_or, or_add_and, and_le_r}
use lib.Dec.{eqb}
use lib.ListN.{length, get_or}
use lib.Seq.{drop-cons}
use borrow.Author.Tests.{eq-eqb, ne_eqb}
use Rattle.lists.specs.Lists.{numbers_from}
use Rattle.marks.specs.Marks.{clear}
use Rattle.record.specs.declared.heap.Summary.{Summary}
use Rattle.record.specs.Heap.{places}
use Rattle.rules.specs.Check.{unused_from}
use Rattle.survey.specs.declared.Tally.{Tally}
use Rattle.survey.specs.Survey.{whole_chain, SurveyedIs}
use Rattle.sweep.specs.Sweep.{all_whole, CleanIs, SweepIs}
use Rattle.audit.specs.Audit.{HasPlaces, is_settled_m, is_shared_m, tally, marks_of, walks_well, WalkedIs}

-- a conjunction of many parts: a part fails, and the rest does not matter; a part holds, and the next decides
still : (b : Bool) {a : Bool} → false ≡ a → false ≡ (a && b)
still b e = rw (← e)

hold : {a b t : Bool} → true ≡ a → t ≡ b → t ≡ (a && b)
hold e k = rw (← e) k

-- an or of numbers is 0 exactly if all of them are: of two, of four
or_zero : (a b : ℕ) → eqb (bit_or a b) 0 ≡ (eqb a 0 && eqb b 0)
or_zero zero b = refl
or_zero (suc a) b =
    rw (ne_eqb (bit_or (suc a) b) 0 (λ e. omega (arith, or_add_and (suc a) b, and_le_r (suc a) b)), ne_eqb (suc a) 0 (λ e. omega arith))

four_zero : (a b c d : ℕ) → eqb (bit_or a (bit_or (bit_or b c) d)) 0 ≡ (eqb a 0 && (eqb b 0 && eqb c 0 && eqb d 0))
four_zero a b c d = rw (or_zero a (bit_or (bit_or b c) d), or_zero (bit_or b c) d, or_zero b c)

-- four tests, of which the middle two change their places
swap : (a b c d : Bool) → ((a && b) && (c && d)) ≡ ((a && c) && (b && d))
swap true true c d = refl
swap true false true d = refl
swap true false false d = refl
swap false b c d = refl

-- of three arrays, whether a place is 0 (a, b, c) and whether all past it are (x, y, z): the two tests of each array stand together
array_by_array : (t a b c x y z : Bool) → ((t && (a && b && c)) && (x && y && z)) ≡ (t && ((a && x) && (b && y) && (c && z)))
array_by_array true a b c x y z = swap (a && b) c (x && y) z ∙ rw (swap a b x y)
array_by_array false a b c x y z = refl

-- the rest of an array is unused: its next place, and what is past it
unused_one : (l : List ℕ) (i : ℕ) → i < length l → unused_from i l ≡ (eqb (get_or l i 0) 0 && unused_from (suc i) l)
unused_one l i h = rw (drop-cons l i 0 h)

-- the rest of the three arrays is unused
abbrev pub unused_all : ℕ → List ℕ → List ℕ → List ℕ → Bool
unused_all i sizes heads tails = unused_from i sizes && unused_from i heads && unused_from i tails

-- one place after the other; seen is the or of all words up to there
module _ (sizes heads tails : List ℕ) (p : HasPlaces sizes heads tails) (i : ℕ) where
  pub unused_goes : i < places → (seen : ℕ)
      → (eqb (bit_or seen (bit_or (bit_or (get_or sizes i 0) (get_or heads i 0)) (get_or tails i 0))) 0 && unused_all (suc i) sizes heads tails)
      ≡ (eqb seen 0 && unused_all i sizes heads tails)
  unused_goes h seen =
      rw (
        four_zero seen (get_or sizes i 0) (get_or heads i 0) (get_or tails i 0),
        unused_one sizes i (omega (arith, p.size_places)),
        unused_one heads i (omega (arith, p.head_places)),
        unused_one tails i (omega (arith, p.tail_places)),
      )
      (array_by_array (eqb seen 0) (eqb (get_or sizes i 0) 0) (eqb (get_or heads i 0) 0) (eqb (get_or tails i 0) 0) (unused_from (suc i) sizes)
      (unused_from (suc i) heads) (unused_from (suc i) tails))

-- the walk of the chain came through with the tally t and the marks ms, and passed the tests that follow it, of the tally and of the used bytes
pub record WalkedChain (ws : List ℕ) (s : Summary) (t : Tally) (ms : List ℕ) : Type 0 where
  pub survey : SurveyedIs ws s clear ms t
  pub settled : true ≡ is_settled_m t s
  pub used : true ≡ is_shared_m t.free s

-- what the walk of the chain leaves of the tests that make the whole: their parts so far are true
module _ (ws table heads tails : List ℕ) (s : Summary) where
  abbrev whole : Tally
  whole = tally ws table heads tails s

  abbrev made : List ℕ
  made = marks_of ws table heads tails s

  module _ {ms : List ℕ} {t : Tally} (survey : SurveyedIs ws s clear ms t) where
    settles : is_settled_m t s ≡ is_settled_m whole s
    settles = ap (λ (u : Tally). is_settled_m u s) survey.tally

    first_two : true ≡ is_settled_m t s → true ≡ (whole_chain ws s && is_settled_m whole s)
    first_two f = hold (sym survey.whole) (f ∙ settles)

    shares : is_shared_m t.free s ≡ is_shared_m whole.free s
    shares = ap (λ (u : Tally). is_shared_m u.free s) survey.tally

  module _ {ms : List ℕ} {t : Tally} (chain : WalkedChain ws s t ms) where
    first_three : true ≡ (whole_chain ws s && is_settled_m whole s && is_shared_m whole.free s)
    first_three = hold (first_two chain.survey chain.settled) (chain.used ∙ shares chain.survey)

    -- the sweep was of the marks that the walk of the chain made
    swept : (found : Option ℕ) → SweepIs ws table heads tails s.bytes ms found → SweepIs ws table heads tails s.bytes made found
    swept found w = subst (λ (m : List ℕ). SweepIs ws table heads tails s.bytes m found) chain.survey.marks w

    clean : {met : ℕ} → SweepIs ws table heads tails s.bytes ms (Some met) → CleanIs ws table heads tails s.bytes made met
    unfolding SweepIs
    clean {met} w = swept (Some met) w

    first_four : {met : ℕ} → CleanIs ws table heads tails s.bytes made met
        → true
        ≡ (whole_chain ws s && is_settled_m whole s && is_shared_m whole.free s
        && all_whole ws table heads tails s.bytes made (numbers_from 0 (length table)))
    first_four c = hold first_three (sym c.whole)

-- so each test of the code decides the whole, or hands on to the next
module _ (ws table heads tails : List ℕ) (s : Summary) where
  pub walk_broken : whole_chain ws s ≡ false → WalkedIs ws table heads tails s None
  unfolding WalkedIs walks_well
  walk_broken e = sym (still _ (still _ (still _ (still _ (sym e)))))

  module _ {ms : List ℕ} {t : Tally} where
    pub not_settled : SurveyedIs ws s clear ms t → false ≡ is_settled_m t s → WalkedIs ws table heads tails s None
    unfolding WalkedIs walks_well
    not_settled survey f = sym (still _ (still _ (still _ (hold (sym survey.whole) (f ∙ settles ws table heads tails s survey)))))

    pub other_used : SurveyedIs ws s clear ms t → true ≡ is_settled_m t s → false ≡ is_shared_m t.free s → WalkedIs ws table heads tails s None
    unfolding WalkedIs walks_well
    other_used survey f g =
        sym (still _ (still _ (hold (first_two ws table heads tails s survey f) (g ∙ shares ws table heads tails s survey))))

    module _ (chain : WalkedChain ws s t ms) where
      pub lists_dirty : SweepIs ws table heads tails s.bytes ms None → WalkedIs ws table heads tails s None
      unfolding WalkedIs walks_well SweepIs
      lists_dirty w = sym (still _ (hold (first_three ws table heads tails s chain) (sym (swept ws table heads tails s chain None w))))

      module _ {met : ℕ} (w : SweepIs ws table heads tails s.bytes ms (Some met)) where
        pub other_count : (met ≡ t.ordinary → ⊥) → WalkedIs ws table heads tails s None
        unfolding WalkedIs walks_well
        other_count n =
            let c = clean ws table heads tails s chain w in
            let is_tally = ap (λ (u : Tally). u.ordinary) chain.survey.tally in
            sym (hold (first_four ws table heads tails s chain c) (sym (ne_eqb _ _ (λ x. n (c.count ∙ x ∙ sym is_tally)))))

        pub all_well : met ≡ t.ordinary
            → WalkedIs ws table heads tails s (Some (record { chunks = t.chunks; ordinary = t.ordinary; used = s.used; free = t.free }))
        unfolding WalkedIs walks_well
        all_well m =
            let c = clean ws table heads tails s chain w in
            let is_tally = chain.survey.tally in (
              sym (hold (first_four ws table heads tails s chain c) (sym (eq-eqb _ _ (sym c.count ∙ m ∙ ap (λ (u : Tally). u.ordinary) is_tally)))),
              ap (λ (u : Tally). record { chunks = u.chunks; ordinary = u.ordinary; used = s.used; free = u.free }) is_tally,
            )
