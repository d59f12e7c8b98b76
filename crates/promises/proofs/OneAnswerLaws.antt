-- `Telling` leaves no answer open: each question that is not refused has one answer, and every way that keeps the promise gives it
-- (`one_of_chunk`, `one_of_bin`). Assumes nothing.
use Rattle.std.specs.Prelude.{Some, None}
use mathlib.Core.Path.{◌≡◌, refl, sym, ap, ◌∙◌}
use mathlib.Core.Bool.{Bool, true, false}
use mathlib.Core.List.{List, [], ◌∷◌, ◌++◌, cons≢nil}
use Prim.Native.Nat.{ℕ, zero, suc, ◌≤◌, ◌<◌}
use native.Mathlib.Decide.{ℕ_discrete}
use native.Mathlib.Omega.{arith}
use lib.Dec.{eqb}
use lib.ListN.{length}
use Rattle.lists.specs.Lists.{Mem, last_or, but_last, up_to, past}
use Rattle.lists.proofs.SplitLaws.{ends_with, split_before, split_at_member}
use Rattle.record.specs.declared.answers.Answer.{Answer}
use Rattle.record.specs.declared.answers.Answer.TheVariants.{Told}
use Rattle.record.specs.declared.heap.Heap.{Heap}
use Rattle.rules.specs.Shape.{Entry, shape, bin_list}
use Rattle.rules.specs.Kinds.{is_at, in_use, ordinary, live, block_of}
use Rattle.rules.specs.Check.{Passes}
use Rattle.rules.specs.Draft.{spot}
use Rattle.rules.proofs.SpotLaws.{spot_at}
use Rattle.promises.specs.Ways.{Way}
use Rattle.promises.specs.Refusing.{AskedOf}
use Rattle.promises.specs.Telling.{of_chunk, of_bin, Telling}

-- there is an answer that every way gives which keeps the promise
abbrev pub OneAnswer : (Way → Answer) → Type 0
OneAnswer given = (a : Answer) × ((way : Way) → Telling way → given way ≡ a)

module _ (ws : List ℕ) (h : Heap) (p : Passes ws h) where
  abbrev es : List Entry
  es = shape ws h.bytes

  abbrev pub OfChunk : ℕ → ℕ → Type 0
  OfChunk q c = OneAnswer (λ way. of_chunk way ws h q c)

  -- the next and the previous chunk, with the chain cut at e
  after : (low : List Entry) (e : Entry) (high : List Entry) → es ≡ low ++ e ∷ high → OfChunk 4 e.place
  after low e [] s = (Told None, λ way t. (t ws h p).no_next e (low, s))
  after low e (d ∷ high) s = (Told (Some d.place), λ way t. (t ws h p).next e d (low, high, s))

  before : (low : List Entry) (e : Entry) (high : List Entry) → es ≡ low ++ e ∷ high → OfChunk 6 e.place
  before [] e high s = (Told None, λ way t. (t ws h p).no_previous e (high, s))
  before (d ∷ low) e high s =
      (Told (Some (last_or d low).place), λ way t. (t ws h p).previous (last_or d low) e (but_last (d ∷ low), high, split_before d (d ∷ low) e high cons≢nil s))

  -- in the list of bin i, cut at c
  module _ (i : ℕ) (l : i < h.bins) where
    after_in_bin_lem : (low : List ℕ) (c : ℕ) (high : List ℕ) → bin_list ws h i ≡ low ++ c ∷ high → OfChunk 5 c
    after_in_bin_lem low c [] s = (Told None, λ way t. (t ws h p).no_next_in_bin i c l (low, s))
    after_in_bin_lem low c (d ∷ high) s = (Told (Some d), λ way t. (t ws h p).next_in_bin i c d l (low, high, s))

    before_in_bin_lem : (low : List ℕ) (c : ℕ) (high : List ℕ) → bin_list ws h i ≡ low ++ c ∷ high → OfChunk 7 c
    before_in_bin_lem [] c high s = (Told None, λ way t. (t ws h p).no_previous_in_bin i c l (high, s))
    before_in_bin_lem (d ∷ low) c high s =
        (Told (Some (last_or d low)), λ way t. (t ws h p).previous_in_bin i (last_or d low) c l (but_last (d ∷ low), high, split_before d (d ∷ low) c high cons≢nil s))

  -- by the kind of a chunk
  module _ (e : Entry) (m : Mem e es) where
    its_bin : (t : Bool) → ordinary h e ≡ t → OfChunk 1 e.place
    its_bin true o = let (i, takes, (below, listed)) = p.binned e m o in (Told (Some i), λ way t. (t ws h p).bin i e.place below listed)
    its_bin false o = (Told None, λ way t. (t ws h p).no_bin e m o)

    its_block : (t : Bool) → live h e ≡ t → OfChunk 2 e.place
    its_block true k = (Told (Some (block_of e)), λ way t. (t ws h p).block (block_of e) e (record { member = m; live = k; block = refl }))
    its_block false k = (Told None, λ way t. (t ws h p).no_block e m k)

    its_next : (t : Bool) → ordinary h e ≡ t → OfChunk 5 e.place
    its_next true o =
        let (i, takes, (below, listed)) = p.binned e m o in
        after_in_bin_lem i below (up_to (eqb e.place) (bin_list ws h i)) e.place (past (eqb e.place) (bin_list ws h i)) (split_at_member listed)
    its_next false o = (Told None, λ way t. ((t ws h p).not_listed e m o).0)

    its_previous : (t : Bool) → ordinary h e ≡ t → OfChunk 7 e.place
    its_previous true o =
        let (i, takes, (below, listed)) = p.binned e m o in
        before_in_bin_lem i below (up_to (eqb e.place) (bin_list ws h i)) e.place (past (eqb e.place) (bin_list ws h i)) (split_at_member listed)
    its_previous false o = (Told None, λ way t. ((t ws h p).not_listed e m o).1)

    its_type : (t : Bool) → in_use e ≡ t → OfChunk 9 e.place
    its_type true u = (Told (Some 1), λ way t. (t ws h p).used e m u)
    its_type false u = (Told (Some 0), λ way t. (t ws h p).free e m u)

    split : es ≡ (spot (is_at e.place) es).low ++ e ∷ (spot (is_at e.place) es).high
    split = (spot_at ws h p e.place e m refl).split

    its_answer : (q : ℕ) → 1 ≤ q → q ≤ 9 → (q ≡ 3 → ⊥) → OfChunk q e.place
    its_answer zero lo hi n = absurd (omega arith)
    its_answer (suc zero) lo hi n = its_bin (ordinary h e) refl
    its_answer (suc (suc zero)) lo hi n = its_block (live h e) refl
    its_answer (suc (suc (suc zero))) lo hi n = absurd (n refl)
    its_answer (suc (suc (suc (suc zero)))) lo hi n = after (spot (is_at e.place) es).low e (spot (is_at e.place) es).high split
    its_answer (suc (suc (suc (suc (suc zero))))) lo hi n = its_next (ordinary h e) refl
    its_answer (suc (suc (suc (suc (suc (suc zero)))))) lo hi n = before (spot (is_at e.place) es).low e (spot (is_at e.place) es).high split
    its_answer (suc (suc (suc (suc (suc (suc (suc zero))))))) lo hi n = its_previous (ordinary h e) refl
    its_answer (suc (suc (suc (suc (suc (suc (suc (suc zero)))))))) lo hi n = (Told (Some e.size), λ way t. (t ws h p).size e m)
    its_answer (suc (suc (suc (suc (suc (suc (suc (suc (suc zero))))))))) lo hi n = its_type (in_use e) refl
    its_answer (suc (suc (suc (suc (suc (suc (suc (suc (suc (suc q)))))))))) lo hi n = absurd (omega arith)

  -- a question about a chunk, or about a live block, that exists
  pub one_of_chunk : (q c : ℕ) → 1 ≤ q → q ≤ 9 → (e : Entry) → AskedOf ws h q c e → OfChunk q c
  one_of_chunk q c lo hi e (of_block, of_chunk_lem) = go (ℕ_discrete q 3)
    where
      go : Dec (q ≡ 3) → OfChunk q c
      go (yes z) = rw z (Told (Some e.place), λ way t. (t ws h p).holder c e (of_block z))
      go (no n) =
          let (m, place) = of_chunk_lem n in
          let (a, given) = its_answer e m q lo hi n in
          (a, λ way t. ap (of_chunk way ws h q) (sym place) ∙ given way t)

  -- a question about a bin that exists
  pub one_of_bin : (q i : ℕ) → 1 ≤ q → q ≤ 3 → i < h.bins → OneAnswer (λ way. of_bin way ws h q i)
  one_of_bin zero i lo hi l = absurd (omega arith)
  one_of_bin (suc zero) i lo hi l = (Told (Some (length (bin_list ws h i))), λ way t. (t ws h p).count i l)
  one_of_bin (suc (suc zero)) i lo hi l = first (bin_list ws h i) refl
    where
      first : (cs : List ℕ) → bin_list ws h i ≡ cs → OneAnswer (λ way. of_bin way ws h 2 i)
      first [] s = (Told None, λ way t. (t ws h p).no_first i l s)
      first (c ∷ cs) s = (Told (Some c), λ way t. (t ws h p).first i c l (cs, s))
  one_of_bin (suc (suc (suc zero))) i lo hi l = last (bin_list ws h i) refl
    where
      last : (cs : List ℕ) → bin_list ws h i ≡ cs → OneAnswer (λ way. of_bin way ws h 3 i)
      last [] s = (Told None, λ way t. (t ws h p).no_last i l s)
      last (c ∷ cs) s = (Told (Some (last_or c cs)), λ way t. (t ws h p).last i (last_or c cs) l (but_last (c ∷ cs), s ∙ ends_with c (c ∷ cs) cons≢nil))
  one_of_bin (suc (suc (suc (suc q)))) i lo hi l = absurd (omega arith)
