-- What single tests decide, apart from any call: whether the heap passes, which numbers and lengths are in range, which donors fit,
-- which blocks are live, which outgrow their chunk, and which chunk a question is about. Assumes nothing.
use mathlib.Core.Path.{◌≡◌, refl, sym, ◌∙◌}
use mathlib.Core.Logic.{◌⊎◌, inl, inr}
use mathlib.Core.Bool.{Bool, true, false, not, cond, ◌&&◌, ◌||◌, false≢true}
use mathlib.Core.List.{List}
use Prim.Native.Nat.{ℕ, ◌+◌, ◌-◌, ◌%◌, ◌≤◌, ◌<◌}
use native.Mathlib.Decide.{ℕ_discrete, dec_lt}
use native.Mathlib.Omega.{arith}
use lib.Dec.{leb, ltb}
use lib.ListN.{length}
use borrow.Author.Tests.{eq-eqb, ne_eqb, not-false}
use Rattle.lists.proofs.ListsLaws.{Decides, number_is, at_most, less, meaning, both, or_else, denied, for_some}
use Rattle.record.specs.declared.heap.Heap.{Heap}
use Rattle.rules.specs.Shape.{Entry, shape, heap_bytes}
use Rattle.rules.specs.Kinds.{live, block_of, holds_block}
use Rattle.rules.specs.Check.{Passes, passes}
use Rattle.rules.specs.Draft.{as_read}
use Rattle.rules.specs.Setup.{donor_fits}
use Rattle.rules.specs.Free.{is_live, block_spot}
use Rattle.rules.specs.Ask.{is_there}
use Rattle.rules.proofs.CheckLaws.{passes_iff}
use Rattle.rules.proofs.SpotLaws.{one_chunk, spot_splits, spot_member}
use Rattle.promises.specs.Room.{HoldsBlock}
use Rattle.promises.specs.Refusing.{WrongDonor, AskedOf}

-- a heap that does not fail passes; so does one for which the test for refusal 4 fails
pub passes? : (ws : List ℕ) (h : Heap) → ((Passes ws h → ⊥) → ⊥) → Passes ws h
passes? ws h n = go (passes ws h) refl
  where
    go : (t : Bool) → passes ws h ≡ t → Passes ws h
    go true e = (passes_iff ws h).0 e
    go false e = absurd (n (λ p. false≢true (sym e ∙ (passes_iff ws h).1 p)))

pub not_failing : (ws : List ℕ) (h : Heap) → not (passes ws h) ≡ false → Passes ws h
not_failing ws h q = (passes_iff ws h).0 (not-false (passes ws h) q)

-- z is not in the range from 1 to `most`
pub range_iff : (most z : ℕ) → Decides (not (leb 1 z && leb z most)) ((z ≡ 0) ⊎ (most < z))
range_iff most z =
    meaning (denied (both (at_most 1 z) (at_most z most))) (λ n. outside n (ℕ_discrete z 0)) inside
  where
    outside : ((1 ≤ z) × (z ≤ most) → ⊥) → Dec (z ≡ 0) → (z ≡ 0) ⊎ (most < z)
    outside n (yes e) = inl e
    outside n (no k) = inr (go (dec_lt most z))
      where
        go : Dec (most < z) → most < z
        go (yes l) = l
        go (no m) = absurd (n (omega arith, omega arith))

    inside : (z ≡ 0) ⊎ (most < z) → (1 ≤ z) × (z ≤ most) → ⊥
    inside (inl e) k = omega arith
    inside (inr l) k = omega arith

-- the region's length is in range if setup's test for refusal 1 fails
pub length_in : (ws : List ℕ) → (ltb (length ws) 10 || ltb 16384 (length ws)) ≡ false → (10 ≤ length ws) × (length ws ≤ 16384)
length_in ws q =
    let wrong = (or_else (less (length ws) 10) (less 16384 (length ws))).1 in
    let some : length ws < 10 → ⊥ = λ l. false≢true (sym q ∙ wrong (inl l)) in
    let few : 16384 < length ws → ⊥ = λ l. false≢true (sym q ∙ wrong (inr l)) in
    (omega arith, omega arith)

-- the donor's size is 0, or fits
abbrev pub Fitting : List ℕ → ℕ → Type 0
Fitting ws donor = (donor ≡ 0) ⊎ (((24 ≤ donor) × (donor % 8 ≡ 0)) × (donor ≤ heap_bytes (length ws) - 40))

pub fitting_iff : (ws : List ℕ) (donor : ℕ) → Decides (donor_fits (heap_bytes (length ws)) donor) (Fitting ws donor)
fitting_iff ws donor =
    or_else (number_is donor 0) (both (both (at_most 24 donor) (number_is (donor % 8) 0)) (at_most donor (heap_bytes (length ws) - 40)))

-- the donor's size does not fit
pub donor_iff : (ws : List ℕ) (donor : ℕ) → Decides (not (donor_fits (heap_bytes (length ws)) donor)) (WrongDonor ws donor)
donor_iff ws donor =
    meaning (denied (fitting_iff ws donor))
    (λ n. wrong n (ℕ_discrete donor 0) (dec_lt donor 24) (ℕ_discrete (donor % 8) 0)) right
  where
    wrong : (Fitting ws donor → ⊥) → Dec (donor ≡ 0) → Dec (donor < 24) → Dec (donor % 8 ≡ 0) → WrongDonor ws donor
    wrong n (yes z) _ _ = absurd (n (inl z))
    wrong n (no z) (yes l) _ = (omega arith, inl l)
    wrong n (no z) (no l) (no k) = (omega arith, inr (inl k))
    wrong n (no z) (no l) (yes k) = (omega arith, inr (inr (go (dec_lt (heap_bytes (length ws)) (donor + 40)))))
      where
        go : Dec (heap_bytes (length ws) < donor + 40) → heap_bytes (length ws) < donor + 40
        go (yes g) = g
        go (no g) = absurd (n (inr ((omega arith, k), omega arith)))

    right : WrongDonor ws donor → Fitting ws donor → ⊥
    right (l, _) (inl z) = omega arith
    right (l, inl g) (inr ((large, eight), room)) = omega arith
    right (l, inr (inl g)) (inr ((large, eight), room)) = g eight
    right (l, inr (inr g)) (inr ((large, eight), room)) = omega arith

-- a chunk holds the live block at b
pub holds_iff : (h : Heap) (b : ℕ) (e : Entry) → Decides (holds_block h b e) ((live h e ≡ true) × (block_of e ≡ b))
holds_iff h b e = go (live h e) (number_is (block_of e) b)
  where
    go : {P : Type 0} {u : Bool} (t : Bool) → Decides u P → Decides (cond t u false) ((t ≡ true) × P)
    go true d = meaning d (λ x. (refl, x)) (λ x. x.1)
    go false d = (λ q. absurd (false≢true q), λ x. x.0)

module _ (ws : List ℕ) (h : Heap) where
  -- a live block has its chunk on the chain
  pub live_iff : (b : ℕ) → Decides (is_live (as_read ws h) b) ((e : Entry) × HoldsBlock ws h b e)
  unfolding as_read
  live_iff b =
      meaning (for_some (holds_iff h b) (shape ws h.bytes))
      (λ (e, m, (l, q)). (e, record { member = m; live = l; block = q }))
      (λ (e, k). (e, k.member, (k.live, k.block)))

  -- one chunk holds the block at b
  pub one_block : Passes ws h → (b : ℕ) (d e : Entry) → HoldsBlock ws h b d → HoldsBlock ws h b e → d ≡ e
  one_block p b d e k m = one_chunk ws h p d e k.member m.member (omega arith)

  -- the chunk at which the rule splits the chain holds the live block at b
  module _ (p : Passes ws h) (b : ℕ) (some : (e : Entry) × HoldsBlock ws h b e) where
    abbrev pub here : Entry
    here = (block_spot (as_read ws h) b).here

    pub here_holds : HoldsBlock ws h b here
    unfolding as_read
    here_holds =
        let a = (live_iff b).1 some in
        let k = (holds_iff h b here).0 (spot_splits (holds_block h b) (shape ws h.bytes) a).1 in
        record { member = spot_member (holds_block h b) (shape ws h.bytes) a; live = k.0; block = k.1 }

    -- it is too small exactly if every chunk that holds the block is; only one does
    pub outgrown_iff : (n : ℕ) → Decides (ltb here.size n) ((e : Entry) → HoldsBlock ws h b e → e.size < n)
    outgrown_iff n = meaning (less here.size n) (λ l e k. rw (one_block p b e here k here_holds) l) (λ f. f here here_holds)

  -- the chunk that a question is about
  pub there_iff : (q p : ℕ) → Decides (is_there (as_read ws h) q p) ((e : Entry) × AskedOf ws h q p e)
  unfolding as_read
  there_iff q p = go (ℕ_discrete q 3)
    where
      go : Dec (q ≡ 3) → Decides (is_there (as_read ws h) q p) ((e : Entry) × AskedOf ws h q p e)
      go (yes z) =
          rw (eq-eqb q 3 z)
          (meaning (live_iff p) (λ (e, k). (e, (λ _. k, λ n. absurd (n z)))) (λ (e, k). (e, k.0 z)))
      go (no n) =
          rw (ne_eqb q 3 n)
          (meaning (for_some (λ e. number_is e.place p) (shape ws h.bytes))
          (λ (e, m, k). (e, (λ z. absurd (n z), λ _. (m, k))))
          (λ (e, k). let r = k.1 n in (e, r.0, r.1)))
