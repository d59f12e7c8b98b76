-- The rule for a bin, proved once for any valid table (manual 3.1; document 01, "The bin table and the record"):
-- which sizes have a bin, which bin it is, and how bins and sizes lie to each other. Assumes nothing.
use Prim.Native.Nat.{ℕ, zero, suc, ◌+◌, ◌*◌, ◌-◌, ◌/◌, ◌%◌, ◌≤◌, ◌<◌}
use native.Mathlib.Nat.{add-zero, add-suc}
use native.Mathlib.Omega.{arith}
use native.Mathlib.Decide.{dec_le}
use mathlib.Core.Logic.{◌⊎◌, inl, inr}
use mathlib.Core.Path.{◌≡◌, refl, sym, ap, subst}
use mathlib.Core.Bool.{Bool, true, false, cond, ◌&&◌}
use mathlib.Core.List.{List, [], ◌∷◌}
use borrow.Author.Tests.{eqb-true, eqb-false, leb-true, leb-false}
use lib.Dec.{eqb, leb, ltb}
use lib.ListN.{length, drop}
use Rattle.lists.proofs.ListsLaws.{Decides, number_is, at_most, less, both, or_else, meaning}
use Rattle.std.specs.Prelude.{Option, Some, None}
use Rattle.record.specs.Table.{size_at, ValidTable, goes_up, valid_table, Takes, TakenBy, one_on, bin_of, eights_from, takes_bin, SmallBins, small_bins, guide_table}

-- the sizes bs after b are multiples of 8, each greater than the one before
pub record Follow (b : ℕ) (bs : List ℕ) : Type 0 where
  pub eights : (i : ℕ) → i < length bs → size_at bs i % 8 ≡ 0
  pub ascends : (i : ℕ) → i < length bs → size_at (b ∷ bs) i < size_at bs i

follow_on : {b c : ℕ} {cs : List ℕ} → c % 8 ≡ 0 → b < c → Follow c cs → Follow b (c ∷ cs)
follow_on {b} {c} {cs} e l f = record { eights = eights; ascends = ascends }
  where
    eights : (i : ℕ) → i < suc (length cs) → size_at (c ∷ cs) i % 8 ≡ 0
    eights zero h = e
    eights (suc i) h = f.eights i (omega arith)

    ascends : (i : ℕ) → i < suc (length cs) → size_at (b ∷ c ∷ cs) i < size_at (c ∷ cs) i
    ascends zero h = l
    ascends (suc i) h = f.ascends i (omega arith)

goes_up_lem : (b : ℕ) (bs : List ℕ) → Decides (goes_up b bs) (Follow b bs)
goes_up_lem b [] =
    (λ h. record { eights = λ i l. absurd (omega arith); ascends = λ i l. absurd (omega arith) }, λ f. refl)
goes_up_lem b (c ∷ cs) =
    meaning (both (both (number_is (c % 8) 0) (less b c)) (goes_up_lem c cs))
    (λ ((eight, up), further). follow_on eight up further)
    (λ f. (
      (f.eights 0 (omega arith), f.ascends 0 (omega arith)),
      record {
        eights = λ i l. f.eights (suc i) (omega arith);
        ascends = λ i l. f.ascends (suc i) (omega arith);
      },
    ))

-- the test of a table decides its validity
pub valid_iff : (t : List ℕ) → Decides (valid_table t) (ValidTable t)
unfolding valid_table
valid_iff t =
    meaning
    (both (both (both (at_most 1 (length t)) (at_most (length t) 32)) (number_is (size_at t 0) 24)) (goes_up_lem 24 (drop 1 t)))
    (λ (((some, few), first), up). made t some few first up)
    (λ v. (((v.some, v.few), v.first), rest t v))
  where
    made : (t : List ℕ) → 1 ≤ length t → length t ≤ 32 → size_at t 0 ≡ 24 → Follow 24 (drop 1 t) → ValidTable t
    made [] some few first f = absurd (omega arith)
    made (b ∷ bs) some few first f =
        record { some = some; few = few; first = first; eights = eights; ascends = ascends }
      where
        eights : (i : ℕ) → i < suc (length bs) → size_at (b ∷ bs) i % 8 ≡ 0
        eights zero h = omega arith
        eights (suc i) h = f.eights i (omega arith)

        ascends : (i : ℕ) → suc i < suc (length bs) → size_at (b ∷ bs) i < size_at bs i
        ascends zero h = let a = f.ascends 0 (omega arith) in omega arith
        ascends (suc i) h = f.ascends (suc i) (omega arith)

    rest : (t : List ℕ) → ValidTable t → Follow 24 (drop 1 t)
    rest [] v = absurd (omega (arith, v.some))
    rest (b ∷ bs) v = record { eights = λ i h. v.eights (suc i) (omega arith); ascends = ascends }
      where
        ascends : (i : ℕ) → i < length bs → size_at (24 ∷ bs) i < size_at bs i
        ascends zero h = let a = v.ascends 0 (omega arith) in omega (arith, v.first)
        ascends (suc i) h = v.ascends (suc i) (omega arith)

-- what the definition computes is the last bin whose size is not above, on any table
pub bin_taken : (t : List ℕ) (s : ℕ) → TakenBy t s (bin_of t s)
bin_taken [] s = λ i h. absurd (omega arith)
bin_taken (b ∷ bs) s = go (bin_of bs s) (bin_taken bs s) (leb b s) refl
  where
    go : (r : Option ℕ) → TakenBy bs s r → (n : Bool) → leb b s ≡ n → TakenBy (b ∷ bs) s (one_on r n)
    go (Some i) k n e = record { inside = omega (arith, k.inside); not_above = k.not_above; last = above }
      where
        above : (j : ℕ) → suc i < j → j < suc (length bs) → s < size_at (b ∷ bs) j
        above zero lo hi = absurd (omega arith)
        above (suc j) lo hi = k.last j (omega arith) (omega arith)
    go None k true e = record { inside = omega arith; not_above = leb-true b s e; last = above }
      where
        above : (j : ℕ) → 0 < j → j < suc (length bs) → s < size_at (b ∷ bs) j
        above zero lo hi = absurd (omega arith)
        above (suc j) lo hi = k j (omega arith)
    go None k false e = above
      where
        above : (j : ℕ) → j < suc (length bs) → s < size_at (b ∷ bs) j
        above zero hi = leb-false b s e
        above (suc j) hi = k j (omega arith)

module _ (t : List ℕ) where
  -- the bin that it computes takes the size
  pub bin_takes : {s i : ℕ} → bin_of t s ≡ Some i → Takes t s i
  bin_takes {s} e = subst (λ (r : Option ℕ). TakenBy t s r) e (bin_taken t s)

  -- a larger size has no smaller bin; the sizes of a larger bin are larger
  pub bin_grows : {s u i j : ℕ} → Takes t s i → Takes t u j → s ≤ u → i ≤ j
  bin_grows {s} {u} {i} {j} a b h = go (dec_le i j)
    where
      go : Dec (i ≤ j) → i ≤ j
      go (yes l) = l
      go (no n) = let c = b.last i (omega arith) a.inside in absurd (omega (arith, a.not_above))

  pub sizes_grow : {s u i j : ℕ} → Takes t s i → Takes t u j → i < j → s < u
  sizes_grow {s} {u} {i} {j} a b h = let c = a.last j h b.inside in omega (arith, b.not_above)

  takes_one : {s i j : ℕ} → Takes t s i → Takes t s j → i ≡ j
  takes_one a b = let c = bin_grows a b (omega arith) in let d = bin_grows b a (omega arith) in omega arith

  -- a size is taken by one bin, or by none
  pub bin_one : (s : ℕ) (r q : Option ℕ) → TakenBy t s r → TakenBy t s q → r ≡ q
  bin_one s (Some i) (Some j) a b = ap Some (takes_one a b)
  bin_one s (Some i) None a b = let c = b i a.inside in absurd (omega (arith, a.not_above))
  bin_one s None (Some j) a b = let c = a j b.inside in absurd (omega (arith, b.not_above))
  bin_one s None None a b = refl

  pub bin_is : (s : ℕ) (r : Option ℕ) → TakenBy t s r → r ≡ bin_of t s
  bin_is s r k = bin_one s r (bin_of t s) k (bin_taken t s)

-- where a run of eights from `next` ends
run_in : (next : ℕ) (bs : List ℕ) → eights_from next bs ≤ length bs
run_in next [] = omega arith
run_in next (b ∷ bs) = go (eqb b next) (run_in (next + 8) bs)
  where
    go : (t : Bool) → eights_from (next + 8) bs ≤ length bs → cond t (suc (eights_from (next + 8) bs)) 0 ≤ suc (length bs)
    go true h = omega arith
    go false h = omega arith

run_at : (next : ℕ) (bs : List ℕ) (i : ℕ) → i < eights_from next bs → size_at bs i ≡ next + 8 * i
run_at next [] i h = absurd (omega arith)
run_at next (b ∷ bs) i h = go (eqb b next) refl i h (λ k l. run_at (next + 8) bs k l)
  where
    go : (t : Bool) → eqb b next ≡ t → (i : ℕ) → i < cond t (suc (eights_from (next + 8) bs)) 0
        → ((k : ℕ) → k < eights_from (next + 8) bs → size_at bs k ≡ next + 8 + 8 * k) → size_at (b ∷ bs) i ≡ next + 8 * i
    go true e zero h r = let q = eqb-true b next e in omega arith
    go true e (suc i) h r = let q = r i (omega arith) in omega arith
    go false e i h r = absurd (omega arith)

run_end : (next : ℕ) (bs : List ℕ) → eights_from next bs < length bs → size_at bs (eights_from next bs) ≡ next + 8 * eights_from next bs → ⊥
run_end next [] h e = omega arith
run_end next (b ∷ bs) h e = go (eqb b next) refl h e (λ l q. run_end (next + 8) bs l q)
  where
    go : (t : Bool) → eqb b next ≡ t → cond t (suc (eights_from (next + 8) bs)) 0 < suc (length bs)
        → size_at (b ∷ bs) (cond t (suc (eights_from (next + 8) bs)) 0) ≡ next + 8 * cond t (suc (eights_from (next + 8) bs)) 0
        → (eights_from (next + 8) bs < length bs → size_at bs (eights_from (next + 8) bs) ≡ next + 8 + 8 * eights_from (next + 8) bs → ⊥) → ⊥
    go true q h e r = r (omega arith) (omega arith)
    go false q h e r = eqb-false b next q (omega arith)

-- m is what the document says of it
pub small_bins_is : (t : List ℕ) → ValidTable t → SmallBins t (small_bins t)
small_bins_is [] v = absurd (omega (arith, v.some))
small_bins_is (b ∷ bs) v =
    record { below = omega (arith, run_in 32 bs); gapless = gapless; greatest = greatest }
  where
    gapless : (i : ℕ) → i ≤ eights_from 32 bs → size_at (b ∷ bs) i ≡ 24 + 8 * i
    gapless zero h = omega (arith, v.first)
    gapless (suc i) h = let e = run_at 32 bs i (omega arith) in omega arith

    greatest : (k : ℕ) → k < suc (length bs) → ((i : ℕ) → i ≤ k → size_at (b ∷ bs) i ≡ 24 + 8 * i) → k ≤ eights_from 32 bs
    greatest k hk f = go (dec_le k (eights_from 32 bs))
      where
        go : Dec (k ≤ eights_from 32 bs) → k ≤ eights_from 32 bs
        go (yes l) = l
        go (no n) =
            let e = f (suc (eights_from 32 bs)) (omega arith) in
            absurd (run_end 32 bs (omega arith) (omega arith))

module _ (t : List ℕ) (v : ValidTable t) where
  -- sizes further up the table are larger
  pub table_grows : (i k : ℕ) → suc (i + k) < length t → size_at t i < size_at t (suc (i + k))
  table_grows i zero h = rw (add-zero i) (v.ascends i (omega arith))
  table_grows i (suc k) h =
      let a = table_grows i k (omega arith) in
      let b = v.ascends (suc (i + k)) (omega arith) in
      rw (add-suc i k) (omega arith)

  pub table_up : (i j : ℕ) → i < j → j < length t → size_at t i < size_at t j
  table_up i j l h =
      let e : suc (i + (j - suc i)) ≡ j = omega arith in
      rw e at (table_grows i (j - suc i) (omega arith))

  -- each size is 8 above the one before, or more
  table_by_eights : (i k : ℕ) → i + k < length t → size_at t i + 8 * k ≤ size_at t (i + k)
  table_by_eights i zero h = rw (add-zero i) (omega arith)
  table_by_eights i (suc k) h =
      let a = table_by_eights i k (omega arith) in
      let b = v.ascends (i + k) (omega arith) in
      let c = v.eights (i + k) (omega arith) in
      let d = v.eights (suc (i + k)) (omega arith) in
      rw (add-suc i k) (omega arith)

  -- Bin i lies in the small array exactly if there is a bin i + 1 and its size is 24 + 8(i + 1): a gap below it would make it larger.
  -- So nobody need count m.
  pub in_small_iff : (i : ℕ) → Decides (ltb (suc i) (length t) && eqb (size_at t (suc i)) (24 + 8 * suc i)) (i < small_bins t)
  in_small_iff i =
      meaning (both (less (suc i) (length t)) (number_is (size_at t (suc i)) (24 + 8 * suc i)))
      (λ (there, next). m.greatest (suc i) there (λ j l. filled there next j l))
      (λ l. (omega (arith, m.below), m.gapless (suc i) (omega arith)))
    where
      m : SmallBins t (small_bins t)
      m = small_bins_is t v

      -- no size up to that one is left out
      filled : suc i < length t → size_at t (suc i) ≡ 24 + 8 * suc i → (j : ℕ) → j ≤ suc i → size_at t j ≡ 24 + 8 * j
      filled there next j l =
          let b : 0 + j ≡ j = omega arith in
          let e : j + (suc i - j) ≡ suc i = omega arith in
          let low = rw b at (table_by_eights 0 j (omega arith)) in
          let high = rw e at (table_by_eights j (suc i - j) (omega arith)) in
          omega (arith, v.first)

  -- a size that is not small has a bin above the small array
  pub bin_upper : {s i : ℕ} → Takes t s i → 24 + 8 * small_bins t ≤ s → small_bins t ≤ i
  bin_upper {s} {i} k h = go (dec_le (small_bins t) i)
    where
      go : Dec (small_bins t ≤ i) → small_bins t ≤ i
      go (yes l) = l
      go (no n) =
          let m = small_bins_is t v in
          let a = k.last (small_bins t) (omega arith) m.below in
          let b = m.gapless (small_bins t) (omega arith) in
          absurd (omega arith)

  -- there is a bin for every size from 24 on
  pub bin_from : (s : ℕ) → 24 ≤ s → (i : ℕ) × (bin_of t s ≡ Some i) × Takes t s i
  bin_from s h = go (bin_of t s) refl (bin_taken t s)
    where
      go : (r : Option ℕ) → bin_of t s ≡ r → TakenBy t s r → (i : ℕ) × (bin_of t s ≡ Some i) × Takes t s i
      go (Some i) e k = (i, e, k)
      go None e k = let a = k 0 (omega (arith, v.some)) in absurd (omega (arith, v.first))

  -- a smaller size has none
  pub none_takes : (s : ℕ) → s < 24 → TakenBy t s None
  none_takes s h zero l = omega (arith, v.first)
  none_takes s h (suc i) l = let a = table_up 0 (suc i) (omega arith) l in omega (arith, v.first)

  pub bin_none : (s : ℕ) → s < 24 → bin_of t s ≡ None
  bin_none s h = sym (bin_is t s None (none_takes s h))

  -- the small array: the bin of a size is found by division
  pub division_takes : (s : ℕ) → 24 ≤ s → s < 24 + 8 * small_bins t → Takes t s (s / 8 - 3)
  division_takes s lo hi =
      let m = small_bins_is t v in
      let here = m.gapless (s / 8 - 3) (omega arith) in
      record { inside = omega (arith, m.below); not_above = omega arith; last = above }
    where
      above : (j : ℕ) → s / 8 - 3 < j → j < length t → s < size_at t j
      above j l h = go (dec_le j (suc (s / 8 - 3)))
        where
          go : Dec (j ≤ suc (s / 8 - 3)) → s < size_at t j
          go (yes q) =
              let next = (small_bins_is t v).gapless j (omega arith) in
              omega arith
          go (no n) =
              let next = (small_bins_is t v).gapless (suc (s / 8 - 3)) (omega arith) in
              let up = table_up (suc (s / 8 - 3)) j (omega arith) h in
              omega arith

  pub bin_small : (s : ℕ) → 24 ≤ s → s < 24 + 8 * small_bins t → bin_of t s ≡ Some (s / 8 - 3)
  bin_small s lo hi = sym (bin_is t s (Some (s / 8 - 3)) (division_takes s lo hi))

  -- a bin of the small array takes one multiple of 8 only
  pub one_size : {s i : ℕ} → Takes t s i → i < small_bins t → s % 8 ≡ 0 → s ≡ 24 + 8 * i
  one_size {s} {i} k l z =
      let m = small_bins_is t v in
      let low = m.gapless i (omega arith) in
      let high = m.gapless (suc i) (omega arith) in
      omega (arith, k.not_above, k.last (suc i) (omega arith) (omega (arith, m.below)))

  -- the comparison with two sizes decides which bin a size has
  pub takes_iff : (i s : ℕ) → Decides (takes_bin t i s) (bin_of t s ≡ Some i)
  unfolding takes_bin
  takes_iff i s =
      meaning (both (both (less i (length t)) (at_most (size_at t i) s)) (or_else (at_most (length t) (suc i)) (less s (size_at t (suc i)))))
      (λ ((inside, not_above), next). sym (bin_is t s (Some i) (record { inside = inside; not_above = not_above; last = λ j lo hi. above next j lo hi })))
      (λ e. back (bin_takes t e))
    where
      above : (length t ≤ suc i) ⊎ (s < size_at t (suc i)) → (j : ℕ) → i < j → j < length t → s < size_at t j
      above (inl l) j lo hi = absurd (omega arith)
      above (inr l) j lo hi = go (dec_le j (suc i))
        where
          go : Dec (j ≤ suc i) → s < size_at t j
          go (yes q) = let e : j ≡ suc i = omega arith in rw e l
          go (no n) = let u = table_up (suc i) j (omega arith) hi in omega arith

      back : Takes t s i → ((i < length t) × (size_at t i ≤ s)) × ((length t ≤ suc i) ⊎ (s < size_at t (suc i)))
      back k = ((k.inside, k.not_above), go (dec_le (length t) (suc i)))
        where
          go : Dec (length t ≤ suc i) → (length t ≤ suc i) ⊎ (s < size_at t (suc i))
          go (yes l) = inl l
          go (no n) = inr (k.last (suc i) (omega arith) (omega arith))

-- the guide's table is valid, and its m is 13
pub guide_valid : valid_table guide_table ≡ true
unfolding valid_table
guide_valid = refl

pub guide_m : small_bins guide_table ≡ 13
guide_m = refl
