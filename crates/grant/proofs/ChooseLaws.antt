-- The four tries, part by part as the code makes them. Assumes nothing.
use Rattle.std.proofs.Common.{◌≡◌, ℕ, Bool, true, false, cond, ◌⊎◌, List, length, sym, refl, ap, ◌∙◌, inl, inr, true≢false, eq-eqb, ne_eqb}
use Rattle.record.specs.declared.heap.Summary.{Summary}
use Rattle.record.specs.declared.sources.Source.{Source}
use Rattle.record.specs.declared.sources.Source.TheVariants.{FromBin, FromDonor, FromTop}
use Rattle.std.specs.Prelude.{Option, Some, None}
use Rattle.record.specs.Table.{small, TakenBy, bin_of}
use Rattle.record.proofs.TableLaws.{bin_is}
use Rattle.region.specs.declared.Chunk.{Chunk}
use Rattle.rules.specs.Serve.{in_order, first_of}
use Rattle.bins.specs.Bins.{chunk_or_none}
use Rattle.record.specs.Heap.{at}
use Rattle.std.proofs.lemmas.Option.{none-some, same_Some}
use native.Mathlib.Decide.{ℕ_discrete}
use Rattle.grant.specs.Choose.{own_m, larger_m, donor_m, top_m, top_or_donor_m, choose_m}

-- the donor's turn does not come before the larger bins: it does not serve, or the need is not small
abbrev pub Later : Bool → Bool → Type 0
Later serves little = (serves ≡ false) ⊎ (little ≡ false)

-- what the tries come to where the own bin has nothing, and where no bin has
larger_next : (little serves : Bool) (c : Chunk) (top : Option Source) → Later serves little
    → Some (FromBin c) ≡ first_of (in_order little None (Some (FromBin c)) (cond serves (Some FromDonor) None) top)
larger_next true true c top (inl q) = absurd (true≢false q)
larger_next true true c top (inr q) = absurd (true≢false q)
larger_next true false c top l = refl
larger_next false serves c top l = refl

rest_next : (little serves top : Bool) → Later serves little
    → top_or_donor_m top serves ≡ first_of (in_order little None None (cond serves (Some FromDonor) None) (cond top (Some FromTop) None))
unfolding top_or_donor_m
rest_next true true top (inl q) = absurd (true≢false q)
rest_next true true top (inr q) = absurd (true≢false q)
rest_next true false true l = refl
rest_next true false false l = refl
rest_next false true true l = refl
rest_next false true false l = refl
rest_next false false true l = refl
rest_next false false false l = refl

-- the source that is chosen, r. It is a record, so that the checker finds by itself what was asked
pub record Chooses (ws table heads : List ℕ) (s : Summary) (n : ℕ) (r : Option Source) : Type 0 where
  pub is : r ≡ choose_m ws table heads s n

pub chooses : {ws table heads : List ℕ} {s : Summary} {n : ℕ} {r : Option Source} → Chooses ws table heads s n r → r ≡ choose_m ws table heads s n
chooses c = c.is

-- a search of a bin found a chunk, or none
found_chunk : {c : Chunk} {m : ℕ} {r : Option Chunk} → r ≡ chunk_or_none m → r ≡ Some c → (c.0 ≡ m) × (c.0 ≡ 0 → ⊥)
found_chunk {c} {m} e s = go (ℕ_discrete m 0) (sym s ∙ e)
  where
    go : Dec (m ≡ 0) → Some c ≡ chunk_or_none m → (c.0 ≡ m) × (c.0 ≡ 0 → ⊥)
    go (yes z) h = absurd (none-some c (sym (rw (eq-eqb m 0 z) at h)))
    go (no n) h =
        let same : c.0 ≡ m = ap (λ (d : Chunk). d.0) (same_Some c (at m) (rw (ne_eqb m 0 n) at h)) in
        (same, λ z. n (sym same ∙ z))

found_none : {m : ℕ} {r : Option Chunk} → r ≡ chunk_or_none m → r ≡ None → m ≡ 0
found_none {m} e s = go (ℕ_discrete m 0) (sym s ∙ e)
  where
    go : Dec (m ≡ 0) → None ≡ chunk_or_none m → m ≡ 0
    go (yes z) h = z
    go (no n) h = absurd (none-some (at m) (rw (ne_eqb m 0 n) at h))

-- b is the need's bin, and `own` what it has
pub record OwnBin (ws table heads : List ℕ) (n : ℕ) (b : Option ℕ) (own : Option Chunk) : Type 0 where
  pub taken : TakenBy table n b
  pub found : own ≡ chunk_or_none (own_m ws heads n b)

module _ {ws table heads : List ℕ} {n : ℕ} {b : Option ℕ} {own : Option Chunk} (o : OwnBin ws table heads n b own) where
  binned : b ≡ bin_of table n
  binned = bin_is table n b o.taken

  own_is : own_m ws heads n (bin_of table n) ≡ own_m ws heads n b
  own_is = ap (own_m ws heads n) (sym binned)

  larger_is : larger_m heads (length table) (bin_of table n) ≡ larger_m heads (length table) b
  larger_is = ap (larger_m heads (length table)) (sym binned)

  -- each try is made where those before it have failed
  module _ {s : Summary} where
    pub from_own : {c : Chunk} → own ≡ Some c → Chooses ws table heads s n (Some (FromBin c))
    unfolding choose_m
    from_own e = let (is, some) = found_chunk o.found e in record { is = rw (own_is, ← is, ne_eqb _ 0 some) }

    module _ (none : own ≡ None) {d : Bool} (ed : d ≡ donor_m ws s.donor.0 n) where
      pub from_donor_first : d ≡ true → small table n ≡ true → Chooses ws table heads s n (Some FromDonor)
      unfolding choose_m
      from_donor_first h little = record { is = rw (own_is, found_none o.found none, sym ed ∙ h, little) }

      module _ {larger : Option Chunk} (el : larger ≡ chunk_or_none (larger_m heads (length table) b)) (later : Later d (small table n)) where
        pub from_larger : {c : Chunk} → larger ≡ Some c → Chooses ws table heads s n (Some (FromBin c))
        unfolding choose_m
        from_larger {c} e =
            let (is, some) = found_chunk el e in
            record { is = rw (own_is, found_none o.found none, ← ed, larger_is, ← is, ne_eqb c.0 0 some) (larger_next (small table n) d c _ later) }

        pub from_rest : larger ≡ None → {t : Bool} → t ≡ top_m ws s.top.0 n → {r : Option Source} → r ≡ top_or_donor_m t d → Chooses ws table heads s n r
        unfolding choose_m
        from_rest e {t} et er =
            record { is = rw (er, own_is, found_none o.found none, ← ed, larger_is, found_none el e, ← et) (rest_next (small table n) d t later) }
