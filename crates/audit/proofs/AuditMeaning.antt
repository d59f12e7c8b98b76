-- The code's check is the check of the rules, both ways, on every region: length and table first, then the walks of the even part
-- (`audit_short`, `audit_untabled`, `audit_walked`); and the answer by what was found. Assumes nothing.
use mathlib.Core.Path.{◌≡◌, sym, ◌∙◌, ap}
use mathlib.Core.Bool.{true, false, false≢true}
use mathlib.Core.List.{List}
use Rattle.std.proofs.Common.{Option, Some, None, is_some}
use Prim.Native.Nat.{ℕ, ◌*◌, ◌/◌, ◌≤◌}
use native.Mathlib.Omega.{arith}
use lib.ListN.{length, take}
use Rattle.lists.proofs.ListsLaws.{Decides, at_most, itself, both, not_so, zeros_from, meaning}
use Rattle.record.specs.declared.answers.Answer.TheVariants.{Counted}
use Rattle.record.specs.declared.answers.Counts.{Counts}
use Rattle.record.specs.declared.heap.Heap.{Heap}
use Rattle.record.specs.Heap.{table_of, summary_of}
use Rattle.record.specs.Table.{ValidTable}
use Rattle.record.proofs.TableLaws.{valid_iff}
use Rattle.chain.specs.Length.{fits_length_m}
use Rattle.chain.proofs.LengthLaws.{length_iff}
use Rattle.rules.specs.Check.{Tabled, unused_from, used_bytes, counts_of, passes, Passes, Fits}
use Rattle.rules.specs.Merge.{checked}
use Rattle.rules.specs.Shape.{Entry, shape}
use Rattle.rules.proofs.CheckLaws.{passes_iff}
use Rattle.rules.proofs.EvenLaws.{even_part, even_passes, even_fits, even_agrees, same_shape}
use Rattle.audit.specs.Audit.{HasPlaces, is_tabled_m, counts_in, walks_well, WalkedIs, AuditIs, answer_of}
use Rattle.audit.proofs.SurveyMeaning.{tally_ordinary, tally_free, tally_for}
use Rattle.audit.proofs.WalksMeaning.{Rest, well_iff}

-- the test of the table
tabled_iff : (h : Heap) → HasPlaces h.sizes h.heads h.tails → Decides (is_tabled_m h.bins h.sizes h.heads h.tails) (Tabled h)
unfolding is_tabled_m
tabled_iff h p =
    meaning
    (both (both (both (both
    (at_most h.bins (length h.sizes))
    (valid_iff (table_of h)))
    (zeros_from h.bins h.sizes))
    (zeros_from h.bins h.heads))
    (zeros_from h.bins h.tails))
    (λ ((((bins, valid), sizes_end), heads_end), tails_end).
    record {
      size_places = p.size_places;
      head_places = p.head_places;
      tail_places = p.tail_places;
      bins = omega (arith, p.size_places, bins);
      valid = valid;
      sizes_end = sizes_end;
      heads_end = heads_end;
      tails_end = tails_end;
    })
    (λ f. ((((omega (arith, p.size_places, f.bins), f.valid), f.sizes_end), f.heads_end), f.tails_end))

-- what is found by each test in turn is what the check of the rules says
module _ (ws : List ℕ) (h : Heap) where
  pub audit_short : fits_length_m (length ws) h.bytes ≡ false → AuditIs ws h None
  unfolding AuditIs
  audit_short e = not_so (passes_iff ws h) (λ p. false≢true (sym e ∙ (length_iff ws h).1 p.fits))

  module _ (places : HasPlaces h.sizes h.heads h.tails) where
    pub audit_untabled : is_tabled_m h.bins h.sizes h.heads h.tails ≡ false → AuditIs ws h None
    unfolding AuditIs
    audit_untabled e = not_so (passes_iff ws h) (λ p. false≢true (sym e ∙ (tabled_iff h places).1 p.table))

    module _ (long : fits_length_m (length ws) h.bytes ≡ true) (right : is_tabled_m h.bins h.sizes h.heads h.tails ≡ true) where
      fits : Fits ws h
      fits = (length_iff ws h).0 long

      table : Tabled h
      table = (tabled_iff h places).0 right

      even_is : take (h.bytes / 4) ws ≡ even_part ws
      even_is = let e : h.bytes / 4 ≡ length ws / 2 * 2 = omega (arith, fits.bytes) in rw e

      walks : Decides (walks_well (even_part ws) (table_of h) h.heads h.tails (summary_of h)) (Rest (even_part ws) h)
      walks =
          well_iff (even_part ws) h (omega (arith, fits.bytes, fits.enough)) (omega (arith, fits.bytes, fits.not_too_many)) table

      -- a heap that passes has the facts of the walks, over the even part; and the other way, with length and table
      rest_of : Passes ws h → Rest (even_part ws) h
      rest_of p =
          let q = (even_passes ws h fits).0 p in
          record {
            chain =
                record {
                  chain = q.chain;
                  ends = q.ends;
                  backward = q.backward;
                  chunks = q.chunks;
                  top = q.top;
                  donor = q.donor;
                  patrol = q.patrol;
                };
            bins = q.bins;
            binned = q.binned;
            used = q.used;
          }

      passes_of : Rest (even_part ws) h → Passes ws h
      passes_of r =
          (even_passes ws h fits).1
          (record {
            fits = even_fits ws h fits;
            table = table;
            chain = r.chain.chain;
            ends = r.chain.ends;
            backward = r.chain.backward;
            chunks = r.chain.chunks;
            top = r.chain.top;
            donor = r.chain.donor;
            bins = r.bins;
            binned = r.binned;
            used = r.used;
            patrol = r.chain.patrol;
          })

      -- the counts over the even part are those over the region
      counts_are : Passes ws h
          → counts_in (even_part ws) (table_of h) h.heads h.tails (summary_of h) ≡ counts_of h (shape ws h.bytes)
      counts_are p =
          let s = same_shape ws (even_part ws) h (even_agrees ws h fits) p in
          rw (s, p.used) (counts (shape ws h.bytes))
        where
          counts : (ds : List Entry)
              → ◌≡◌ {A = Counts}
              (record { chunks = length ds; ordinary = (tally_for h ds).ordinary; used = used_bytes h ds; free = (tally_for h ds).free })
              (counts_of h ds)
          counts ds = rw (tally_ordinary h ds, tally_free h ds)

      pub audit_walked : (r : Option Counts)
          → WalkedIs (take (h.bytes / 4) ws) (take h.bins h.sizes) h.heads h.tails (summary_of h) r
          → AuditIs ws h r
      unfolding AuditIs WalkedIs
      audit_walked None k =
          not_so (passes_iff ws h) (λ p. false≢true (sym (rw even_is at k) ∙ walks.1 (rest_of p)))
      audit_walked (Some c) k =
          let (well, counts) = rw even_is at k in
          let p = passes_of (walks.0 well) in
          ((passes_iff ws h).1 p, counts ∙ counts_are p)

-- the table that the code lends on is there, and valid
pub lent_table : (bins : ℕ) (sizes heads tails : List ℕ) → is_tabled_m bins sizes heads tails ≡ true
    → (bins ≤ length sizes) × ValidTable (take bins sizes)
unfolding is_tabled_m
lent_table bins sizes heads tails e =
    let (((table, sizes_unused), heads_unused), tails_unused) =
    (both
    (both (both (both (at_most bins (length sizes)) (valid_iff (take bins sizes))) (itself (unused_from bins sizes)))
    (itself (unused_from bins heads)))
    (itself (unused_from bins tails))
    ).0 e in
    table

-- the answer by what was found is the check's
pub answer_is : (ws : List ℕ) (h : Heap) (r : Option Counts) → AuditIs ws h r → answer_of r ≡ checked ws h
unfolding AuditIs answer_of checked
answer_is ws h None fails = rw fails
answer_is ws h (Some c) (well, counts) = rw well (ap Counted counts)

-- whether it passes, by what was found
pub passing_is : (ws : List ℕ) (h : Heap) (r : Option Counts) → AuditIs ws h r → is_some r ≡ passes ws h
unfolding AuditIs
passing_is ws h None fails = sym fails
passing_is ws h (Some c) (well, counts) = sym well
