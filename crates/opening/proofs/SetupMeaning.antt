-- Setup by what the code decides: what a refusal leaves (`refuses`), on what an accepted setup relies (`accepted`), and what it leaves
-- (`accepts`). Assumes nothing.
use mathlib.Core.Path.{◌≡◌, refl}
use mathlib.Core.Bool.{Bool, true, false, not, cond, ◌||◌}
use mathlib.Core.List.{List, [], ◌∷◌, ◌++◌}
use Prim.Native.Nat.{ℕ, ◌+◌, ◌-◌, ◌/◌, ◌%◌, ◌≤◌}
use native.Mathlib.Decide.{ℕ_discrete}
use native.Mathlib.Omega.{arith}
use borrow.Author.Tests.{ne_eqb, le-ltb, ltb-false}
use lib.Dec.{ltb}
use lib.ListN.{length, take, drop}
use Rattle.std.specs.Prelude.{Ok, Err}
use Rattle.lists.proofs.ListsLaws.{number_is, at_most, both}
use Rattle.record.specs.declared.answers.Answer.TheVariants.{Done, Refused}
use Rattle.record.specs.declared.answers.Refusal.{Refusal}
use Rattle.record.specs.declared.answers.Refusal.TheVariants.{RegionLength, BadTable, DonorSize}
use Rattle.record.specs.Heap.{empty}
use Rattle.record.specs.Table.{valid_table}
use Rattle.record.proofs.TableLaws.{valid_iff}
use Rattle.region.specs.Words.{written}
use Rattle.rules.specs.Outcome.{judged}
use Rattle.rules.specs.Setup.{donor_fits, first_headers, opened, setup}
use Rattle.rules.specs.Shape.{heap_bytes}
use Rattle.rules.specs.Statements.{SetsUp, left_by}
use Rattle.fresh.specs.FirstHeaders.{first_donor_m, fresh_m, first_words}
use Rattle.opening.specs.Opening.{bytes_m}
use Rattle.rules.proofs.SetupLaws.{first_below}
use Rattle.fresh.proofs.FirstRecordMeaning.{fresh_is}
use Rattle.fresh.proofs.FirstHeadersMeaning.{first_words_lem}
use Rattle.region.proofs.PrefixLaws.{written_prefix}

-- a donor that fits leaves 40 bytes for the ends and the top
fits_room : (bytes donor : ℕ) → donor_fits bytes donor ≡ true → 40 ≤ bytes → donor + 40 ≤ bytes
fits_room bytes donor h enough = go (ℕ_discrete donor 0)
  where
    go : Dec (donor ≡ 0) → donor + 40 ≤ bytes
    go (yes e) = omega arith
    go (no ne) =
        let parts =
        (both (both (at_most 24 donor) (number_is (donor % 8) 0)) (at_most donor (bytes - 40))).0 (rw (ne_eqb donor 0 ne) at h) in
        omega (arith, parts.1)

pub record Accepted (words : ℕ) (t : List ℕ) (donor bytes : ℕ) : Type 0 where
  pub enough : 10 ≤ words
  pub few : words ≤ 16384
  pub valid : valid_table t ≡ true
  pub whole : bytes ≡ heap_bytes words
  pub fits : donor_fits bytes donor ≡ true
  pub room : donor + 40 ≤ bytes

pub accepted : {words : ℕ} {t : List ℕ} {donor bytes : ℕ} → Ok bytes ≡ bytes_m words t donor → Accepted words t donor bytes
unfolding bytes_m
accepted {words} {t} {donor} {bytes} =
    go (ltb words 10) refl (ltb 16384 words) refl (valid_table t) refl (donor_fits (heap_bytes words) donor) refl
  where
    go : (a : Bool) → ltb words 10 ≡ a → (b : Bool) → ltb 16384 words ≡ b → (v : Bool) → valid_table t ≡ v
        → (f : Bool) → donor_fits (heap_bytes words) donor ≡ f
        → Ok bytes ≡ cond (a || b) (Err RegionLength) (cond v (cond f (Ok (heap_bytes words)) (Err DonorSize)) (Err BadTable))
        → Accepted words t donor bytes
    go false ea false eb true ev true ef h =
        let same : bytes ≡ heap_bytes words = cc in
        let enough = ltb-false words 10 ea in
        let fits : donor_fits bytes donor ≡ true = rw same ef in
        record {
          enough = enough;
          few = ltb-false 16384 words eb;
          valid = ev;
          whole = same;
          fits = fits;
          room = fits_room bytes donor fits (omega arith);
        }
    go true ea b eb v ev f ef h = cc
    go false ea true eb v ev f ef h = cc
    go false ea false eb false ev f ef h = cc
    go false ea false eb true ev false ef h = cc

-- the words, the table and the donor that setup was given
module _ (ws t : List ℕ) (donor : ℕ) (merge : Bool) where
  pub refuses : {e : Refusal} → Err e ≡ bytes_m (length ws) t donor → SetsUp ws t donor merge (record { answer = Refused e; heap = empty }) ws
  unfolding setup bytes_m
  refuses {e} =
      go (ltb (length ws) 10 || ltb 16384 (length ws)) (valid_table t) (donor_fits (heap_bytes (length ws)) donor)
    where
      go : (l v f : Bool)
          → Err e ≡ cond l (Err RegionLength) (cond v (cond f (Ok (heap_bytes (length ws))) (Err DonorSize)) (Err BadTable))
          → record { answer = Refused e; heap = empty; words = ws }
          ≡ left_by ws (judged empty ((l, RegionLength) ∷ (not v, BadTable) ∷ (not f, DonorSize) ∷ []) (opened (heap_bytes (length ws)) t donor merge))
      go true v f h = let why : e ≡ RegionLength = cc in rw why
      go false false f h = let why : e ≡ BadTable = cc in rw why
      go false true false h = let why : e ≡ DonorSize = cc in rw why
      go false true true h = cc

  pub accepts : {bytes : ℕ} → Accepted (length ws) t donor bytes
      → SetsUp ws t donor merge (record { answer = Done; heap = fresh_m bytes t (first_donor_m donor) (8 + donor) merge })
      (written (take (bytes / 4) ws) (first_words (first_donor_m donor) (8 + donor) (bytes - 8)) ++ drop (bytes / 4) ws)
  unfolding setup
  accepts {bytes} a =
      rw (
        le-ltb (length ws) 10 a.enough,
        le-ltb 16384 (length ws) a.few,
        a.valid,
        ← a.whole,
        a.fits,
        fresh_is bytes t donor merge ((valid_iff t).0 a.valid).few,
        first_words_lem bytes donor a.room (omega arith),
        written_prefix (bytes / 4) (first_headers bytes donor) ws (first_below bytes donor a.room),
      )
