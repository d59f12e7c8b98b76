-- The table in a record of zeros; where its sizes are few enough, the record is the rule's (`fresh_is`).
-- Assumes nothing.
use Rattle.std.proofs.Common.{◌≡◌, ℕ, zero, suc, ◌+◌, ◌-◌, ◌≤◌, min, Bool, true, false, cond, List, ◌++◌, length, take, drop, replicate, arith, drop_of_length-le, take_all, refl}
use lib.Dec.{eqb}
use native.Mathlib.Decide.{dec_le}
use native.Mathlib.Nat.{zero-sub}
use native.Mathlib.Numerals.{unary_clauses}
use Rattle.std.specs.Option.{unwrap_or}
use Rattle.std.specs.Prelude.{Some, None}
use Rattle.record.specs.Heap.{at, zeros}
use Rattle.rules.specs.Setup.{fresh}
use Rattle.fresh.specs.FirstHeaders.{first_donor_m, fresh_m, padded_m}

-- as many sizes as there are places for, or all of them, and zeros after them
pub kept_is : (t : List ℕ) → take (min (length t) 32) t ++ drop (min (length t) 32) zeros ≡ take 32 t ++ drop (length t) zeros
kept_is t = go (dec_le (length t) 32)
  where
    go : Dec (length t ≤ 32) → take (min (length t) 32) t ++ drop (min (length t) 32) zeros ≡ take 32 t ++ drop (length t) zeros
    go (yes l) =
        let e : min (length t) 32 ≡ length t = omega arith in
        rw (e, take_all 32 t l, take_all (length t) t (omega arith))
    go (no n) =
        let e : min (length t) 32 ≡ 32 = omega arith in
        rw (e, drop_of_length-le zeros {i = length t} (omega arith))

drop_replicate : (n m : ℕ) (a : ℕ) → drop n (replicate m a) ≡ replicate (m - n) a
drop_replicate zero m a = simp unary_clauses
drop_replicate (suc n) zero a = rw (zero-sub (suc n))
drop_replicate (suc n) (suc m) a = simp unary_clauses (drop_replicate n m a)

pub padded_few : (t : List ℕ) → length t ≤ 32 → padded_m t ≡ t ++ replicate (32 - length t) 0
unfolding padded_m
padded_few t h = rw (take_all 32 t h, drop_replicate (length t) 32 0)

-- the code's record is the rule's
pub fresh_is : (bytes : ℕ) (t : List ℕ) (donor : ℕ) (merge : Bool) → length t ≤ 32
    → fresh_m bytes t (first_donor_m donor) (8 + donor) merge ≡ fresh bytes t donor merge
unfolding fresh_m first_donor_m
fresh_is bytes t donor merge h =
    let bins : min (length t) 32 ≡ length t = omega arith in
    rw (bins, padded_few t h, donor_is (eqb donor 0))
  where
    donor_is : (none : Bool) → unwrap_or (cond none None (Some (at 8))) (at 0) ≡ at (cond none 0 8)
    donor_is true = refl
    donor_is false = refl
