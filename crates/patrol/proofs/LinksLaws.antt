-- The code's test of a forward link is the rule's (`broken_is`), and a link that can be followed leads to a place where a chunk can be
-- (`follow_place`). Assumes nothing.
use mathlib.Core.Path.{◌≡◌, refl}
use mathlib.Core.Bool.{Bool, true, false, not, ◌&&◌, ◌||◌}
use mathlib.Core.List.{List}
use Prim.Native.Nat.{ℕ, ◌+◌, ◌%◌, ◌≤◌, ◌<◌}
use native.Mathlib.Decide.{dec_lt}
use native.Mathlib.Omega.{arith}
use lib.Dec.{eqb, leb, ltb}
use borrow.Author.Tests.{le-leb, lt-leb, lt-ltb, le-ltb}
use Rattle.lists.proofs.ListsLaws.{number_is, at_most, both}
use Rattle.rules.specs.Patrol.{least_size, skips, broken}
use Rattle.rules.proofs.PatrolSeek.{NextPlace}
use Rattle.patrol.specs.Links.{can_follow_m}

pub broken_is : (ws : List ℕ) (end c v : ℕ) → (not (can_follow_m end c (least_size c) v) || skips ws c v) ≡ broken ws end c v
unfolding can_follow_m broken
broken_is ws end c v = go (dec_lt end v) (dec_lt v (c + least_size c))
  where
    tests : (a b s : Bool) → (not (a && not b) || s) ≡ (not a || b || s)
    tests true true s = refl
    tests true false s = refl
    tests false b s = refl

    go : Dec (end < v) → Dec (v < c + least_size c)
        → (not (leb v end && eqb (v % 8) 0 && leb (c + least_size c) v) || skips ws c v)
        ≡ (ltb end v || not (eqb (v % 8) 0) || ltb v (c + least_size c) || skips ws c v)
    go (yes l) d = rw (lt-leb v end l, lt-ltb end v l)
    go (no n) (yes l) =
        rw (le-leb v end (omega arith), le-ltb end v (omega arith), lt-leb (c + least_size c) v l, lt-ltb v (c + least_size c) l)
        (tests (eqb (v % 8) 0) true (skips ws c v))
    go (no n) (no m) =
        rw (le-leb v end (omega arith), le-ltb end v (omega arith), le-leb (c + least_size c) v (omega arith), le-ltb v (c + least_size c) (omega arith))
        (tests (eqb (v % 8) 0) false (skips ws c v))

pub follow_place : (end c least v : ℕ) → can_follow_m end c least v ≡ true → least_size c ≤ least → NextPlace end c v
unfolding can_follow_m
follow_place end c least v h l =
    let ((inside, eights), up) = (both (both (at_most v end) (number_is (v % 8) 0)) (at_most (c + least) v)).0 h in
    record { eights = eights; room = omega arith; inside = inside }
