-- What the code writes where it handles a chunk is what the rule says (`handle_is`). Assumes nothing.
use mathlib.Core.Path.{◌≡◌, refl, sym, ap, ◌∙◌}
use mathlib.Core.Logic.{◌≢◌}
use mathlib.Core.Bool.{Bool, true, false, cond}
use mathlib.Core.List.{List, [], ◌++◌}
use Prim.Native.Nat.{ℕ, ◌+◌, ◌-◌, ◌/◌, ◌%◌}
use native.Mathlib.Omega.{arith}
use lib.Dec.{eqb}
use borrow.Author.Tests.{eqb-false}
use Rattle.region.specs.Words.{written, word, forward, backward, size}
use Rattle.region.proofs.WordsLaws.{written_append, off}
use Rattle.rules.specs.Kinds.{in_use}
use Rattle.rules.specs.Patrol.{mend}
use Rattle.rules.specs.Shape.{flags_at}
use Rattle.rules.proofs.PatrolSeek.{NextPlace, next_above, next_far}
use Rattle.rules.proofs.PatrolMends.{mend_fall, own, forth, back, mends_are, handled}
use Rattle.patrol.specs.Mends.{mend_back_m, mend_own_m, handle_m}

-- the chunk at c, with the next one at v
module _ {end c v : ℕ} (ws : List ℕ) (eights : c % 8 ≡ 0) (n : NextPlace end c v) where
  abbrev linked : List ℕ
  linked = written ws (forth ws c v)

  abbrev backed : List ℕ
  backed = written linked (back ws c v)

  -- words that no store has reached yet
  linked_keeps : (d j : ℕ) → d / 4 + j ≢ c / 4 + forward → word linked d j ≡ word ws d j
  linked_keeps d j a = off (forth ws c v) ws d j (mend_fall ws c forward v (λ w. d / 4 + j ≢ w) a)

  backed_keeps : (d j : ℕ) → d / 4 + j ≢ c / 4 + forward → d / 4 + j ≢ v / 4 + backward → word backed d j ≡ word ws d j
  backed_keeps d j a b =
      off (back ws c v) linked d j (mend_fall ws v backward (c + flags_at ws v) (λ w. d / 4 + j ≢ w) b) ∙ linked_keeps d j a

  back_is : mend_back_m linked v c ≡ backed
  unfolding mend_back_m
  back_is =
      let up = next_above n in
      let whole : c - c % 8 ≡ c = omega arith in
      rw (whole, linked_keeps v backward (λ q. omega arith))

  own_is : mend_own_m backed c v ≡ written backed (own ws c v)
  unfolding mend_own_m mend_back_m in_use
  own_is = go (eqb c 0) refl
    where
      back_kept : word backed c backward ≡ word ws c backward
      back_kept = let up = next_above n in backed_keeps c backward (λ q. omega arith) (λ q. omega arith)

      go : (s : Bool) → eqb c 0 ≡ s
          → cond s (written backed (mend backed c backward (0 - 0 % 8 + flags_at backed c)))
          (cond (eqb (flags_at backed c % 2) 1) backed (written backed (mend backed c size (v - c))))
          ≡ written backed (cond s (mend ws c backward (flags_at ws c)) (cond (eqb (flags_at ws c % 2) 1) [] (mend ws c size (v - c))))
      go true e = let none : 0 - 0 % 8 + flags_at ws c ≡ flags_at ws c = omega arith in rw (back_kept, none)
      go false e =
          let z = eqb-false c 0 e in
          let far = next_far n (omega arith) in
          rw (back_kept, backed_keeps c size (λ q. omega arith) (λ q. omega arith)) (by (eqb (flags_at ws c % 2) 1))
        where
          by : (t : Bool) → cond t backed (written backed (mend ws c size (v - c))) ≡ written backed (cond t [] (mend ws c size (v - c)))
          by true = refl
          by false = refl

  -- all of it
  pub handle_is : handle_m true ws c v ≡ handled ws c v
  unfolding handle_m
  handle_is =
      rw (back_is, own_is, mends_are ws c v)
      (sym
      (written_append (forth ws c v ++ back ws c v) (own ws c v) ws
      ∙ ap (λ (us : List ℕ). written us (own ws c v)) (written_append (forth ws c v) (back ws c v) ws)))
