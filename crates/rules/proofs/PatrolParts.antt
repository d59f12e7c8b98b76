-- A run in two parts (`run_parts`): a run of f + g chunks is one of f, and, where that did not handle the end chunk, one of g on the
-- words that it left. A run that handled the end chunk is the same with any more chunks (`run_more`). Where the stores of a run fall
-- (`run_fall`), where it goes on next time (`run_place`), and a run over links that are right, which writes nothing (`run_right`).
-- Assumes nothing.
use mathlib.Core.Path.{◌≡◌, refl, sym, ap, ap₂, ◌∙◌}
use mathlib.Core.Logic.{◌≢◌}
use mathlib.Core.Bool.{Bool, true, false, false≢true}
use mathlib.Core.List.{List, [], ◌++◌, append_assoc}
use Rattle.std.specs.Prelude.{Option, Some, None}
use Rattle.std.proofs.lemmas.Option.{same_Some, none-some}
use Prim.Native.Nat.{ℕ, zero, suc, ◌+◌, ◌-◌, ◌/◌, ◌%◌, ◌≤◌, ◌<◌}
use native.Mathlib.Nat.{zero-add, suc-add}
use native.Mathlib.Omega.{arith}
use Rattle.region.specs.Words.{Store, written, word, backward}
use Rattle.region.proofs.WordsLaws.{written_append, Fall, fall_both, fall_so}
use Rattle.rules.specs.Patrol.{back_offset, next_of, mends, Patrolled, patrolled, goes_on, patrol_from}
use Rattle.rules.proofs.PatrolSeek.{NextPlace, next_above}
use Rattle.rules.proofs.PatrolNext.{no_skip_lem, believed, next_believed}
use Rattle.rules.proofs.PatrolMends.{handled, Right, mends_none, mends_fall}
use Rattle.rules.proofs.PatrolRun.{run_ends, run_lost, run_on, Handling, ends, lost, on, handling, run_by}

-- a run goes on with g chunks more, unless it handled the end chunk
abbrev pub onward : ℕ → List ℕ → ℕ → Option Patrolled → Option Patrolled
onward g ws end None = None
onward g ws end (Some r) =
    elim r.ended [ true ↦ Some r | false ↦ goes_on r.stores (patrol_from g (written ws r.stores) end r.place) ]

-- no stores before a run; stores in two parts
pub goes_on_none : (o : Option Patrolled) → goes_on [] o ≡ o
goes_on_none None = refl
goes_on_none (Some r) = refl

goes_on_both : (ss ts : List Store) (o : Option Patrolled) → goes_on (ss ++ ts) o ≡ goes_on ss (goes_on ts o)
goes_on_both ss ts None = refl
goes_on_both ss ts (Some r) = ap (λ (us : List Store). Some (patrolled r.place r.ended us)) (append_assoc ss ts r.stores)

-- what a run came to, where it had these stores before the rest
pub went_on : (ss : List Store) (o : Option Patrolled) (c : ℕ) (t : Bool) (us : List Store) → goes_on ss o ≡ Some (patrolled c t us)
    → (ts : List Store) × (o ≡ Some (patrolled c t ts)) × (us ≡ ss ++ ts)
went_on ss None c t us q = absurd (none-some _ q)
went_on ss (Some r) c t us q =
    let e = same_Some _ _ q in (
      r.stores,
      ap₂ (λ (d : ℕ) (u : Bool). Some (patrolled d u r.stores)) (ap (λ (x : Patrolled). x.place) e) (ap (λ (x : Patrolled). x.ended) e),
      sym (ap (λ (x : Patrolled). x.stores) e),
    )

-- what goes on after stores goes on on the words that they leave
onward_after : (ss : List Store) (g : ℕ) (ws : List ℕ) (end : ℕ) (o : Option Patrolled)
    → onward g ws end (goes_on ss o) ≡ goes_on ss (onward g (written ws ss) end o)
onward_after ss g ws end None = refl
onward_after ss g ws end (Some r) = go r.place r.ended r.stores
  where
    go : (c : ℕ) (t : Bool) (ts : List Store)
        → onward g ws end (Some (patrolled c t (ss ++ ts))) ≡ goes_on ss (onward g (written ws ss) end (Some (patrolled c t ts)))
    go c true ts = refl
    go c false ts = rw (written_append ss ts ws) (goes_on_both ss ts (patrol_from g (written (written ws ss) ts) end c))

pub run_parts : (f g : ℕ) (ws : List ℕ) (end c : ℕ) → patrol_from (f + g) ws end c ≡ onward g ws end (patrol_from f ws end c)
run_parts zero g ws end c = rw (zero-add g) (sym (goes_on_none _))
run_parts (suc f) g ws end c = rw (suc-add f g) (go (handling ws end c) (λ v. run_parts f g (handled ws c v) end v))
  where
    go : Handling ws end c
        → ((v : ℕ) → patrol_from (f + g) (handled ws c v) end v ≡ onward g (handled ws c v) end (patrol_from f (handled ws c v) end v))
        → patrol_from (suc (f + g)) ws end c ≡ onward g ws end (patrol_from (suc f) ws end c)
    go (ends q) h = run_ends ws end c (f + g) q ∙ ap (onward g ws end) (sym (run_ends ws end c f q))
    go (lost n q) h = run_lost ws end c (f + g) n q ∙ ap (onward g ws end) (sym (run_lost ws end c f n q))
    go (on n v q) h =
        run_on ws end c (f + g) n v q
        ∙ ap (goes_on (mends ws c v)) (h v)
        ∙ sym (onward_after (mends ws c v) g ws end (patrol_from f (handled ws c v) end v))
        ∙ ap (onward g ws end) (sym (run_on ws end c f n v q))

-- a run that did not handle the end chunk, and one after it
pub run_then : (f g : ℕ) (ws : List ℕ) (end c d : ℕ) (ss : List Store) → patrol_from f ws end c ≡ Some (patrolled d false ss)
    → patrol_from (f + g) ws end c ≡ goes_on ss (patrol_from g (written ws ss) end d)
run_then f g ws end c d ss h = run_parts f g ws end c ∙ ap (onward g ws end) h

pub run_more : (f g : ℕ) (ws : List ℕ) (end c d : ℕ) (ss : List Store) → patrol_from f ws end c ≡ Some (patrolled d true ss)
    → patrol_from (f + g) ws end c ≡ Some (patrolled d true ss)
run_more f g ws end c d ss h = run_parts f g ws end c ∙ ap (onward g ws end) h

-- the words into which a run from c on writes: from c's own on, up to the end chunk's, and not c's backward link, the start's apart
pub record From (end c i : ℕ) : Type 0 where
  pub above : c / 4 ≤ i
  pub not_back : 0 < c → i ≢ c / 4 + backward
  pub inside : i < end / 4 + 2

module _ (end : ℕ) (last : end % 8 ≡ 0) where
  pub mends_from : (ws : List ℕ) (c v : ℕ) → NextPlace end c v → Fall (From end c) (mends ws c v)
  mends_from ws c v n =
      let up = next_above n in
      mends_fall ws c v (From end c)
      (record { above = omega arith; not_back = λ l q. omega arith; inside = omega arith })
      (record { above = omega arith; not_back = λ l q. omega arith; inside = omega arith })
      (λ z. record { above = omega arith; not_back = λ l q. omega arith; inside = omega arith })
      (λ u. record { above = omega arith; not_back = λ l q. omega arith; inside = omega arith })

  -- one chunk, and the rest of a run from v on
  pub falls_on : (ws : List ℕ) (c v : ℕ) → NextPlace end c v → (ss : List Store) → Fall (From end v) ss → Fall (From end c) (mends ws c v ++ ss)
  falls_on ws c v n ss rest =
      let up = next_above n in
      fall_both (From end c) (mends ws c v) ss (mends_from ws c v n)
      (fall_so (From end v) (From end c) (λ i b. record { above = omega arith; not_back = λ k w. omega arith; inside = b.inside }) ss rest)

  pub run_fall : (f : ℕ) (ws : List ℕ) (c : ℕ) (r : Patrolled) → patrol_from f ws end c ≡ Some r → Fall (From end c) r.stores
  run_fall f ws c r h =
      run_by end last (λ us d t. Fall (From end d) t.stores) (λ us d. tt) (λ us. tt)
      (λ us d v t n q rest. falls_on us d v n t.stores rest) f ws c r h

-- the next chunk to be handled: its place is a multiple of 8 up to the end chunk's, and the start where the end chunk was handled
pub record NextTime (end : ℕ) (r : Patrolled) : Type 0 where
  pub eights : r.place % 8 ≡ 0
  pub inside : r.place ≤ end
  pub start : r.ended ≡ true → r.place ≡ 0

pub run_place : (end : ℕ) → end % 8 ≡ 0 → (f : ℕ) (ws : List ℕ) (c : ℕ) → c % 8 ≡ 0 → c ≤ end
    → (r : Patrolled) → patrol_from f ws end c ≡ Some r → NextTime end r
run_place end last f ws c e l r h =
    run_by end last (λ us d t. d % 8 ≡ 0 → d ≤ end → NextTime end t)
    (λ us d e l. record { eights = e; inside = l; start = λ q. absurd (false≢true q) })
    (λ us e l. record { eights = refl; inside = omega arith; start = λ q. refl })
    (λ us d v t n q rest e l.
    let w = rest n.eights n.inside in record { eights = w.eights; inside = w.inside; start = w.start })
    f ws c r h e l

-- a chunk whose links and size are right
module _ (ws : List ℕ) (end c v : ℕ) (n : NextPlace end c v) (r : Right ws c v) where
  right_back : back_offset ws v ≡ c
  right_back = let b = r.back in let e : word ws v backward - word ws v backward % 8 ≡ c = omega arith in e

  pub next_right : next_of ws end c ≡ Some v
  next_right =
      let link = r.link in
      let b = believed ws end c v (record { place = n; no_skip = no_skip_lem ws c v (let q = right_back in omega arith) }) in
      next_believed ws end c (rw link b) ∙ ap Some link

  pub run_right : (f : ℕ) → patrol_from (suc f) ws end c ≡ patrol_from f ws end v
  run_right f =
      let up = next_above n in
      let inside = n.inside in
      let None = mends_none ws c v r in
      run_on ws end c f (λ q. omega arith) v next_right
      ∙ rw None (goes_on_none _)
