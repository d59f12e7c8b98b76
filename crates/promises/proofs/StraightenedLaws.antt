-- On every region, a full patrol from the start that is not refused leaves links that go up from the start to the end chunk, with each
-- backward link and each free size right; the next full patrol writes nothing (`straightened`). Assumes nothing.
use mathlib.Core.Path.{◌≡◌, refl, sym, ap, subst, ◌∙◌}
use mathlib.Core.Logic.{◌≢◌}
use mathlib.Core.Bool.{true, false≢true}
use mathlib.Core.List.{List, [], ◌++◌}
use Rattle.std.specs.Prelude.{Some}
use Prim.Native.Nat.{ℕ, suc, ◌+◌, ◌-◌, ◌/◌, ◌%◌, ◌≤◌, ◌<◌}
use native.Mathlib.Omega.{arith}
use lib.ListN.{length}
use Rattle.region.specs.Words.{Store, written, word, forward, backward, size}
use Rattle.region.proofs.WordsLaws.{written_append, Fall, fall_so, off}
use Rattle.rules.specs.Shape.{flags_at}
use Rattle.rules.specs.Patrol.{back_offset, next_of, mends, Patrolled, patrolled, patrol_from}
use Rattle.rules.specs.Calls.{State}
use Rattle.rules.proofs.PatrolSeek.{NextPlace, next_above, next_far}
use Rattle.rules.proofs.PatrolMends.{Right, handled, handled_length, handled_kept, handled_link, handled_back, handled_start, handled_size}
use Rattle.rules.proofs.PatrolRun.{run_ends, run_by}
use Rattle.rules.proofs.PatrolParts.{From, falls_on, run_right}
use Rattle.rules.proofs.PatrolReady.{end_is}
use Rattle.promises.specs.Ways.{ours}
use Rattle.promises.specs.Straightened.{Neighbours, Straight, there, up, Straightened}
use Rattle.promises.proofs.PatrolLaws.{CanRun, ran_to, still_runs}
use Rattle.promises.proofs.FullPatrolLaws.{OneRun, full_run, run_full}

-- the chunk at c was handled, with the next one at v; after it stores were made from v on
module _ (ws : List ℕ) (end c v : ℕ) (n : NextPlace end c v) (eights : c % 8 ≡ 0) (fits : end / 4 + 2 ≤ length ws)
    (ss : List Store) (from : Fall (From end v) ss) where
  abbrev fin : List ℕ
  fin = written (handled ws c v) ss

  inside : v / 4 + backward < length ws
  inside = let l = n.inside in omega arith

  -- words below v, and v's backward link, are kept
  kept : (d j : ℕ) → ((i : ℕ) → From end v i → d / 4 + j ≢ i) → word fin d j ≡ word (handled ws c v) d j
  kept d j away = off ss (handled ws c v) d j (fall_so (From end v) (λ i. d / 4 + j ≢ i) away ss from)

  -- c's flags too
  same_flags : 0 < c → flags_at fin c ≡ flags_at ws c
  same_flags l =
      let above = next_above n in
      ap (λ (w : ℕ). w % 8)
      (kept c backward (λ i f q. omega arith)
      ∙ handled_kept ws c v c backward (λ q. omega arith) (λ q. omega arith) (λ z q. omega arith) (λ u q. omega arith))

  neighbours : Neighbours fin c v
  neighbours =
      let above = next_above n in
      record {
        link = kept c forward (λ i f q. omega arith) ∙ handled_link ws c v n inside;
        eights = n.eights;
        room = n.room;
        back =
            let b = kept v backward (λ i f. let m = f.not_back (omega arith) in λ q. m (sym q)) ∙ handled_back ws c v n inside in
            let e : word fin v backward - word fin v backward % 8 ≡ c = omega arith in e;
        sized = λ l q.
            let far = next_far n l in
            kept c size (λ i f q. omega arith) ∙ handled_size ws c v n inside (l, rw (same_flags l) at q);
      }

  start_back : c ≡ 0 → back_offset fin c ≡ 0
  start_back z =
      let above = next_above n in
      let b = kept c backward (λ i f q. omega arith) ∙ handled_start ws c v n inside z in
      let e : word fin c backward - word fin c backward % 8 ≡ 0 = omega arith in e

module _ (end : ℕ) (last : end % 8 ≡ 0) (above : 0 < end) where
  -- what a run from c on leaves: its stores are from c on, and if it handled the end chunk the links from c on are straight
  pub record Leaves (ws : List ℕ) (c : ℕ) (r : Patrolled) : Type 0 where
    pub from : Fall (From end c) r.stores
    pub straight : c % 8 ≡ 0 → end / 4 + 2 ≤ length ws → r.ended ≡ true
        → let fin = written ws r.stores in (c ≡ 0 → back_offset fin c ≡ 0) × Straight fin end c

  leaves_more : (ws : List ℕ) (c v : ℕ) (r : Patrolled) → NextPlace end c v → next_of ws end c ≡ Some v → Leaves (handled ws c v) v r
      → Leaves ws c (patrolled r.place r.ended (mends ws c v ++ r.stores))
  leaves_more ws c v r n q rest =
      record {
        from = falls_on end last ws c v n r.stores rest.from;
        straight = λ e f t.
            let long = handled_length ws c v in
            let (_, onward) = rest.straight n.eights (omega arith) t in
            rw (written_append (mends ws c v) r.stores ws)
            (start_back ws end c v n e f r.stores rest.from, up n.inside (neighbours ws end c v n e f r.stores rest.from) onward);
      }

  run_leaves : (f : ℕ) (ws : List ℕ) (c : ℕ) (r : Patrolled) → patrol_from f ws end c ≡ Some r → Leaves ws c r
  run_leaves =
      run_by end last Leaves
      (λ ws c. record { from = tt; straight = λ e f t. absurd (false≢true t) })
      (λ ws. record { from = tt; straight = λ e f t. (λ z. absurd (omega arith), there) })
      leaves_more

-- over straight links a run writes nothing and handles the end chunk
straight_run : (ws : List ℕ) {end c : ℕ} → (c ≡ 0 → back_offset ws c ≡ 0) → Straight ws end c
    → (n : ℕ) × (patrol_from n ws end c ≡ Some (patrolled 0 true []))
straight_run ws {end} start there = (1, run_ends ws end end 0 refl)
straight_run ws {end} start (up {c = c} {v = v} l n rest) =
    let place : NextPlace end c v = record { eights = n.eights; room = n.room; inside = l } in
    let above = next_above place in
    let right : Right ws c v = record {
      link = n.link;
      back = let b : word ws v backward - word ws v backward % 8 ≡ c = n.back in omega arith;
      start = λ z. let b : word ws c backward - word ws c backward % 8 ≡ 0 = start z in omega arith;
      sized = λ u. n.sized u.0 u.1;
    } in
    let (m, run) = straight_run ws (λ z. absurd (omega arith)) rest in
    (suc m, run_right ws end c v place right m ∙ run)

-- what a full patrol from the start leaves
left_straight : (s t : State) → s.heap.patrol.0 ≡ 0 → OneRun s t
    → (back_offset t.words 0 ≡ 0) × Straight t.words (t.heap.bytes - 8) 0
left_straight s t start o =
    let e = end_is s.words s.heap o.ready.fits in
    let run = subst (λ (c : ℕ). patrol_from o.chunks s.words (s.heap.bytes - 8) c ≡ Some (patrolled 0 true o.stores)) start o.run in
    let above : 0 < s.heap.bytes - 8 = omega arith in
    let l = run_leaves (s.heap.bytes - 8) e.eights above o.chunks s.words 0 _ run in
    let (back, links) = l.straight refl e.fits refl in
    subst (λ (x : State). (back_offset x.words 0 ≡ 0) × Straight x.words (x.heap.bytes - 8) 0) (sym o.leaves) (back refl, links)

-- the next full patrol leaves all as it is
next_quiet : (s t : State) → s.heap.patrol.0 ≡ 0 → OneRun s t → OneRun t t
next_quiet s t start o =
    let (back, links) = left_straight s t start o in
    let (n, run) = straight_run t.words (λ z. back) links in
    let home : t.heap.patrol.0 ≡ 0 = ap (λ (x : State). x.heap.patrol.0) o.leaves in
    record {
      ready = subst CanRun (sym o.leaves) (still_runs s o.chunks o.ready _ o.run);
      chunks = n;
      stores = [];
      run = subst (λ (c : ℕ). patrol_from n t.words (t.heap.bytes - 8) c ≡ Some (patrolled 0 true [])) (sym home) run;
      leaves = subst (λ (x : State). x ≡ ran_to x (patrolled 0 true [])) (sym o.leaves) refl;
    }

pub straightened : Straightened ours
straightened =
    record {
      straight = λ f s t z full. left_straight s t z (full_run full);
      settled = λ f s t z full g l. run_full g l (next_quiet s t z (full_run full));
    }
