-- Giving back does to a draft of a heap that passes what the rules say, whatever was joined: the words, the bins' ends and the record.
-- What joins, and where, is known here by `Agrees` and `UnionLies` alone. Assumes nothing.
use mathlib.Core.Path.{◌≡◌, refl, sym, ap, ◌∙◌}
use mathlib.Core.Logic.{◌≢◌}
use mathlib.Core.Bool.{Bool, true, false, cond}
use mathlib.Core.List.{List, [], ◌∷◌, ◌++◌}
use Prim.Native.Nat.{ℕ, ◌+◌, ◌-◌, ◌%◌, ◌≤◌, ◌<◌}
use native.Mathlib.Omega.{arith}
use Rattle.lists.specs.Lists.{Mem, head_or}
use Rattle.record.specs.declared.heap.Heap.{Heap}
use Rattle.record.specs.Heap.{table_of, summary_of, with_summary, with_ends, with_patrol}
use Rattle.region.specs.declared.Chunk.{Chunk}
use Rattle.rules.specs.Shape.{Entry, entry, shape, bin_list}
use Rattle.rules.specs.Kinds.{ordinary, unused, outside}
use Rattle.rules.specs.Check.{Passes}
use Rattle.rules.specs.Draft.{Draft, leave_bin, relink, settle}
use Rattle.rules.specs.Join.{Joined, joined_as, leave_bins, moved_down, swallowing}
use Rattle.rules.proofs.SpotLaws.{bounds, inside}
use Rattle.books.specs.Books.{Books, books_of}
use Rattle.bins.specs.Bins.{leave_m}
use Rattle.books.proofs.HeapBooks.{member_below, ordinary_listed}
use Rattle.settling.specs.Settling.{arrival, leave_bin_m, settle_m, settled_m}
use Rattle.settling.proofs.SettledLaws.{settled_keeps}
use Rattle.settling.proofs.DraftLaws.{Follows, LeavesBin, Settled, leave_step, link_step, link_follows, settle_step}
use Rattle.drafts.proofs.JoinLaws.{linked_back, given_back}
use Rattle.drafts.proofs.WaitingLaws.{MembersSized}
use Rattle.seek.specs.declared.Place.{Place}
use Rattle.release.specs.declared.Union.{Union}
use Rattle.release.specs.Release.{moved_m, settled_in, give_back_m}
use Rattle.release.proofs.JoinMeaning.{Agrees, UnionLies}

-- the books b are those of the draft d
record Out (ws : List ℕ) (h : Heap) (b : Books) (d : Draft) : Type 0 where
  is : b ≡ books_of ws d
  follows : Follows ws h d

-- giving back makes of the books b what the rules say, and the summary is known from what was joined
pub record Released (ws : List ℕ) (h : Heap) (b : Books) (p : Place) (u : Union) (after : Draft) : Type 0 where
  pub is : give_back_m b (table_of h) p u ≡ books_of ws after
  pub heap : after.heap ≡ with_ends (with_summary h (settled_in (summary_of h) u)) after.heap.heads after.heap.tails

-- the bottom of the result, at b: no header of a chunk in a bin reaches up to it, nor does it lie above c
record Bottom (ws : List ℕ) (h : Heap) (c b : ℕ) : Type 0 where
  eight : b % 8 ≡ 0
  some : 0 < b
  up : b ≤ c
  clear : (j x : ℕ) → j < h.bins → Mem x (bin_list ws h j) → x < b → x + 24 ≤ b

-- no chunk has left its bin on the way to the draft d
module _ {ws : List ℕ} {h : Heap} (p : Passes ws h) {d : Draft} (follows : Follows ws h d)
    (has : (i x : ℕ) → Mem x (bin_list ws h i) → Mem x (d.lists i))
    {c : ℕ} {lower upper : Entry} {u : Union} (lies : UnionLies ws h c lower upper u) where
  leaves : (x : Entry) → Mem x (shape ws h.bytes) → ordinary h x ≡ true → LeavesBin ws h d x (leave_bin x d)
  leaves x m o =
      let (i, below, takes, listed) = ordinary_listed ws h p x m o in
      leave_step ws h d follows x i below takes (has i x.place listed)

  -- those that join leave their bins, the lower one first
  out : (t s : Bool) → u.lower ≡ t → u.upper ≡ s
      → Out ws h (leave_bin_m (leave_bin_m (books_of ws d) t lower.place) s upper.place)
      (leave_bins (cond t (lower ∷ []) [] ++ cond s (upper ∷ []) []) d)
  unfolding leave_bin_m
  out false false q r = record { is = refl; follows = follows }
  out false true q r =
      let (member, is_ordinary, above) = lies.over r in
      let g = leaves upper member is_ordinary in
      record { is = g.is; follows = g.follows }
  out true false q r =
      let (member, is_ordinary, below) = lies.under q in
      let g = leaves lower member is_ordinary in
      record { is = g.is; follows = g.follows }
  out true true q r =
      let (low_member, low_ordinary, below) = lies.under q in
      let (high_member, high_ordinary, above) = lies.over r in
      let g = leaves lower low_member low_ordinary in
      let (i, inside, takes, listed) = ordinary_listed ws h p upper high_member high_ordinary in
      let ne : upper.place ≢ lower.place = λ z. omega arith in
      let k = leave_step ws h _ g.follows upper i inside takes (g.keeps i upper.place ne (has i upper.place listed)) in
      record { is = ap (λ (x : Books). leave_m x upper.place) g.is ∙ k.is; follows = k.follows }

  abbrev from : ℕ
  from = u.chunk.0

  abbrev after_leaving : Draft
  after_leaving = leave_bins (cond u.lower (lower ∷ []) [] ++ cond u.upper (upper ∷ []) []) d

  abbrev books_out : Books
  books_out = leave_bin_m (leave_bin_m (books_of ws d) u.lower lower.place) u.upper upper.place

  gone : Out ws h books_out after_leaving
  gone = out _ _ refl refl

  bottom_by : (t : Bool) → u.lower ≡ t → Bottom ws h c (cond t lower.place c)
  bottom_by false q =
      record {
        eight = lies.eight;
        some = lies.some;
        up = omega arith;
        clear = λ j x lj m lt. omega (arith, lies.far j x lj m);
      }
  bottom_by true q =
      let (member, is_ordinary, below) = lies.under q in
      let (i, valid, takes, listed) = ordinary_listed ws h p lower member is_ordinary in
      record {
        eight = (inside ws h p lower member).place;
        some = ((follows.way.holds i valid).nodes lower.place (has i lower.place listed)).some;
        up = omega arith;
        clear = λ j x lj m lt. member_below ws h p j x lj m lower member lt;
      }

  bottom : Bottom ws h c from
  bottom = rw lies.chunk (bottom_by _ refl)

  module _ {j : Joined} (agrees : Agrees j lower upper u) (sized : MembersSized ws h (linked_back j d)) where
    abbrev new : Entry
    new = entry from (u.end - from) unused

    abbrev after_linking : Draft
    after_linking = relink j.low (new ∷ []) j.high after_leaving

    rises : from ≤ u.end
    rises = omega (arith, bottom.up, lies.large)

    small : from + (head_or outside j.high).flags < 4294967296
    small =
        let (top, member, here) = lies.top in
        let i = inside ws h p top member in
        let b = bounds ws h p in
        let r = rises in
        omega (arith, lies.flags, agrees.flags)

    links : Follows ws h after_linking
    links =
        let (top, member, here) = lies.top in
        let i = inside ws h p top member in
        link_follows ws h after_leaving gone.follows j.low j.high from u.end rises (sym agrees.above) small
        (λ k x lk m. (
          λ lt. bottom.clear k x lk m lt,
          λ lt. let a = member_below ws h p k x lk m top member (omega arith) in omega arith,
        ))
        bottom.eight (omega arith)

    linked_sized : MembersSized ws h after_linking
    linked_sized = rw (agrees.here, agrees.leaving) at sized

    settles : Settled ws h (books_of ws after_linking) (joined_as lies.becomes.0) from (u.end - from)
        (settle (joined_as lies.becomes.0) new after_linking)
    unfolding relink
    settles =
        let (top, member, here) = lies.top in
        let i = inside ws h p top member in
        let b = bounds ws h p in
        let o = bottom in
        settle_step ws h after_linking links p linked_sized from (u.end - from) unused (omega (arith, lies.large)) (omega arith) lies.becomes.0

    settles_so : Settled ws h (books_of ws after_linking) u.becomes from (u.end - from) (settle u.becomes new after_linking)
    settles_so = rw lies.becomes.1 settles

    -- the code's calls, one after the other
    gives : (place : Place) → place.before.0 ≡ lower.place → place.end ≡ upper.place
        → give_back_m (books_of ws d) (table_of h) place u ≡ settle_m (books_of ws after_linking) (table_of h) (arrival u.becomes from (u.end - from))
    unfolding give_back_m
    gives place below above =
        rw (
          below,
          above,
          gone.is,
          agrees.below,
          agrees.flags,
          link_step ws h after_leaving gone.follows j.low j.high from u.end rises (sym agrees.above) small,
        )

    given_is : given_back j d ≡ swallowing new (settle u.becomes new after_linking)
    given_is = rw (agrees.here, agrees.becomes, agrees.leaving)

    -- a place that the result swallowed moves down to it
    moves : (c : ℕ) → moved_down new c ≡ moved_m u c
    unfolding moved_down moved_m
    moves c =
        let r = rises in
        let end : from + (u.end - from) ≡ u.end = omega arith in
        rw end

    recorded : {after : Heap} → after ≡ with_ends (with_summary h (settled_m (summary_of h) u.becomes from)) after.heads after.tails
        → with_patrol after (moved_down new after.patrol.0) ≡ with_ends (with_summary h (settled_in (summary_of h) u)) after.heads after.tails
    recorded {after} e =
        let kept = (settled_keeps (summary_of h) u.becomes from).patrol in
        let place : after.patrol.0 ≡ h.patrol.0 = ap (λ (g : Heap). g.patrol.0) e ∙ ap (λ (c : Chunk). c.0) kept in
        rw (place, moves h.patrol.0) (ap (λ (g : Heap). with_patrol g (moved_m u h.patrol.0)) e)

    -- the neighbours of the place that is given back are `lower` and `upper`
    pub given_back_lem : (place : Place) → place.before.0 ≡ lower.place → place.end ≡ upper.place → Released ws h (books_of ws d) place u (given_back j d)
    given_back_lem place below above =
        rw given_is
        (record { is = gives place below above ∙ settles_so.is; heap = recorded settles_so.heap })
