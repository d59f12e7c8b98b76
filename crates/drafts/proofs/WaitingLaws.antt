-- How a call ends. Its chain is linked, and some free chunks wait: they are not yet settled as donor, as top or in a bin. One after the other
-- settles; when none waits, the draft is a picture of the heap (`waiting_done`). A grant, a free and a shrink end so. Assumes nothing.
use mathlib.Core.Path.{◌≡◌, refl, sym, ap, ◌∙◌}
use mathlib.Core.Logic.{◌≢◌, ◌⊎◌, inl, inr}
use mathlib.Core.Bool.{true}
use mathlib.Core.List.Memᴰ
use mathlib.Core.List.{List, [], ◌∷◌}
use Prim.Native.Nat.{ℕ, ◌+◌, ◌*◌, ◌-◌, ◌≤◌, ◌<◌}
use native.Mathlib.Omega.{arith}
use lib.ListN.{length}
use Rattle.lists.specs.Lists.{Mem, total, Distinct}
use Rattle.record.specs.declared.heap.Heap.{Heap}
use Rattle.record.specs.declared.kinds.Kind.TheVariants.{Ordinary, Donor, Top}
use Rattle.record.specs.Heap.{with_ends, with_donor, with_top}
use Rattle.region.specs.Words.{word, written, size}
use Rattle.rules.specs.Shape.{Entry, shape}
use Rattle.rules.specs.Kinds.{ordinary_kind, kind_at, kind_of, ordinary, outside, size_on}
use Rattle.rules.specs.Check.{used_bytes, IsChunk, Passes}
use Rattle.rules.specs.Draft.{Draft, settle, now_uses, patrols_at}
use Rattle.rules.proofs.KindsLaws.{Used, kind_top, kind_donor, kind_ordinary, donor_moved, top_moved}
use Rattle.rules.proofs.SpotLaws.{Between, bounds}
use Rattle.drafts.proofs.LivesLaws.{lives_same}
use Rattle.drafts.proofs.PostsLaws.{Posts}
use Rattle.drafts.proofs.LayoutLaws.{Layout, laid_sized}
use Rattle.drafts.proofs.HeaderLaws.{Headed, headed_sized}
use Rattle.drafts.proofs.HalfwayLaws.{record_midway, EndsAlone, Halfway, halfway_others}
use Rattle.drafts.proofs.LeaveLaws.{member_chunk}
use Rattle.drafts.proofs.SettleLaws.{PlaceTaken, Unsettled, unsettled_elsewhere, settles_in_bin, settles_as_donor, settles_as_top}
use Rattle.drafts.proofs.PictureLaws.{Pictured, StaysQueued, Complete, pictured, picture_queued}

-- the chain es is linked: the chunks `stay` are settled (`Halfway`), the free chunks `wait` are in no bin yet, all others are in use.
-- No chunk that waits was on the chain before the call. The record is g but for the bins' ends
pub record Waiting (ws : List ℕ) (h g : Heap) (stay wait es : List Entry) (d : Draft) : Type 0 where
  pub layout : Layout h.bytes es
  pub halfway : Halfway ws h stay d
  pub headed : Headed (written ws d.stores) outside es outside
  pub chain : d.chain ≡ es
  pub heap : EndsAlone g d
  pub bytes : g.bytes ≡ h.bytes
  pub stays : (x : Entry) → Mem x stay → Mem x es
  pub waits : (x : Entry) → Mem x wait → Mem x es × (x.flags ≡ 0)
  pub apart : (x : Entry) → Mem x wait → Mem x stay → ⊥
  pub fresh : (x : Entry) → Mem x wait → Mem x (shape ws h.bytes) → ⊥
  pub once : Distinct wait
  pub others : (x : Entry) → Mem x es → Mem x stay ⊎ (Mem x wait ⊎ Used x)

-- the draft, made on the heap h, is a picture of the heap, its chain is es, and donor and top are those of the record g
pub record Finished (ws : List ℕ) (h g : Heap) (es : List Entry) (d : Draft) : Type 0 where
  pub pictured : Pictured ws d
  pub queued : StaysQueued ws h d
  pub chain : d.chain ≡ es
  pub donor : d.heap.donor.0 ≡ g.donor.0
  pub top : d.heap.top.0 ≡ g.top.0

-- the size words of all that are in bins say the sizes of the chain
abbrev pub MembersSized : List ℕ → Heap → Draft → Type 0
MembersSized ws h d = (i c : ℕ) → i < h.bins → Mem c (d.lists i) → word (written ws d.stores) c size ≡ size_on d.chain c

pub waiting_sized : {ws : List ℕ} {h g : Heap} {stay wait es : List Entry} {d : Draft} → Waiting ws h g stay wait es d → MembersSized ws h d
waiting_sized {ws} {h} {es = es} {d} w i c l m =
    let a = member_chunk (record { halfway = w.halfway; layout = w.layout; sub = w.stays }) i c l m in
    rw (w.chain, ← a.place)
    (headed_sized (written ws d.stores) outside es outside w.headed a.member a.free ∙ sym (laid_sized w.layout a.member))

-- the invariant does not depend on used bytes, nor on the patrol's place
uses_halfway : {ws : List ℕ} {h : Heap} {es : List Entry} {d : Draft} (c gone new : ℕ) → Halfway ws h es d
    → Halfway ws h es (now_uses gone new (patrols_at c d))
uses_halfway c gone new f =
    record {
      heap = rw f.heap;
      ends = f.ends;
      way = f.way;
      none = f.none;
      members = f.members;
      listed = f.listed;
      reserved = f.reserved;
      queue = f.queue;
    }

module _ {ws : List ℕ} {h : Heap} (p : Passes ws h) where
  long : h.bytes ≤ 4 * length ws
  long = (bounds ws h p).fits

  -- the first of the waiting chunks, c, settles
  module _ {g : Heap} {stay : List Entry} {c : Entry} {wait es : List Entry} {d : Draft} (w : Waiting ws h g stay (c ∷ wait) es d) where
    there : Mem c es
    there = (w.waits c (Memᴰ.head refl)).0

    free : c.flags ≡ 0
    free = (w.waits c (Memᴰ.head refl)).1

    out : Mem c stay → ⊥
    out = w.apart c (Memᴰ.head refl)

    unsettled : Unsettled ws h stay d es c
    unsettled =
        record {
          among = record { halfway = w.halfway; layout = w.layout; sub = w.stays };
          chain = w.chain;
          there = there;
          free = free;
          new = out;
          fresh = w.fresh c (Memᴰ.head refl);
        }

    between : Between h.bytes c
    between = (w.layout.chunks c there).free free

    elsewhere : (x : Entry) → Mem x stay → x.place ≢ c.place
    elsewhere = unsettled_elsewhere unsettled

    -- the kind of a chunk by the record g
    kind_by : (x : Entry) → kind_of (record_midway h d) x ≡ kind_at h.bytes g.donor.0 g.top.0 x
    kind_by x = ap (λ (k : Heap). kind_at h.bytes k.donor.0 k.top.0 x) w.heap

    -- `change` is what the step does to the record
    next : (change : Heap → Heap) {after : Draft} → PlaceTaken ws h es (c ∷ stay) (change d.heap) d after
        → EndsAlone (change g) after → (change g).bytes ≡ h.bytes → Waiting ws h (change g) (c ∷ stay) wait es after
    next change s e q =
        record {
          layout = w.layout;
          halfway = s.halfway;
          headed = s.headed w.headed;
          chain = s.chain ∙ w.chain;
          heap = e;
          bytes = q;
          stays = stays;
          waits = λ x m. w.waits x (Memᴰ.tail m);
          apart = apart;
          fresh = λ x m. w.fresh x (Memᴰ.tail m);
          once = w.once.1;
          others = λ x m. others x (w.others x m);
        }
      where
        stays : (x : Entry) → Mem x (c ∷ stay) → Mem x es
        stays x (Memᴰ.head r) = rw r there
        stays x (Memᴰ.tail m) = w.stays x m

        apart : (x : Entry) → Mem x wait → Mem x (c ∷ stay) → ⊥
        apart x m (Memᴰ.head r) = w.once.0 (rw r at m)
        apart x m (Memᴰ.tail k) = w.apart x (Memᴰ.tail m) k

        others : (x : Entry) → Mem x stay ⊎ (Mem x (c ∷ wait) ⊎ Used x) → Mem x (c ∷ stay) ⊎ (Mem x wait ⊎ Used x)
        others x (inl k) = inl (Memᴰ.tail k)
        others x (inr (inl (Memᴰ.head r))) = inl (Memᴰ.head r)
        others x (inr (inl (Memᴰ.tail m))) = inr (inl m)
        others x (inr (inr u)) = inr (inr u)

    donor_is_lem : d.heap.donor.0 ≡ g.donor.0
    donor_is_lem = ap (λ (k : Heap). k.donor.0) w.heap

    top_is_lem : d.heap.top.0 ≡ g.top.0
    top_is_lem = ap (λ (k : Heap). k.top.0) w.heap

    -- in its bin; donor and top are other chunks
    pub takes_bin_lem : Posts g stay → Waiting ws h g (c ∷ stay) wait es (settle Ordinary c d)
    takes_bin_lem posts =
        let s = settles_in_bin unsettled p is_ordinary_lem in
        next (λ (k : Heap). k) s
        (s.heap ∙ ap (λ (k : Heap). with_ends k (settle Ordinary c d).heap.heads (settle Ordinary c d).heap.tails) w.heap) w.bytes
      where
        not_top_lem : c.place ≢ g.top.0
        not_top_lem q = let t = posts.top in elsewhere t.chunk t.member (t.place ∙ sym q)

        not_donor_lem : c.place ≢ g.donor.0
        not_donor_lem q = let b = between in let t = posts.donor (omega arith) in elsewhere t.chunk t.member (t.place ∙ sym q)

        is_ordinary_lem : ordinary (record_midway h d) c ≡ true
        is_ordinary_lem =
            let b = between in
            let z = free in
            ap ordinary_kind
            (kind_by c
            ∙ sym (kind_ordinary h.bytes g.donor.0 g.top.0 c (λ q. omega arith) (λ q. omega arith) (λ q. omega arith) not_top_lem not_donor_lem))

    -- as the donor, in place of the old one
    pub takes_donor : ((x : Entry) → Mem x stay → x.place ≢ g.donor.0) → c.place < g.top.0
        → Waiting ws h (with_donor g c.place) (c ∷ stay) wait es (settle Donor c d)
    takes_donor else below =
        let b = between in
        let z = free in
        let q = top_is_lem in
        let s =
        settles_as_donor unsettled long
        (λ x m. donor_moved h.bytes c.place d.heap.donor.0 d.heap.top.0 x (elsewhere x m) (λ r. else x m (r ∙ donor_is_lem)))
        (ap ordinary_kind (sym (kind_donor h.bytes c.place d.heap.top.0 c (λ r. omega arith) (λ r. omega arith) (λ r. omega arith) (λ r. omega arith) refl))) in
        next (λ (k : Heap). with_donor k c.place) s
        (s.heap ∙ ap (λ (k : Heap). with_ends (with_donor k c.place) (settle Donor c d).heap.heads (settle Donor c d).heap.tails) w.heap) w.bytes

    -- as the top, in place of the old one
    pub takes_top : ((x : Entry) → Mem x stay → x.place ≢ g.top.0) → Waiting ws h (with_top g c.place) (c ∷ stay) wait es (settle Top c d)
    takes_top else =
        let b = between in
        let z = free in
        let s =
        settles_as_top unsettled long
        (λ x m. top_moved h.bytes c.place d.heap.top.0 d.heap.donor.0 x (elsewhere x m) (λ r. else x m (r ∙ top_is_lem)))
        (ap ordinary_kind (sym (kind_top h.bytes d.heap.donor.0 c.place c (λ r. omega arith) (λ r. omega arith) (λ r. omega arith) refl))) in
        next (λ (k : Heap). with_top k c.place) s
        (s.heap ∙ ap (λ (k : Heap). with_ends (with_top k c.place) (settle Top c d).heap.heads (settle Top c d).heap.tails) w.heap) w.bytes

  -- no chunk waits any more; used bytes and the patrol's place, which may move, are updated
  module _ {g : Heap} {stay es : List Entry} {d : Draft} (w : Waiting ws h g stay [] es d) where
    all_belong : Halfway ws h es d
    all_belong = halfway_others w.halfway (λ x m o. w.stays x m) (λ x m. go x (w.others x m))
      where
        go : (x : Entry) → Mem x stay ⊎ (Mem x [] ⊎ Used x) → Mem x stay ⊎ Used x
        go x (inl m) = inl m
        go x (inr (inl m)) = absurd (Memᴰ.not-nil m)
        go x (inr (inr u)) = inr u

    pub waiting_done : Posts g es → (move : ℕ → ℕ) → IsChunk es (move g.patrol.0) → (gone new : ℕ) → g.used + new - gone ≡ used_bytes h es
        → Finished ws h g es (now_uses gone new (patrols_at (move d.heap.patrol.0) d))
    waiting_done posts move place gone new u =
        let donor_is = ap (λ (k : Heap). k.donor.0) w.heap in
        let top_is = ap (λ (k : Heap). k.top.0) w.heap in
        let used_is = ap (λ (k : Heap). k.used) w.heap in
        let patrol_is = ap (λ (k : Heap). k.patrol.0) w.heap in
        let after = now_uses gone new (patrols_at (move d.heap.patrol.0) d) in
        let complete : Complete ws h es after =
        record {
          halfway = uses_halfway (move d.heap.patrol.0) gone new all_belong;
          layout = w.layout;
          headed = w.headed;
          posts = record { top = rw (top_is, ← w.bytes) posts.top; donor = rw (donor_is, top_is) posts.donor };
          chain = w.chain;
          used = rw used_is (u ∙ ap (total (λ (e : Entry). e.size)) (sym (lives_same (record_midway h after) h refl es)));
          patrol = rw patrol_is place;
        } in
        record { pictured = pictured p complete; queued = picture_queued p complete; chain = w.chain; donor = donor_is; top = top_is }
