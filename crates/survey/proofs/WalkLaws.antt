-- The walk as the code makes it: the start by its two words, chunk after chunk while the chain goes on, then the end chunk.
-- That fewer tests suffice than the definitions make is shown here. Assumes nothing.
use Rattle.std.proofs.Common.{◌≡◌, ℕ, ◌+◌, ◌-◌, ◌/◌, ◌%◌, ◌^◌, ◌<◌, ◌≤◌, Bool, true, false, ◌&&◌, ◌⊎◌, List, [], Option, Some, None, length, sym, refl, ap, ◌∙◌, inl, inr, arith, eq-eqb, ne_eqb}
use Rattle.std.specs.Bool.{then_some}
use mathlib.Core.Bool.{false≢true}
use native.Mathlib.Decide.{ℕ_discrete, dec_lt}
use borrow.Author.Tests.{lt-leb}
use Rattle.lists.specs.Lists.{last_or}
use Rattle.lists.proofs.ListsLaws.{Decides, number_is, at_most, both, meaning, not_so, same_test}
use Rattle.chain.specs.Chain.{kind_m}
use Rattle.chain.specs.Length.{Lent}
use Rattle.chain.proofs.EndLaws.{chain_here, chain_next, end_link, end_up, end_stop}
use Rattle.record.specs.declared.heap.Summary.{Summary}
use Rattle.record.specs.declared.kinds.Kind.{Kind}
use Rattle.record.specs.declared.kinds.Kind.TheVariants.{Start, InUse, Ordinary, Donor, Top, End}
use Rattle.region.specs.Words.{word, forward, backward}
use Rattle.rules.specs.Check.{is_chunk}
use Rattle.rules.specs.Kinds.{outside}
use Rattle.rules.specs.Shape.{Entry}
use Rattle.rules.proofs.ShapeLaws.{up_entry, chain_by, shape_is}
use Rattle.rules.proofs.KindsLaws.{Being, being, kind_start, kind_end}
use Rattle.survey.specs.declared.visit.Visit.{Visit}
use Rattle.survey.specs.declared.Tally.{Tally}
use Rattle.survey.specs.Chunks.{HasRead, Followed, is_first_m, goes_on_m, is_last_m, is_backed_m, is_sized_m, is_start_m, is_end_m, is_sound_m, sound_at, examine_m}
use Rattle.survey.specs.Survey.{nothing, share_of, added_m, first_limit_m, finish_m, mark_m, all_sound, whole_chain, SurveyIs}
use Rattle.survey.proofs.ChunkLaws.{backed_iff}
use Rattle.survey.proofs.SurveyLaws.{chain, chunk, end, Onward, survey_begins, whole_iff, unseen_fails, unsound_fails, short_fails, breaks, ends, goes_on_lem}

-- a chunk off the eights is not sound
off_eights : (ws : List ℕ) (s : Summary) (p : ℕ) (e : Entry) → (e.place % 8 ≡ 0 → ⊥) → sound_at ws s p e ≡ false
unfolding sound_at is_backed_m
off_eights ws s p e n = rw (ne_eqb (e.place % 8) 0 n)

-- and neither is one between the ends with less than 24 bytes
module _ (ws : List ℕ) (s : Summary) (e : Entry) (small : e.size < 24) where
  small_by_kind : 0 < e.place → (e.place + 8 ≡ s.bytes → ⊥) → (k : Kind) → Being s.bytes s.donor.0 s.top.0 e k → is_sound_m ws s e k ≡ false
  unfolding is_sized_m
  small_by_kind some inner Start b = absurd (omega arith)
  small_by_kind some inner InUse b = lt-leb 24 e.size small
  small_by_kind some inner Ordinary b = rw (lt-leb 24 e.size small)
  small_by_kind some inner Donor b = rw (lt-leb 24 e.size small)
  small_by_kind some inner Top b = rw (lt-leb 24 e.size small)
  small_by_kind some inner End b = absurd (inner b.1)

  too_small : (p : ℕ) → 0 < e.place → (e.place + 8 ≡ s.bytes → ⊥) → sound_at ws s p e ≡ false
  unfolding sound_at
  too_small p some inner =
      rw (small_by_kind some inner (kind_m s e) (being s.bytes s.donor.0 s.top.0 e)) (go (is_backed_m (word ws e.place backward) p e.place))
    where
      go : (t : Bool) → (t && false) ≡ false
      go true = refl
      go false = refl

module _ (ws : List ℕ) (s : Summary) where
  -- whether a chunk from c on is at the patrol's place
  abbrev seen_from : ℕ → Bool
  seen_from c = is_chunk (chain ws s c) s.patrol.0

  -- how far the walk may go: to the end, and the patrol's place was met; or to the patrol's place, which is still to come
  abbrev pub Sought : ℕ → ℕ → Type 0
  Sought c limit = ((limit + 8 ≡ s.bytes) × (seen_from 0 ≡ true)) ⊎ ((limit ≡ s.patrol.0) × (seen_from c ≡ seen_from 0))

  -- where the walk stands at c, behind the start and a chunk at p
  pub record Walking (ms₀ ms : List ℕ) (t : Tally) (p c limit : ℕ) : Type 0 where
    pub onward : Onward ws s ms₀ ms t p c
    pub eight : c % 8 ≡ 0
    pub eight_before : p % 8 ≡ 0
    pub behind : p < c
    pub room : c + 8 ≤ s.bytes
    pub below : limit + 8 ≤ s.bytes
    pub sought : Sought c limit

  -- the chunk at c is at the patrol's place, or a later one is
  seen_here : (c : ℕ) → c ≡ s.patrol.0 → seen_from c ≡ true
  seen_here c e = go (ℕ_discrete (end ws s c) s.bytes)
    where
      go : Dec (end ws s c ≡ s.bytes) → seen_from c ≡ true
      go (yes last) = rw (chain_here ws s.bytes c last, eq-eqb c s.patrol.0 e)
      go (no m) = let (up, inside, further) = chain_next ws s.bytes c m in rw (further, eq-eqb c s.patrol.0 e)

  module _ (c : ℕ) (other : c ≡ s.patrol.0 → ⊥) where
    seen_later : (end ws s c ≡ s.bytes → ⊥) → seen_from c ≡ seen_from (end ws s c)
    seen_later m = let (up, inside, further) = chain_next ws s.bytes c m in rw (further, ne_eqb c s.patrol.0 other)

    seen_no_more : end ws s c ≡ s.bytes → seen_from c ≡ false
    seen_no_more last = rw (chain_here ws s.bytes c last, ne_eqb c s.patrol.0 other)

  -- no chunk lies below the one from which a chain is read, and none above its last
  none_below : (q c : ℕ) → q < c → is_chunk (chain ws s c) q ≡ false
  none_below q =
      chain_by ws s.bytes (λ c es. q < c → is_chunk es q ≡ false)
      (λ c n l. rw (ne_eqb c q (λ e. omega arith)))
      (λ c es (up, inside) rest l. rw (ne_eqb c q (λ e. omega arith)) (rest (omega arith)))

  none_above : (q c : ℕ) (d : Entry) → (last_or d (chain ws s c)).place < q → (c < q) × (is_chunk (chain ws s c) q ≡ false)
  none_above q =
      chain_by ws s.bytes (λ c es. (d : Entry) → (last_or d es).place < q → (c < q) × (is_chunk es q ≡ false))
      (λ c n d l. (l, rw (ne_eqb c q (λ e. omega arith))))
      (λ c es (up, inside) rest d l.
      let (below, none) = rest (up_entry ws s.bytes c) l in
      (omega arith, rw (ne_eqb c q (λ e. omega arith)) none))

  -- so a patrol's place above the end chunk is no chunk's
  pub walk_far : s.bytes < s.patrol.0 + 8 → whole_chain ws s ≡ false
  walk_far far =
      not_so (whole_iff ws s)
      (λ ((_, end), seen).
      let last : (last_or outside (chain ws s 0)).place + 8 ≡ s.bytes = rw (shape_is ws s.bytes) at end in
      let (_, none) = none_above s.patrol.0 0 outside (omega arith) in
      false≢true (sym none ∙ (rw (shape_is ws s.bytes) at seen)))

module _ (ws : List ℕ) (s : Summary) (lent : Lent ws s.bytes) where
  -- the start chunk is sound exactly if its two words are right
  first_iff : Decides (sound_at ws s 0 (chunk ws s 0)) ((word ws 0 forward ≡ 8) × (word ws 0 backward ≡ 1))
  unfolding sound_at is_start_m
  first_iff =
      rw (← kind_start s.bytes s.donor.0 s.top.0 (chunk ws s 0) refl)
      (meaning
      (both (backed_iff (word ws 0 backward) 0 0) (both (number_is (end ws s 0 - 0) 8) (number_is (word ws 0 backward % 8) 1)))
      (λ ((_, back), (eight, flags)). (ends_up (omega arith), omega arith))
      (λ (next, back). (((refl, omega arith), omega arith), (right next, omega arith))))
    where
      ends_up : end ws s 0 ≡ 8 → word ws 0 forward ≡ 8
      ends_up e = end_link ws s.bytes 0 (λ q. omega (arith, lent.enough)) ∙ e

      right : word ws 0 forward ≡ 8 → end ws s 0 - 0 ≡ 8
      right e = let up = end_up ws s.bytes 0 (omega arith, omega (arith, lent.enough)) in omega arith

  -- the code's test is the same
  first_same : is_first_m (word ws 0 forward) (word ws 0 backward) ≡ sound_at ws s 0 (chunk ws s 0)
  unfolding is_first_m
  first_same = same_test (both (number_is (word ws 0 forward) 8) (number_is (word ws 0 backward) 1)) first_iff (λ q. q) (λ q. q)

  bytes_fit : s.bytes < 2 ^ 32
  bytes_fit = omega (arith, lent.not_too_many)

  pub walk_no_start : is_first_m (word ws 0 forward) (word ws 0 backward) ≡ false → whole_chain ws s ≡ false
  walk_no_start h = breaks ws s [] [] nothing 0 0 survey_begins (sym first_same ∙ h)

  pub walking_begins : {ms : List ℕ} {t : Tally} {limit last : ℕ} → is_first_m (word ws 0 forward) (word ws 0 backward) ≡ true
      → s.patrol.0 ≤ last → last ≡ s.bytes - 8 → limit ≡ first_limit_m s.patrol.0 last → t ≡ added_m nothing (share_of Start 8)
      → Walking ws s ms ms t 0 8 limit
  unfolding mark_m
  walking_begins {ms} {limit = limit} {last = last} h near la el et =
      let enough = lent.enough in
      rw et
      (record {
        onward =
            rw up at
            (goes_on_lem ws s ms ms nothing 0 0 survey_begins bytes_fit Start (kind_start s.bytes s.donor.0 s.top.0 (chunk ws s 0) refl) sound not_end_lem);
        eight = refl;
        eight_before = refl;
        behind = omega arith;
        room = omega arith;
        below = (start (ℕ_discrete s.patrol.0 0)).0;
        sought = (start (ℕ_discrete s.patrol.0 0)).1;
      })
    where
      sound : sound_at ws s 0 (chunk ws s 0) ≡ true
      sound = sym first_same ∙ h

      up : end ws s 0 ≡ 8
      up = let (next, back) = first_iff.0 sound in end_up ws s.bytes 0 (omega arith, omega (arith, lent.enough)) ∙ next

      not_end_lem : end ws s 0 ≡ s.bytes → ⊥
      not_end_lem q = omega (arith, up, lent.enough)

      start : Dec (s.patrol.0 ≡ 0) → (limit + 8 ≤ s.bytes) × Sought ws s 8 limit
      start (yes z) =
          let l : limit ≡ last = el ∙ rw (eq-eqb s.patrol.0 0 z) in
          (omega (arith, lent.enough), inl (omega (arith, lent.enough), seen_here ws s 0 (sym z)))
      start (no n) =
          let l : limit ≡ s.patrol.0 = el ∙ rw (ne_eqb s.patrol.0 0 n) in
          (omega (arith, lent.enough), inr (l, sym (seen_later ws s 0 (λ z. n (sym z)) not_end_lem ∙ ap (seen_from ws s) up)))

  -- what a look at the chunk at c finds
  module _ (p c : ℕ) where
    abbrev found : Option Kind
    found = then_some (sound_at ws s p (chunk ws s c)) (kind_m s (chunk ws s c))

    told_unsound : found ≡ None → sound_at ws s p (chunk ws s c) ≡ false
    told_unsound = by (sound_at ws s p (chunk ws s c))
      where
        by : (t : Bool) → then_some t (kind_m s (chunk ws s c)) ≡ None → t ≡ false
        by true r = cc
        by false r = refl

    told_sound : (k : Kind) → found ≡ Some k
        → (k ≡ kind_m s (chunk ws s c)) × (sound_at ws s p (chunk ws s c) ≡ true)
    told_sound k = by (sound_at ws s p (chunk ws s c))
      where
        by : (t : Bool) → then_some t (kind_m s (chunk ws s c)) ≡ Some k → (k ≡ kind_m s (chunk ws s c)) × (t ≡ true)
        by true r = ((cc), refl)
        by false r = cc

  -- a place where the walk stands is inside the heap
  module _ {ms₀ ms : List ℕ} {t : Tally} {p c limit : ℕ} (o : Walking ws s ms₀ ms t p c limit) where
    pub walk_inside : c / 4 + 1 < length ws
    walk_inside = omega (arith, o.room, lent.words, o.eight)

    pub walk_within : c < 65536
    walk_within = omega (arith, o.room, lent.not_too_many)

  module _ {ms₀ ms : List ℕ} {t : Tally} {v : Visit} {limit : ℕ} (read : HasRead ws v)
      (o : Walking ws s ms₀ ms t v.before.0 v.chunk.0 limit) where
    abbrev p : ℕ
    p = v.before.0

    abbrev c : ℕ
    c = v.chunk.0

    -- its two links
    abbrev n : ℕ
    n = v.next

    abbrev link : ℕ
    link = v.link

    goes_iff : (m : ℕ) → Decides (goes_on_m v m) (((n % 8 ≡ 0) × (c + 24 ≤ n)) × (n ≤ m))
    unfolding goes_on_m
    goes_iff m = both (both (number_is (n % 8) 0) (at_most (c + 24) n)) (at_most n m)

    last_iff : (m : ℕ) → Decides (is_last_m v m) (((c ≡ m) × (n ≡ 0)) × (link ≡ p + 1))
    unfolding is_last_m
    last_iff m = both (both (number_is c m) (number_is n 0)) (number_is link (p + 1))

    -- the chain goes on behind it
    module _ (h : goes_on_m v limit ≡ true) where
      pub walk_followed : Followed ws s v
      walk_followed =
          let ((eight, room), below) = (goes_iff limit).0 h in
          record {
            header = omega (arith, lent.words, o.eight, o.below);
            room = room;
            below = omega (arith, o.below);
          }

      end_is : end ws s c ≡ n
      end_is =
          let ((eight, room), below) = (goes_iff limit).0 h in
          end_up ws s.bytes c (omega (arith, read.next), omega (arith, o.below, read.next)) ∙ sym read.next

      not_end_lem : end ws s c ≡ s.bytes → ⊥
      not_end_lem q = let ((eight, room), below) = (goes_iff limit).0 h in omega (arith, end_is, o.below)

      -- the patrol's place is not passed over
      still_sought : Sought ws s c limit → Sought ws s n limit
      still_sought (inl q) = inl q
      still_sought (inr (l, left)) =
          let ((eight, room), below) = (goes_iff limit).0 h in
          let later = seen_later ws s c (λ q. omega arith) not_end_lem in
          inr (l, ap (seen_from ws s) (sym end_is) ∙ sym later ∙ left)

      -- what was seen of the chunk is told of the chain's
      module _ {seen : Option Kind} (es : seen ≡ examine_m ws s v) where
        told : seen ≡ found p c
        unfolding examine_m sound_at
        told = es ∙ rw (end_is, read.link)

        pub walk_breaks : seen ≡ None → whole_chain ws s ≡ false
        walk_breaks u = breaks ws s ms₀ ms t p c o.onward (told_unsound p c (sym told ∙ u))

        pub walk_goes : {k : Kind} → seen ≡ Some k → {t' : Tally} → t' ≡ added_m t (share_of k (n - c))
            → {ms' : List ℕ} → ms' ≡ mark_m ms k c → Walking ws s ms₀ ms' t' c n limit
        walk_goes {k} u et em =
            let ((eight, room), below) = (goes_iff limit).0 h in
            let (kind, sound) = told_sound p c k (sym told ∙ u) in
            rw (et, em)
            (record {
              onward = rw end_is at (goes_on_lem ws s ms₀ ms t p c o.onward bytes_fit k kind sound not_end_lem);
              eight = eight;
              eight_before = o.eight;
              behind = omega arith;
              room = omega (arith, o.below);
              below = o.below;
              sought = still_sought o.sought;
            })

    -- the end chunk is sound exactly if its two words are right
    end_iff : c + 8 ≡ s.bytes → Decides (sound_at ws s p (chunk ws s c)) ((n ≡ 0) × (link ≡ p + 1))
    unfolding sound_at is_end_m
    end_iff e =
        rw (← kind_end s.bytes s.donor.0 s.top.0 (chunk ws s c) (λ z. omega (arith, o.behind)) e, ← read.link, ← read.next)
        (meaning
        (both (backed_iff link p c) (both (number_is (link % 8) 1) (number_is n 0)))
        (λ ((_, back), (flags, none)). (none, omega arith))
        (λ (none, back). (((o.eight, omega (arith, o.eight_before)), omega (arith, o.eight_before)), (omega (arith, o.eight_before), none))))

    module _ {last : ℕ} (la : last ≡ s.bytes - 8) where
      here_last : c ≡ last → c + 8 ≡ s.bytes
      here_last e = omega (arith, o.room)

      -- at the end the patrol's place was met, or it is the end
      sought_last : limit ≡ last → c ≡ last → Sought ws s c limit → seen_from ws s 0 ≡ true
      sought_last l e (inl (_, seen)) = seen
      sought_last l e (inr (q, left)) = sym left ∙ seen_here ws s c (e ∙ sym l ∙ q)

      walk_ends : limit ≡ last → is_last_m v last ≡ true → SurveyIs ws s ms₀ ms (Some (added_m t (share_of End 8)))
      unfolding mark_m
      walk_ends l h =
          let ((here, none), back) = (last_iff last).0 h in
          let e = here_last here in
          let stop = end_stop ws s.bytes c (λ u. omega (arith, u.0)) in
          ends ws s ms₀ ms t p c o.onward bytes_fit End
          (kind_end s.bytes s.donor.0 s.top.0 (chunk ws s c) (λ z. omega (arith, o.behind)) e)
          ((end_iff e).1 (none, back)) stop e (sought_last l here o.sought)

      -- where the chain neither goes on nor has come to its end, it is not whole: it stops too early, or what comes next is too near,
      -- too far up or off the eights
      module _ (more : goes_on_m v last ≡ false) (done : is_last_m v last ≡ false) where
        not_last : c + 8 ≡ s.bytes → sound_at ws s p (chunk ws s c) ≡ false
        not_last e =
            not_so (end_iff e) (λ (none, back). false≢true (sym done ∙ (last_iff last).1 ((omega arith, none), back)))

        next_off : (end ws s c ≡ s.bytes → ⊥) → (end ws s c % 8 ≡ 0 → ⊥) → all_sound ws s p (chain ws s c) ≡ false
        next_off m off =
            let (up, inside, further) = chain_next ws s.bytes c m in
            rw further (go (sound_at ws s p (chunk ws s c)) (ℕ_discrete (end ws s (end ws s c)) s.bytes))
          where
            go : (t : Bool) → Dec (end ws s (end ws s c) ≡ s.bytes) → (t && all_sound ws s c (chain ws s (end ws s c))) ≡ false
            go false _ = refl
            go true (yes e) = rw (chain_here ws s.bytes (end ws s c) e, off_eights ws s c (chunk ws s (end ws s c)) off)
            go true (no k) =
                let (up, inside, further) = chain_next ws s.bytes (end ws s c) k in
                rw (further, off_eights ws s c (chunk ws s (end ws s c)) off)

        near : n ≡ end ws s c → end ws s c < s.bytes → end ws s c % 8 ≡ 0 → end ws s c - c < 24
        near up inside eight = go (dec_lt (end ws s c - c) 24)
          where
            go : Dec (end ws s c - c < 24) → end ws s c - c < 24
            go (yes l) = l
            go (no f) =
                absurd (false≢true (sym more ∙ (goes_iff last).1 ((omega arith, omega (arith, o.room)), omega (arith, lent.eights, o.room))))

        stuck : Dec (end ws s c ≡ s.bytes) → Dec (c + 8 ≡ s.bytes) → Dec (end ws s c % 8 ≡ 0) → whole_chain ws s ≡ false
        stuck (yes e) (yes here) _ = breaks ws s ms₀ ms t p c o.onward (not_last here)
        stuck (yes e) (no k) _ = short_fails ws s ms₀ ms t p c o.onward (rw (chain_here ws s.bytes c e) k)
        stuck (no m) _ (no off) = unsound_fails ws s ms₀ ms t p c o.onward (next_off m off)
        stuck (no m) _ (yes eight) =
            let (up, inside, further) = chain_next ws s.bytes c m in
            let small = near (read.next ∙ end_link ws s.bytes c m) inside eight in
            breaks ws s ms₀ ms t p c o.onward
            (too_small ws s (chunk ws s c) small p (omega (arith, o.behind)) (λ q. omega (arith, lent.eights, o.eight)))

        walk_stuck : whole_chain ws s ≡ false
        walk_stuck = stuck (ℕ_discrete (end ws s c) s.bytes) (ℕ_discrete (c + 8) s.bytes) (ℕ_discrete (end ws s c % 8) 0)

      -- the walk has come to its limit
      module _ (more : goes_on_m v limit ≡ false) where
        -- which is the end
        pub walk_finish : limit ≡ last → {r : Option Tally} → r ≡ finish_m v last t → SurveyIs ws s ms₀ ms r
        unfolding finish_m
        walk_finish l er = rw er (go (is_last_m v last) refl)
          where
            go : (u : Bool) → is_last_m v last ≡ u
                → SurveyIs ws s ms₀ ms (then_some u (added_m t (share_of End 8)))
            go true e = walk_ends l e
            go false e = walk_stuck (rw l at more) e

        module _ (not_end_yet : limit ≡ last → ⊥) where
          -- or the patrol's place, and a chunk is there: then the end is the limit
          pub walk_turns : c ≡ limit → Walking ws s ms₀ ms t p c last
          walk_turns e =
              record {
                onward = o.onward;
                eight = o.eight;
                eight_before = o.eight_before;
                behind = o.behind;
                room = o.room;
                below = omega (arith, o.room);
                sought = inl (omega (arith, o.room), seen o.sought);
              }
            where
              seen : Sought ws s c limit → seen_from ws s 0 ≡ true
              seen (inl (q, _)) = absurd (not_end_yet (omega arith))
              seen (inr (q, left)) = sym left ∙ seen_here ws s c (e ∙ q)

          -- or no chunk is there
          pub walk_misses : (c ≡ limit → ⊥) → whole_chain ws s ≡ false
          walk_misses other = go o.sought (ℕ_discrete (end ws s c) s.bytes) (dec_lt limit (end ws s c))
            where
              go : Sought ws s c limit → Dec (end ws s c ≡ s.bytes) → Dec (limit < end ws s c) → whole_chain ws s ≡ false
              go (inl (q, _)) _ _ = absurd (not_end_yet (omega arith))
              go (inr (q, left)) (yes e) _ = unseen_fails ws s (sym left ∙ seen_no_more ws s c (λ z. other (z ∙ sym q)) e)
              go (inr (q, left)) (no m) (yes past) =
                  unseen_fails ws s
                  (sym left ∙ seen_later ws s c (λ z. other (z ∙ sym q)) m ∙ none_below ws s s.patrol.0 (end ws s c) (omega arith))
              go (inr (q, left)) (no m) (no low) =
                  let up = end_link ws s.bytes c m in
                  let (above, inside, _) = chain_next ws s.bytes c m in
                  walk_stuck
                  (not_so (goes_iff last) (λ ((eight, room), _). false≢true (sym more ∙ (goes_iff limit).1 ((eight, room), omega arith))))
                  (not_so (last_iff last) (λ ((_, none), _). omega arith))
