-- What handling a chunk writes (`mends`): nothing where all is so already (`mends_none`), and only then (`mends_only`); into which words
-- its stores fall (`mends_fall`), and what each word is afterwards (`handled_link` and the laws beside it). Assumes nothing.
use mathlib.Core.Path.{◌≡◌, refl, sym, ap, ◌∙◌}
use mathlib.Core.Logic.{◌≢◌}
use mathlib.Core.Bool.{Bool, true, false, cond, false≢true}
use mathlib.Core.List.{List, [], ◌∷◌, ◌++◌}
use Prim.Native.Nat.{ℕ, ◌+◌, ◌-◌, ◌/◌, ◌<◌}
use native.Mathlib.Omega.{arith}
use lib.Dec.{eqb}
use lib.ListN.{length, get_or}
use borrow.Author.Tests.{eq-eqb, eqb-true, eqb-false}
use Rattle.region.specs.Words.{Store, put, written, word, forward, backward, size}
use Rattle.region.proofs.WordsLaws.{word_same, length_written, written_append, Fall, fall_both, Off, off}
use Rattle.rules.specs.Shape.{entry, flags_at}
use Rattle.rules.specs.Kinds.{in_use}
use Rattle.rules.specs.Patrol.{mend, mends}
use Rattle.rules.proofs.PatrolSeek.{NextPlace, next_above, next_far}

-- one word: word k of the chunk at c is to be v
module _ (ws : List ℕ) (c k v : ℕ) where
  pub mend_none : word ws c k ≡ v → mend ws c k v ≡ []
  mend_none q = rw (eq-eqb (word ws c k) v q)

  pub mend_fall : (P : ℕ → Type 0) → P (c / 4 + k) → Fall P (mend ws c k v)
  mend_fall P h = go (eqb (word ws c k) v)
    where
      go : (t : Bool) → Fall P (cond t [] (put c k v ∷ []))
      go true = tt
      go false = (h, tt)

  -- it is written on words us that have it as ws has it
  pub mend_does : (us : List ℕ) → word us c k ≡ word ws c k → c / 4 + k < length us → word (written us (mend ws c k v)) c k ≡ v
  mend_does us s l = go (eqb (word ws c k) v) refl
    where
      go : (t : Bool) → eqb (word ws c k) v ≡ t → word (written us (cond t [] (put c k v ∷ []))) c k ≡ v
      go true e = s ∙ eqb-true (word ws c k) v e
      go false e = word_same us c k v l

-- the chunk at c, with the next one at v
module _ (ws : List ℕ) (c v : ℕ) where
  -- it is free, and has a size word
  abbrev pub HasSize : Type 0
  HasSize = (0 < c) × (in_use (entry c (v - c) (flags_at ws c)) ≡ false)

  -- what is mended of the chunk's own words beside its forward link
  abbrev pub own : List Store
  own =
      cond (eqb c 0) (mend ws c backward (flags_at ws c))
      (cond (in_use (entry c (v - c) (flags_at ws c))) [] (mend ws c size (v - c)))

  abbrev pub forth : List Store
  forth = mend ws c forward v

  abbrev pub back : List Store
  back = mend ws v backward (c + flags_at ws v)

  pub mends_are : mends ws c v ≡ forth ++ back ++ own
  unfolding mends
  mends_are = refl

  -- of the chunk's own words: P holds of what is done, if it holds at the start, of a free chunk, and of a chunk in use above the start
  own_by : (P : List Store → Type 0) → (c ≡ 0 → P (mend ws c backward (flags_at ws c)))
      → (HasSize → P (mend ws c size (v - c)))
      → (0 < c → in_use (entry c (v - c) (flags_at ws c)) ≡ true → P [])
      → P own
  own_by P start free taken = go (eqb c 0) refl (in_use (entry c (v - c) (flags_at ws c))) refl
    where
      go : (s : Bool) → eqb c 0 ≡ s → (t : Bool) → in_use (entry c (v - c) (flags_at ws c)) ≡ t
          → P (cond s (mend ws c backward (flags_at ws c)) (cond t [] (mend ws c size (v - c))))
      go true e t d = start (eqb-true c 0 e)
      go false e true d = let n = eqb-false c 0 e in taken (omega arith) d
      go false e false d = let n = eqb-false c 0 e in free (omega arith, d)

  -- all is so already
  pub record Right : Type 0 where
    pub link : word ws c forward ≡ v
    pub back : word ws v backward ≡ c + flags_at ws v
    pub start : c ≡ 0 → word ws c backward ≡ flags_at ws c
    pub sized : HasSize → word ws c size ≡ v - c

  pub mends_none : Right → mends ws c v ≡ []
  mends_none r =
      let first = mend_none ws c forward v r.link in
      let second = mend_none ws v backward (c + flags_at ws v) r.back in
      let third = own_by (λ ss. ss ≡ []) (λ z. mend_none ws c backward (flags_at ws c) (r.start z))
      (λ u. mend_none ws c size (v - c) (r.sized u)) (λ l u. refl) in
      rw (mends_are, first, second, third) refl

  -- into which words the stores fall
  pub mends_fall : (P : ℕ → Type 0) → P (c / 4 + forward) → P (v / 4 + backward) → (c ≡ 0 → P (c / 4 + backward))
      → (HasSize → P (c / 4 + size)) → Fall P (mends ws c v)
  mends_fall P first second third fourth =
      rw mends_are
      (fall_both P (forth ++ back) own
      (fall_both P forth back (mend_fall ws c forward v P first) (mend_fall ws v backward (c + flags_at ws v) P second))
      (own_by (Fall P) (λ z. mend_fall ws c backward (flags_at ws c) P (third z))
      (λ u. mend_fall ws c size (v - c) P (fourth u)) (λ l u. tt)))

  -- the words afterwards
  abbrev pub handled : List ℕ
  handled = written ws (mends ws c v)

  pub handled_length : length handled ≡ length ws
  handled_length = length_written (mends ws c v) ws

  -- a word into which no store falls is kept
  pub handled_kept : (d j : ℕ) → d / 4 + j ≢ c / 4 + forward → d / 4 + j ≢ v / 4 + backward
      → (c ≡ 0 → d / 4 + j ≢ c / 4 + backward) → (HasSize → d / 4 + j ≢ c / 4 + size) → word handled d j ≡ word ws d j
  handled_kept d j a b e f = off (mends ws c v) ws d j (mends_fall (λ w. d / 4 + j ≢ w) a b e f)

  pub handled_at : (i : ℕ) → i ≢ c / 4 + forward → i ≢ v / 4 + backward → (c ≡ 0 → i ≢ c / 4 + backward) → (HasSize → i ≢ c / 4 + size)
      → get_or handled i 0 ≡ get_or ws i 0
  unfolding word
  handled_at i a b e f =
      let z : 0 / 4 + i ≡ i = omega arith in
      rw z at (handled_kept 0 i (rw z a) (rw z b) (rw z e) (rw z f))

  module _ {end : ℕ} (n : NextPlace end c v) (inside : v / 4 + backward < length ws) where
    -- the words after the two links
    abbrev linked : List ℕ
    linked = written (written ws forth) back

    parts : handled ≡ written linked own
    parts =
        rw mends_are
        (written_append (forth ++ back) own ws ∙ ap (λ (us : List ℕ). written us own) (written_append forth back ws))

    linked_length : length linked ≡ length ws
    linked_length = length_written back (written ws forth) ∙ length_written forth ws

    -- a word other than the two links is kept
    linked_kept : (d j : ℕ) → d / 4 + j ≢ c / 4 + forward → d / 4 + j ≢ v / 4 + backward → word linked d j ≡ word ws d j
    linked_kept d j a b =
        off back (written ws forth) d j (mend_fall ws v backward (c + flags_at ws v) (λ w. d / 4 + j ≢ w) b)
        ∙ off forth ws d j (mend_fall ws c forward v (λ w. d / 4 + j ≢ w) a)

    own_off : (d j : ℕ) → (c ≡ 0 → d / 4 + j ≢ c / 4 + backward) → (HasSize → d / 4 + j ≢ c / 4 + size) → word handled d j ≡ word linked d j
    own_off d j a b =
        rw parts
        (off own linked d j
        (own_by (Off (d / 4 + j)) (λ z. mend_fall ws c backward (flags_at ws c) (λ w. d / 4 + j ≢ w) (a z))
        (λ u. mend_fall ws c size (v - c) (λ w. d / 4 + j ≢ w) (b u)) (λ l u. tt)))

    pub handled_link : word handled c forward ≡ v
    handled_link =
        let up = next_above n in
        own_off c forward (λ z e. omega arith) (λ u e. omega arith)
        ∙ off back (written ws forth) c forward (mend_fall ws v backward (c + flags_at ws v) (λ w. c / 4 + forward ≢ w) (λ e. omega arith))
        ∙ mend_does ws c forward v ws refl (omega arith)

    pub handled_back : word handled v backward ≡ c + flags_at ws v
    handled_back =
        let up = next_above n in
        let long = length_written forth ws in
        own_off v backward (λ z e. omega arith) (λ u e. let f = next_far n u.0 in omega arith)
        ∙ mend_does ws v backward (c + flags_at ws v) (written ws forth)
        (off forth ws v backward (mend_fall ws c forward v (λ w. v / 4 + backward ≢ w) (λ e. omega arith))) (omega arith)

    pub handled_start : c ≡ 0 → word handled c backward ≡ flags_at ws c
    handled_start =
        let up = next_above n in
        let long = linked_length in
        rw parts
        (own_by (λ ss. c ≡ 0 → word (written linked ss) c backward ≡ flags_at ws c)
        (λ z _. mend_does ws c backward (flags_at ws c) linked (linked_kept c backward (λ e. omega arith) (λ e. omega arith)) (omega arith))
        (λ u z. absurd (omega arith))
        (λ l u z. absurd (omega arith)))

    pub handled_size : HasSize → word handled c size ≡ v - c
    handled_size =
        let up = next_above n in
        let long = linked_length in
        rw parts
        (own_by (λ ss. HasSize → word (written linked ss) c size ≡ v - c)
        (λ z u. absurd (omega arith))
        (λ u _. let f = next_far n u.0 in
        mend_does ws c size (v - c) linked (linked_kept c size (λ e. omega arith) (λ e. omega arith)) (omega arith))
        (λ l t u. absurd (false≢true (sym u.1 ∙ t))))

    -- where handling the chunk leaves the words as they are, it has nothing to write
    pub mends_only : handled ≡ ws → mends ws c v ≡ []
    mends_only same =
        mends_none
        (record {
          link = rw same at handled_link;
          back = rw same at handled_back;
          start = rw same at handled_start;
          sized = rw same at handled_size;
        })
