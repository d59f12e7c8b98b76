-- Handling the chunk at c looks at its forward link, its flags and words above its header alone; at the start also at the backward link.
-- Regions that agree there are handled alike (`next_agrees`, `mends_agree`), and what is written leaves them agreeing from the next chunk on
-- (`agree_on`). Assumes nothing.
use mathlib.Core.Path.{◌≡◌, refl, sym, ap, ◌∙◌}
use mathlib.Core.Bool.{Bool, true, false, cond, not, ◌&&◌, ◌||◌}
use mathlib.Core.List.{List, []}
use Rattle.std.specs.Prelude.{Some}
use Prim.Native.Nat.{ℕ, zero, suc, ◌+◌, ◌-◌, ◌/◌, ◌%◌, ◌≤◌, ◌<◌}
use native.Mathlib.Decide.{dec_lt}
use native.Mathlib.Omega.{arith}
use lib.Dec.{eqb, ltb}
use lib.ListN.{length, get_or, get_or-eq_default}
use borrow.Author.Tests.{ltb-true, ltb-false, eqb-true}
use Rattle.region.specs.Words.{word, forward, backward, size}
use Rattle.rules.specs.Shape.{entry, flags_at}
use Rattle.rules.specs.Kinds.{in_use}
use Rattle.rules.specs.Patrol.{back_offset, least_size, skips, broken, seek_from, next_of, mend, mends}
use Rattle.rules.proofs.PatrolSeek.{least_some, back_eights, seek_near, seek_low, seek_here, seek_down, Step, near, low, here, down, step, NextPlace, next_above, next_far}
use Rattle.rules.proofs.PatrolNext.{next_believed, next_sought}
use Rattle.rules.proofs.PatrolMends.{handled, own, mends_are, handled_length, handled_kept, handled_at, handled_back}

-- the regions ws and vs agree in all that handling the chunk at c looks at
pub record AgreeFrom (end c : ℕ) (ws vs : List ℕ) : Type 0 where
  pub link : word vs c forward ≡ word ws c forward
  pub flags : flags_at vs c ≡ flags_at ws c
  pub start : c ≡ 0 → word vs c backward ≡ word ws c backward
  pub upper : (i : ℕ) → c / 4 + 2 ≤ i → i < end / 4 + 2 → get_or vs i 0 ≡ get_or ws i 0

pub agree_same : (end c : ℕ) (ws : List ℕ) → AgreeFrom end c ws ws
agree_same end c ws = record { link = refl; flags = refl; start = λ z. refl; upper = λ i lo hi. refl }

module _ (end c : ℕ) (ws vs : List ℕ) (eights : c % 8 ≡ 0) (last : end % 8 ≡ 0) (a : AgreeFrom end c ws vs) where
  -- the words of a chunk above c, up to the end, and the size word of c
  upper_word : (d j : ℕ) → c / 4 + 2 ≤ d / 4 + j → d / 4 + j < end / 4 + 2 → word vs d j ≡ word ws d j
  unfolding word
  upper_word d j lo hi = a.upper (d / 4 + j) lo hi

  back_agrees : (x : ℕ) → c < x → x ≤ end → x % 8 ≡ 0 → word vs x backward ≡ word ws x backward
  back_agrees x l m e = upper_word x backward (omega arith) (omega arith)

  offset_agrees : (x : ℕ) → c < x → x ≤ end → x % 8 ≡ 0 → back_offset vs x ≡ back_offset ws x
  offset_agrees x l m e = ap (λ (w : ℕ). w - w % 8) (back_agrees x l m e)

  forth_agrees : (x : ℕ) → c < x → x ≤ end → x % 8 ≡ 0 → word vs x forward ≡ word ws x forward
  forth_agrees x l m e = upper_word x forward (omega arith) (omega arith)

  pub seek_agrees : (k x : ℕ) → c < x → x ≤ end → x % 8 ≡ 0 → seek_from k vs c x ≡ seek_from k ws c x
  seek_agrees zero x l m e = refl
  seek_agrees (suc k) x l m e =
      go (step ws c x) (λ b d. seek_agrees k (back_offset ws x) b d (back_eights ws x))
    where
      same : back_offset vs x ≡ back_offset ws x
      same = offset_agrees x l m e

      go : Step ws c x
          → (c < back_offset ws x → back_offset ws x ≤ end → seek_from k vs c (back_offset ws x) ≡ seek_from k ws c (back_offset ws x))
          → seek_from (suc k) vs c x ≡ seek_from (suc k) ws c x
      go (near b) f = seek_near vs c x (rw same b) (suc k) ∙ sym (seek_near ws c x b (suc k))
      go (low b) f = seek_low vs c x (rw same b) (suc k) ∙ sym (seek_low ws c x b (suc k))
      go (here b q) f = seek_here vs c x (rw same b) (same ∙ q) k ∙ sym (seek_here ws c x b q k)
      go (down b q) f =
          let s = least_some (back_offset ws x) in
          seek_down vs c x (rw same b) (rw same q) k
          ∙ ap (seek_from k vs c) same ∙ f q (omega arith)
          ∙ sym (seek_down ws c x b q k)

  skips_agree : (v : ℕ) → c < v → v ≤ end → v % 8 ≡ 0 → skips vs c v ≡ skips ws c v
  unfolding skips
  skips_agree v l m e = rw (offset_agrees v l m e) (go (ltb c p) refl (ltb p v) refl)
    where
      p : ℕ
      p = back_offset ws v

      go : (s : Bool) → ltb c p ≡ s → (t : Bool) → ltb p v ≡ t
          → (s && t && eqb (word vs p forward) v) ≡ (s && t && eqb (word ws p forward) v)
      go true d true b =
          let up = ltb-true c p d in
          let under = ltb-true p v b in
          ap (λ (w : ℕ). eqb w v) (forth_agrees p up (omega arith) (back_eights ws v))
      go true d false b = refl
      go false d t b = refl

  pub broken_agrees : (v : ℕ) → broken vs end c v ≡ broken ws end c v
  unfolding broken
  broken_agrees v = go (ltb end v) refl (eqb (v % 8) 0) refl (ltb v (c + least_size c)) refl
    where
      go : (r : Bool) → ltb end v ≡ r → (s : Bool) → eqb (v % 8) 0 ≡ s → (t : Bool) → ltb v (c + least_size c) ≡ t
          → (r || not s || t || skips vs c v) ≡ (r || not s || t || skips ws c v)
      go true b s d t f = refl
      go false b false d t f = refl
      go false b true d true f = refl
      go false b true d false f =
          let up = ltb-false v (c + least_size c) f in
          let some = least_some c in
          skips_agree v (omega arith) (ltb-false end v b) (eqb-true (v % 8) 0 d)

  -- the same next chunk is found
  pub next_agrees : c < end → next_of vs end c ≡ next_of ws end c
  next_agrees l =
      go (broken ws end c (word ws c forward)) refl
    where
      same : broken vs end c (word vs c forward) ≡ broken ws end c (word ws c forward)
      same = ap (broken vs end c) a.link ∙ broken_agrees (word ws c forward)

      go : (t : Bool) → broken ws end c (word ws c forward) ≡ t → next_of vs end c ≡ next_of ws end c
      go true b =
          next_sought vs end c (same ∙ b) ∙ seek_agrees end end l (omega arith) last ∙ sym (next_sought ws end c b)
      go false b = next_believed vs end c (same ∙ b) ∙ ap Some a.link ∙ sym (next_believed ws end c b)

  module _ (v : ℕ) (n : NextPlace end c v) where
    own_agrees : own vs c v ≡ own ws c v
    own_agrees = go (eqb c 0) refl
      where
        go : (s : Bool) → eqb c 0 ≡ s
            → cond s (mend vs c backward (flags_at vs c)) (cond (in_use (entry c (v - c) (flags_at vs c))) [] (mend vs c size (v - c)))
            ≡ cond s (mend ws c backward (flags_at ws c)) (cond (in_use (entry c (v - c) (flags_at ws c))) [] (mend ws c size (v - c)))
        go true e = rw (a.start (eqb-true c 0 e))
        go false e = let up = next_above n in rw (a.flags, upper_word c size (omega arith) (omega arith))

    -- the same stores are made
    pub mends_agree : mends vs c v ≡ mends ws c v
    mends_agree =
        let up = next_above n in
        let same = back_agrees v (omega arith) n.inside n.eights in
        rw (mends_are vs c v, mends_are ws c v, own_agrees, a.link, same)

    flags_kept : flags_at (handled vs c v) v ≡ flags_at vs v
    unfolding word
    flags_kept = go (dec_lt (v / 4 + backward) (length vs))
      where
        go : Dec (v / 4 + backward < length vs) → flags_at (handled vs c v) v ≡ flags_at vs v
        go (yes l) = let b = handled_back vs c v n l in omega arith
        go (no m) =
            let long = handled_length vs c v in
            ap (λ (w : ℕ). w % 8) (get_or-eq_default (handled vs c v) 0 (omega arith) ∙ sym (get_or-eq_default vs 0 (omega arith)))

    -- what is written leaves them agreeing from v on
    pub agree_on : AgreeFrom end v ws (handled vs c v)
    agree_on =
        let up = next_above n in
        let far = next_far n in
        record {
          link =
              handled_kept vs c v v forward (λ q. omega arith) (λ q. omega arith) (λ z q. omega arith) (λ u q. let f = far u.0 in omega arith)
              ∙ forth_agrees v (omega arith) n.inside n.eights;
          flags = flags_kept ∙ ap (λ (w : ℕ). w % 8) (back_agrees v (omega arith) n.inside n.eights);
          start = λ z. absurd (omega arith);
          upper =
              λ i lo hi.
              handled_at vs c v i (λ q. omega arith) (λ q. omega arith) (λ z q. omega arith) (λ u q. let f = far u.0 in omega arith)
              ∙ a.upper i (omega arith) hi;
        }
