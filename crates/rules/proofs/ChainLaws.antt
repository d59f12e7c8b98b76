-- What holds of the chain of any region, damaged ones too: places go up, so no two chunks have the same place. Assumes nothing.
use mathlib.Core.Path.{◌≡◌, refl, sym, ap, ◌∙◌}
use mathlib.Core.Bool.{Bool, true, false, cond}
use mathlib.Core.List.Memᴰ
use mathlib.Core.List.{List, [], ◌∷◌, map}
use Prim.Native.Nat.{ℕ, suc, ◌≤◌, ◌<◌}
use native.Mathlib.Omega.{arith}
use lib.ListN.{length, length-map}
use Rattle.lists.specs.Lists.{Mem, head_or, last_or, keep, Distinct}
use Rattle.lists.proofs.CountLaws.{distinct_fits}
use Rattle.lists.proofs.ListsLaws.{each_cons}
use Rattle.region.specs.Words.{word, forward}
use Rattle.rules.specs.Shape.{Entry, flags_at, shape}
use Rattle.rules.specs.Kinds.{outside}
use Rattle.rules.specs.Ask.{places_of}
use Rattle.rules.proofs.ShapeLaws.{Up, last_entry, up_entry, shape_is, chain_by}

-- places go strictly up and are at least c
abbrev pub Rising : ℕ → List Entry → Type 0
Rising c [] = Unit {0}
Rising c (e ∷ es) = (c ≤ e.place) × Rising (suc e.place) es

pub rising_from : (b c : ℕ) (es : List Entry) → b ≤ c → Rising c es → Rising b es
rising_from b c [] l r = tt
rising_from b c (e ∷ es) l (least, rest) = (omega arith, rest)

pub at_least : (c : ℕ) {e : Entry} (es : List Entry) → Rising c es → Mem e es → c ≤ e.place
at_least c {e = e} [] _ x3 = elim x3 [ ]
at_least c (d ∷ es) (least, rest) (Memᴰ.head q) = rw q least
at_least c (d ∷ es) (least, rest) (Memᴰ.tail m) = omega (arith, at_least (suc d.place) es rest m)

-- two chunks at one place are the same
pub same_place : (c : ℕ) {d e : Entry} (es : List Entry) → Rising c es → Mem d es → Mem e es → d.place ≡ e.place → d ≡ e
same_place c {d = d} {e = e} [] r x4 _ s = elim x4 [ ]
same_place c (x ∷ es) r (Memᴰ.head p) (Memᴰ.head q) s = p ∙ sym q
same_place c (x ∷ es) r (Memᴰ.head p) (Memᴰ.tail m) s =
    let l = at_least (suc x.place) es r.1 m in let b = ap (λ (y : Entry). y.place) p in absurd (omega arith)
same_place c (x ∷ es) r (Memᴰ.tail n) (Memᴰ.head q) s =
    let l = at_least (suc x.place) es r.1 n in let b = ap (λ (y : Entry). y.place) q in absurd (omega arith)
same_place c (x ∷ es) r (Memᴰ.tail n) (Memᴰ.tail m) s = same_place (suc x.place) es r.1 n m s

-- the places of the chunks that a test keeps are all different
module _ (p : Entry → Bool) where
  places_from : (c x : ℕ) (es : List Entry) → Rising c es → Mem x (places_of (keep p es)) → c ≤ x
  places_from c x [] _ m = elim m [ ]
  places_from c x (e ∷ es) (least, rest) m = go (p e) m (places_from (suc e.place) x es rest)
    where
      go : (t : Bool) → Mem x (places_of (cond t (e ∷ keep p es) (keep p es)))
          → (Mem x (places_of (keep p es)) → e.place < x) → c ≤ x
      go true (Memᴰ.head q) f = omega arith
      go true (Memᴰ.tail n) f = omega (arith, f n)
      go false n f = omega (arith, f n)

  pub places_once : (c : ℕ) (es : List Entry) → Rising c es → Distinct (places_of (keep p es))
  places_once c [] r = tt
  places_once c (e ∷ es) (_, rest) =
      go (p e) (places_once (suc e.place) es rest) (λ m. omega (arith, places_from (suc e.place) e.place es rest m))
    where
      go : (t : Bool) → Distinct (places_of (keep p es))
          → (Mem e.place (places_of (keep p es)) → ⊥)
          → Distinct (places_of (cond t (e ∷ keep p es) (keep p es)))
      go true d n = (n, d)
      go false d n = d

-- different places of chunks are at most as many as the chunks
pub places_fit : (cs : List ℕ) (es : List Entry) → Distinct cs → ((c : ℕ) → Mem c cs → (e : Entry) × Mem e es × (e.place ≡ c)) → length cs ≤ length es
places_fit cs es once f =
    let place : Entry → ℕ = λ e. e.place in
    let l = distinct_fits cs (map place es) once (λ c m. let (e, k, at) = f c m in Memᴰ.cast (sym at) (Memᴰ.map place k)) in
    omega (arith, length-map es (λ (e : Entry). e.place))

-- what holds of the chain from c on, es, whatever the words are
pub record Chain (ws : List ℕ) (bytes c : ℕ) (es : List Entry) : Type 0 where
  pub first : (head_or outside es).place ≡ c
  pub has_first : Mem (head_or outside es) es
  pub has_last : (d : Entry) → Mem (last_or d es) es
  pub rising : Rising c es
  pub flags : (e : Entry) → Mem e es → e.flags ≡ flags_at ws e.place
  pub inside : c < bytes → (e : Entry) → Mem e es → e.place < bytes

pub shape_chain : (ws : List ℕ) (bytes : ℕ) → Chain ws bytes 0 (shape ws bytes)
shape_chain ws bytes = rw (shape_is ws bytes) (chain_by ws bytes (Chain ws bytes) last more 0)
  where
    last : (c : ℕ) → (Up ws bytes c → ⊥) → Chain ws bytes c (last_entry ws bytes c ∷ [])
    last c n =
        record {
          first = refl;
          has_first = Memᴰ.head refl;
          has_last = λ d. Memᴰ.head refl;
          rising = (omega arith, tt);
          flags = each_cons refl (λ e m. absurd (Memᴰ.not-nil m));
          inside = λ l. each_cons l (λ e m. absurd (Memᴰ.not-nil m));
        }

    more : (c : ℕ) (es : List Entry) → Up ws bytes c → Chain ws bytes (word ws c forward) es → Chain ws bytes c (up_entry ws bytes c ∷ es)
    more c es u r =
        record {
          first = refl;
          has_first = Memᴰ.head refl;
          has_last = λ d. Memᴰ.tail (r.has_last _);
          rising = (omega arith, rising_from (suc c) (word ws c forward) es u.0 r.rising);
          flags = each_cons refl r.flags;
          inside = λ l. each_cons l (r.inside u.1);
        }
