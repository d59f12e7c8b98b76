-- Chunks that tile the bytes from one place to another: where each lies, that no two overlap, how many there can be, how such lists
-- are cut and joined. No word is read. The chain of any region is such a list (`chain_tiled`). Assumes nothing.
use mathlib.Core.Path.{◌≡◌, refl, sym, ap, ◌∙◌}
use mathlib.Core.Logic.{◌⊎◌, inl, inr}
use mathlib.Core.Bool.{Bool, true, false, cond}
use mathlib.Core.List.Memᴰ
use mathlib.Core.List.{List, [], ◌∷◌, ◌++◌}
use Prim.Native.Nat.{ℕ, suc, ◌+◌, ◌*◌, ◌-◌, ◌%◌, ◌≤◌, ◌<◌}
use native.Mathlib.Omega.{arith}
use lib.ListN.{length}
use Rattle.lists.specs.Lists.{Mem, head_or, keep, total}
use Rattle.lists.proofs.ListsLaws.{each_cons}
use Rattle.region.specs.Words.{word, forward}
use Rattle.rules.specs.Shape.{Entry, shape, chunk_end}
use Rattle.rules.specs.Kinds.{outside}
use Rattle.rules.proofs.ChainLaws.{Rising, rising_from}
use Rattle.rules.proofs.ShapeLaws.{Up, last_entry, up_entry, shape_is, chain_by}

-- the chunks tile the bytes from a to b
abbrev pub Tiled : ℕ → List Entry → ℕ → Type 0
Tiled a [] b = a ≡ b
Tiled a (e ∷ es) b = (e.place ≡ a) × (0 < e.size) × Tiled (chunk_end e) es b

pub tiled_cut : (a b : ℕ) (xs ys : List Entry) → Tiled a (xs ++ ys) b → (m : ℕ) × Tiled a xs m × Tiled m ys b
tiled_cut a b [] ys t = (a, refl, t)
tiled_cut a b (x ∷ xs) ys (here, some, rest) =
    let (m, low, high) = tiled_cut (chunk_end x) b xs ys rest in
    (m, (here, some, low), high)

pub tiled_up : (a b : ℕ) (es : List Entry) → Tiled a es b → a ≤ b
tiled_up a b [] t = omega arith
tiled_up a b (e ∷ es) (here, some, rest) = let r = tiled_up (chunk_end e) b es rest in omega arith

-- each lies between a and b
pub tiled_in : (a b : ℕ) {e : Entry} (es : List Entry) → Tiled a es b → Mem e es
    → (a ≤ e.place) × (0 < e.size) × (chunk_end e ≤ b)
tiled_in a b {e = e} [] _ x3 = elim x3 [ ]
tiled_in a b {e} (x ∷ es) (here, some, rest) (Memᴰ.head q) =
    let u = tiled_up (chunk_end x) b es rest in
    rw q (omega arith, some, u)
tiled_in a b (x ∷ es) (here, some, rest) (Memᴰ.tail m) =
    let (above, large, below) = tiled_in (chunk_end x) b es rest m in
    (omega arith, large, below)

pub tiled_apart : (a b : ℕ) {d e : Entry} (es : List Entry) → Tiled a es b → Mem d es → Mem e es → (d.place ≡ e.place → ⊥)
    → (chunk_end d ≤ e.place) ⊎ (chunk_end e ≤ d.place)
tiled_apart a b {d = d} {e = e} [] _ x5 _ n = elim x5 [ ]
tiled_apart a b (x ∷ es) (here, some, rest) (Memᴰ.head p) (Memᴰ.head q) n = absurd (n (ap (λ (y : Entry). y.place) (p ∙ sym q)))
tiled_apart a b (x ∷ es) (here, some, rest) (Memᴰ.head p) (Memᴰ.tail m) n = inl (rw p (tiled_in (chunk_end x) b es rest m).0)
tiled_apart a b (x ∷ es) (here, some, rest) (Memᴰ.tail m) (Memᴰ.head p) n = inr (rw p (tiled_in (chunk_end x) b es rest m).0)
tiled_apart a b (x ∷ es) (here, some, rest) (Memᴰ.tail m) (Memᴰ.tail k) n = tiled_apart (chunk_end x) b es rest m k n

-- if all begin at multiples of 8, and b is one, they end at multiples of 8
pub tiled_eights : (a b : ℕ) {e : Entry} (es : List Entry) → Tiled a es b → b % 8 ≡ 0 → ((d : Entry) → Mem d es → d.place % 8 ≡ 0)
    → Mem e es → chunk_end e % 8 ≡ 0
tiled_eights a b {e = e} [] t z f x4 = elim x4 [ ]
tiled_eights a b (x ∷ []) t z f (Memᴰ.head q) = rw q (omega arith)
tiled_eights a b (x ∷ y ∷ es) t z f (Memᴰ.head q) =
    let k = f y (Memᴰ.tail (Memᴰ.head refl)) in
    rw q (omega arith)
tiled_eights a b (x ∷ es) t z f (Memᴰ.tail m) =
    tiled_eights (chunk_end x) b es t.2 z (λ d k. f d (Memᴰ.tail k)) m

pub tiled_empty : (a b : ℕ) (es : List Entry) → Tiled a es b → es ≡ [] → a ≡ b
tiled_empty a b es t z = rw z at t

-- the first chunk begins at a
pub tiled_first : (a b : ℕ) (es : List Entry) → Tiled a es b → a < b → (d : Entry) → (head_or d es).place ≡ a
tiled_first a b [] t l d = absurd (omega arith)
tiled_first a b (e ∷ es) (here, _, _) l d = here

-- the first chunk is the only one if it reaches b
pub tiled_one : (a b : ℕ) (es : List Entry) → Tiled a es b → a < b → b ≤ chunk_end (head_or outside es) → es ≡ head_or outside es ∷ []
tiled_one a b [] t l q = absurd (omega arith)
tiled_one a b (x ∷ []) t l q = refl
tiled_one a b (x ∷ y ∷ es) (_, _, (here, some, rest)) l q = let u = tiled_up (chunk_end y) b es rest in absurd (omega arith)

-- with at least 8 bytes each, there are at most as many chunks as eights of bytes
pub tiled_few : (a b : ℕ) (es : List Entry) → Tiled a es b → ((e : Entry) → Mem e es → 8 ≤ e.size) → a + 8 * length es ≤ b
tiled_few a b [] t f = omega arith
tiled_few a b (e ∷ es) (here, some, rest) f =
    let r = tiled_few (chunk_end e) b es rest (λ d m. f d (Memᴰ.tail m)) in
    let s = f e (Memᴰ.head refl) in
    omega arith

-- the sizes of some of the chunks add up to no more than b − a
pub tiled_some : (q : Entry → Bool) (a b : ℕ) (es : List Entry) → Tiled a es b → a + total (λ e. e.size) (keep q es) ≤ b
tiled_some q a b [] t = omega arith
tiled_some q a b (e ∷ es) (here, some, rest) = go (q e) (tiled_some q (chunk_end e) b es rest)
  where
    go : (t : Bool) → chunk_end e + total (λ (d : Entry). d.size) (keep q es) ≤ b → a + total (λ (d : Entry). d.size) (cond t (e ∷ keep q es) (keep q es)) ≤ b
    go true r = omega arith
    go false r = omega arith

-- no chunk lies between a and b if b is not above a
pub tiled_none : (a b : ℕ) (ds : List Entry) → Tiled a ds b → b ≤ a → ds ≡ []
tiled_none a b [] t l = refl
tiled_none a b (d ∷ ds) (here, some, rest) l = let u = tiled_up (chunk_end d) b ds rest in absurd (omega arith)

-- two adjoining lists tile together; places go up
pub tiled_joined : (a b c : ℕ) (xs ys : List Entry) → Tiled a xs b → Tiled b ys c → Tiled a (xs ++ ys) c
tiled_joined a b c [] ys t u = rw t u
tiled_joined a b c (x ∷ xs) ys (here, some, rest) u = (here, some, tiled_joined (chunk_end x) b c xs ys rest u)

pub tiled_rising : (a b : ℕ) (es : List Entry) → Tiled a es b → Rising a es
tiled_rising a b [] t = tt
tiled_rising a b (e ∷ es) (here, some, rest) = (omega arith, rising_from (suc e.place) (chunk_end e) es (omega arith) (tiled_rising (chunk_end e) b es rest))

-- every forward link but the last chunk's is the place where its chunk ends
abbrev pub Forwards : List ℕ → ℕ → List Entry → Type 0
Forwards ws bytes es = (e : Entry) → Mem e es → chunk_end e < bytes → word ws e.place forward ≡ chunk_end e

-- the chain from c on tiles the bytes from c up, with right forward links, if c is inside
abbrev TiledFrom : List ℕ → ℕ → ℕ → List Entry → Type 0
TiledFrom ws bytes c es = c < bytes → Tiled c es bytes × Forwards ws bytes es

pub chain_tiled : (ws : List ℕ) (bytes : ℕ) → 0 < bytes → Tiled 0 (shape ws bytes) bytes × Forwards ws bytes (shape ws bytes)
chain_tiled ws bytes = rw (shape_is ws bytes) (chain_by ws bytes (TiledFrom ws bytes) last more 0)
  where
    last : (c : ℕ) → (Up ws bytes c → ⊥) → TiledFrom ws bytes c (last_entry ws bytes c ∷ [])
    last c n l = (
      (refl, omega arith, omega arith),
      each_cons (λ k. absurd (omega arith)) (λ e m. absurd (Memᴰ.not-nil m)),
    )

    more : (c : ℕ) (es : List Entry) → Up ws bytes c → TiledFrom ws bytes (word ws c forward) es → TiledFrom ws bytes c (up_entry ws bytes c ∷ es)
    more c es u r l =
        let s = r u.1 in
        let k : c + (word ws c forward - c) ≡ word ws c forward = omega arith in
        ((refl, omega arith, rw k s.0), each_cons (λ _. sym k) s.1)
