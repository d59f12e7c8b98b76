-- Right headers along neighbouring chunks (`Headed`): links, flags, and the size words of free ones. The chain of a heap that passes
-- has them; a chain that has them is what is read; stores elsewhere keep them; the rules' header stores make them. Assumes nothing.
use mathlib.Core.Path.{◌≡◌, refl, sym, subst, ap, ◌∙◌}
use mathlib.Core.Logic.{◌≢◌, inl, inr}
use mathlib.Core.Bool.{Bool, true, false}
use mathlib.Core.List.Memᴰ
use mathlib.Core.List.{List, [], ◌∷◌, ◌++◌}
use Prim.Native.Nat.{ℕ, ◌+◌, ◌*◌, ◌-◌, ◌/◌, ◌%◌, ◌≤◌, ◌<◌}
use native.Mathlib.Omega.{arith}
use lib.Dec.{eqb}
use lib.ListN.{length}
use borrow.Author.Tests.{eqb-true, eqb-false}
use Rattle.lists.specs.Lists.{Mem, head_or, last_or}
use Rattle.lists.proofs.MembersLaws.{head_append}
use Rattle.record.specs.declared.heap.Heap.{Heap}
use Rattle.region.specs.Words.{word, Store, put, written, forward, backward, size}
use Rattle.region.proofs.WordsLaws.{Off, off, got, length_written, written_append, off_both}
use Rattle.rules.specs.Shape.{Entry, entry, flags_at, shape, chunk_end}
use Rattle.rules.specs.Kinds.{unused, outside}
use Rattle.rules.specs.Check.{Chained, Backed, Sound, Passes}
use Rattle.rules.specs.Draft.{headers, size_stores}
use Rattle.rules.proofs.ShapeLaws.{chain_from, shape_goes, shape_stops, shape_is}
use Rattle.rules.proofs.SpotLaws.{tiled, inside, Inside}
use Rattle.rules.proofs.TiledLaws.{Tiled, tiled_up, tiled_in, tiled_empty}
use Rattle.drafts.proofs.LayoutLaws.{Beside, Laid, Layout}

-- the words have the header of e, whose neighbours are b below and n above
pub record Header (ws : List ℕ) (b e n : Entry) : Type 0 where
  pub back : word ws e.place backward ≡ b.place + e.flags
  pub forth : word ws e.place forward ≡ n.place
  pub sized : e.flags ≡ 0 → word ws e.place size ≡ e.size

-- the words have the headers of neighbouring chunks; b is below the first and n above the last
abbrev pub Headed : List ℕ → Entry → List Entry → Entry → Type 0
Headed ws b [] n = Unit {0}
Headed ws b (e ∷ es) n = Header ws b e (head_or n es) × Headed ws e es n

module _ (ws : List ℕ) where
  -- headers along a list, and along its two parts
  pub headed_cut : (b : Entry) (xs ys : List Entry) (n : Entry) → Headed ws b (xs ++ ys) n
      → Headed ws b xs (head_or n ys) × Headed ws (last_or b xs) ys n
  headed_cut b [] ys n h = (tt, h)
  headed_cut b (x ∷ xs) ys n (own, rest) =
      let (lower, upper) = headed_cut x xs ys n rest in
      ((rw (head_append n xs ys) at own, lower), upper)

  pub headed_joined : (b : Entry) (xs ys : List Entry) (n : Entry) → Headed ws b xs (head_or n ys) → Headed ws (last_or b xs) ys n
      → Headed ws b (xs ++ ys) n
  headed_joined b [] ys n h k = k
  headed_joined b (x ∷ xs) ys n (own, rest) k = (rw (head_append n xs ys) own, headed_joined x xs ys n rest k)

  -- of the chunk above only the place matters
  pub headed_below : (b : Entry) (xs : List Entry) (n m : Entry) → n.place ≡ m.place → Headed ws b xs n → Headed ws b xs m
  headed_below b [] n m q h = tt
  headed_below b (x ∷ []) n m q (own, _) = (record { back = own.back; forth = own.forth ∙ q; sized = own.sized }, tt)
  headed_below b (x ∷ y ∷ ys) n m q (own, rest) = (own, headed_below x (y ∷ ys) n m q rest)

  -- what the check asks for: backward links, the size words of free chunks, the last forward link
  pub headed_backed : (b : Entry) (es : List Entry) (n : Entry) → Headed ws b es n → Backed ws b.place es
  headed_backed b [] n h = tt
  headed_backed b (e ∷ es) n (own, rest) = (own.back, headed_backed e es n rest)

  pub headed_sized : (b : Entry) (es : List Entry) (n : Entry) {e : Entry} → Headed ws b es n → Mem e es → e.flags ≡ 0
      → word ws e.place size ≡ e.size
  headed_sized b [] n {e = e} _ x4 f = elim x4 [ ]
  headed_sized b (x ∷ es) n (own, rest) (Memᴰ.head q) f = rw q (own.sized (rw q at f))
  headed_sized b (x ∷ es) n (own, rest) (Memᴰ.tail m) f = headed_sized x es n rest m f

  pub headed_last : (b : Entry) (es : List Entry) (n : Entry) → (es ≡ [] → ⊥) → Headed ws b es n → word ws (last_or b es).place forward ≡ n.place
  headed_last b [] n s h = absurd (s refl)
  headed_last b (e ∷ []) n s (own, _) = own.forth
  headed_last b (e ∷ d ∷ es) n s (own, rest) = headed_last e (d ∷ es) n (λ z. none z) rest
    where
      none : (d ∷ es ≡ []) → ⊥
      none z = let q : ◌≡◌ {A = ℕ} 0 1 = cc in omega arith

-- the chain of a heap that passes has its headers
pub headed_read : (ws : List ℕ) (h : Heap) → Passes ws h → Headed ws outside (shape ws h.bytes) outside
headed_read ws h p =
    along 0 outside (shape ws h.bytes) (tiled ws h p) p.backward (λ e m. (inside ws h p e m, (p.chunks e m).sized)) p.chain.ends_there
  where
    along : (a : ℕ) (b : Entry) (es : List Entry) → Tiled a es h.bytes → Backed ws b.place es
        → ((e : Entry) → Mem e es → Inside ws h e × (e.flags ≡ 0 → word ws e.place size ≡ e.size))
        → word ws (last_or b es).place forward ≡ 0 → Headed ws b es outside
    along a b [] t k f z = tt
    along a b (e ∷ []) t (back, _) f z = (record { back = back; forth = z; sized = (f e (Memᴰ.head refl)).1 }, tt)
    along a b (e ∷ d ∷ es) (_, _, rest) (back, backs) f z =
        let (next, some, above) = rest in
        let u = tiled_up (chunk_end d) h.bytes es above in
        let (inside, sized) = f e (Memᴰ.head refl) in (
          record { back = back; forth = inside.next (omega arith) ∙ sym next; sized = sized },
          along (chunk_end e) e (d ∷ es) rest backs (λ x m. f x (Memᴰ.tail m)) z,
        )

-- a layout whose headers are in the words is what is read
module _ (ws : List ℕ) (bytes : ℕ) where
  entry_is : (e : Entry) (s f : ℕ) → s ≡ e.size → f ≡ e.flags → entry e.place s f ≡ e
  entry_is e s f p q = rw (p, q)

  reads_from : (b e : Entry) (es : List Entry) → Tiled e.place (e ∷ es) bytes → Headed ws b (e ∷ es) outside → b.place % 8 ≡ 0
      → ((d : Entry) → Mem d (e ∷ es) → Laid bytes d) → chain_from ws bytes e.place ≡ e ∷ es
  reads_from b e [] (_, _, ends) (own, _) z f =
      let l = f e (Memᴰ.head refl) in
      shape_stops ws bytes e.place (λ u. omega arith)
      ∙ ap (λ (x : Entry). x ∷ []) (entry_is e (bytes - e.place) (flags_at ws e.place) (omega arith) (omega arith))
  reads_from b e (d ∷ es) (_, _, behind) (own, others) z f =
      let l = f e (Memᴰ.head refl) in
      let forth : word ws e.place forward ≡ d.place = own.forth in
      let (here, some, above) = behind in
      let u = tiled_up (chunk_end d) bytes es above in
      let rest = reads_from e d es (rw (← here) at behind) others l.eight (λ x m. f x (Memᴰ.tail m)) in
      shape_goes ws bytes e.place (omega arith, omega arith)
      ∙ ap (λ (x : Entry). x ∷ chain_from ws bytes (word ws e.place forward))
      (entry_is e (word ws e.place forward - e.place) (flags_at ws e.place) (omega arith) (omega arith))
      ∙ ap (λ (c : ℕ). e ∷ chain_from ws bytes c) forth
      ∙ ap (λ (l : List Entry). e ∷ l) rest

  pub reads_as : (es : List Entry) → 0 < bytes → Layout bytes es → Headed ws outside es outside → shape ws bytes ≡ es
  reads_as [] some y k = absurd (omega arith)
  reads_as (e ∷ es) some y k =
      let (here, large, rest) = y.tiled in
      let t : Tiled e.place (e ∷ es) bytes = (refl, large, rest) in
      shape_is ws bytes ∙ ap (chain_from ws bytes) (sym here) ∙ reads_from outside e es t k (omega arith) y.chunks

-- such a layout has what the check asks of the chain and of each chunk
module _ {ws : List ℕ} {h : Heap} {es : List Entry} (y : Layout h.bytes es) (k : Headed ws outside es outside) where
  pub headed_chained : 0 < h.bytes → Chained ws h es
  headed_chained some =
      record {
        reaches_end = y.reaches;
        ends_there = headed_last ws outside es outside (λ z. let q = tiled_empty 0 h.bytes es y.tiled z in omega arith) k;
        eights = λ e m. (y.chunks e m).eight;
      }

  pub headed_sound : (e : Entry) → Mem e es → Sound ws h e
  headed_sound e m = let l = y.chunks e m in record { flags = l.flags; room = l.room; sized = headed_sized ws outside es outside k m }

-- no store is to a word of e's header
abbrev pub PassByHeader : List Store → Entry → Type 0
PassByHeader ss e =
    Off (e.place / 4 + forward) ss × Off (e.place / 4 + backward) ss × (e.flags ≡ 0 → Off (e.place / 4 + size) ss)

pub header_keeps : {ws : List ℕ} {b e n : Entry} (ss : List Store) → PassByHeader ss e → Header ws b e n → Header (written ws ss) b e n
header_keeps {ws} {e = e} ss s k =
    record {
      back = off ss ws e.place backward s.1 ∙ k.back;
      forth = off ss ws e.place forward s.0 ∙ k.forth;
      sized = λ f. off ss ws e.place size (s.2 f) ∙ k.sized f;
    }

pub headed_keeps : (ss : List Store) (ws : List ℕ) (b : Entry) (es : List Entry) (n : Entry) → ((e : Entry) → Mem e es → PassByHeader ss e)
    → Headed ws b es n → Headed (written ws ss) b es n
headed_keeps ss ws b [] n s k = tt
headed_keeps ss ws b (e ∷ es) n s (own, rest) =
    (header_keeps ss (s e (Memᴰ.head refl)) own, headed_keeps ss ws e es n (λ d m. s d (Memᴰ.tail m)) rest)

-- the word at index x is none of e's header
abbrev pub Misses : ℕ → Entry → Type 0
Misses x e = (x ≢ e.place / 4 + forward) × (x ≢ e.place / 4 + backward) × (e.flags ≡ 0 → x ≢ e.place / 4 + size)

headers_off : (x p : ℕ) (es : List Entry) → ((e : Entry) → Mem e es → Misses x e) → Off x (headers p es)
headers_off x p [] f = tt
headers_off x p (e ∷ es) f =
    let r = headers_off x e.place es (λ d m. f d (Memᴰ.tail m)) in
    let g = f e (Memᴰ.head refl) in
    (g.0, (g.1, off_both x (size_stores e (eqb e.flags unused)) (headers e.place es) (own (eqb e.flags unused) refl g.2) r))
  where
    own : (t : Bool) → eqb e.flags unused ≡ t → (e.flags ≡ 0 → x ≢ e.place / 4 + size) → Off x (size_stores e t)
    own true q g = (g (eqb-true e.flags unused q), tt)
    own false q g = tt

-- no word of a chunk is in the header of a chunk that it does not overlap
pub beside_misses : {bytes : ℕ} {d e : Entry} (k : ℕ) → Laid bytes d → Laid bytes e → 4 * k + 4 ≤ d.size → Beside d e
    → Misses (d.place / 4 + k) e
beside_misses k x y s (inl b) = omega arith
beside_misses k x y s (inr b) =
    (omega arith, omega arith, λ f. omega (arith, (y.free f).some))

module _ {bytes : ℕ} {d : Entry} (x : Laid bytes d) (p : ℕ) {es : List Entry} (y : (e : Entry) → Mem e es → Laid bytes e)
    (apart : (e : Entry) → Mem e es → Beside d e) where
  pub words_spared : (k : ℕ) → 4 * k + 4 ≤ d.size → Off (d.place / 4 + k) (headers p es)
  words_spared k s = headers_off (d.place / 4 + k) p es (λ e m. beside_misses k x (y e m) s (apart e m))

  pub headers_spare : PassByHeader (headers p es) d
  headers_spare =
      (words_spared forward (omega arith), words_spared backward (omega arith), λ f. words_spared size (omega (arith, (x.free f).some)))

-- the stores of a header
abbrev header_stores : ℕ → Entry → Bool → List Store
header_stores p e t = put e.place forward (chunk_end e) ∷ put e.place backward (p + e.flags) ∷ size_stores e t

header_written : {bytes : ℕ} (ws : List ℕ) (b e n : Entry) → Laid bytes e → bytes ≤ 4 * length ws → chunk_end e ≡ n.place
    → (t : Bool) → eqb e.flags unused ≡ t → Header (written ws (header_stores b.place e t)) b e n
header_written ws b e n x l q true f =
    let z = eqb-true e.flags unused f in
    let s = x.free z in
    let ss : List Store = header_stores b.place e true in
    record {
      back = got 1 ss ws (omega arith) (omega arith);
      forth = got 0 ss ws (omega arith) (omega arith) ∙ q;
      sized = λ _. got 2 ss ws (omega arith) tt;
    }
header_written ws b e n x l q false f =
    let ss : List Store = header_stores b.place e false in
    record {
      back = got 1 ss ws (omega arith) tt;
      forth = got 0 ss ws (omega arith) (omega arith) ∙ q;
      sized = λ z. absurd (eqb-false e.flags unused f z);
    }

-- the stores of the headers of neighbouring chunks make them right; b is below the first
pub headers_written : {bytes : ℕ} (ws : List ℕ) (b : Entry) (es : List Entry) (n : Entry) (a : ℕ) → Tiled a es n.place
    → ((e : Entry) → Mem e es → Laid bytes e) → bytes ≤ 4 * length ws → Headed (written ws (headers b.place es)) b es n
headers_written ws b [] n a t f l = tt
headers_written ws b (e ∷ es) n a (_, _, rest) f l =
    let ss : List Store = header_stores b.place e (eqb e.flags unused) in
    let k = length_written ss ws in
    let x = f e (Memᴰ.head refl) in
    let own = header_written ws b e (head_or n es) x l (next es rest) (eqb e.flags unused) refl in
    subst (λ (v : List ℕ). Headed v b (e ∷ es) n) (sym (written_append ss (headers e.place es) ws)) (
      header_keeps (headers e.place es)
          (headers_spare x e.place (λ d m. f d (Memᴰ.tail m)) (λ d m. inl (tiled_in (chunk_end e) n.place es rest m).0)) own,
      headers_written (written ws ss) e es n (chunk_end e) rest (λ d m. f d (Memᴰ.tail m)) (omega arith),
    )
  where
    next : (ds : List Entry) → Tiled (chunk_end e) ds n.place → chunk_end e ≡ (head_or n ds).place
    next [] u = u
    next (d ∷ ds) (place, _, _) = sym place
