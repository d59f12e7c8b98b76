-- Chunks are linked into the chain between two parts of it: the stores that do it make the headers right along the whole chain,
-- and write nothing in the chunks below and above but links. Assumes nothing.
use mathlib.Core.Path.{◌≡◌, refl, sym, subst, ◌∙◌}
use mathlib.Core.Logic.{◌≢◌, inl, inr}
use mathlib.Core.List.Memᴰ
use mathlib.Core.List.{List, [], ◌∷◌, ◌++◌, append_assoc}
use Prim.Native.Nat.{ℕ, ◌+◌, ◌*◌, ◌/◌, ◌≤◌}
use native.Mathlib.Decide.{ℕ_discrete}
use native.Mathlib.Omega.{arith}
use lib.ListN.{length}
use Rattle.lists.specs.Lists.{Mem, head_or, last_or}
use Rattle.lists.proofs.MembersLaws.{last_append}
use Rattle.lists.proofs.SplitLaws.{outer_in, middle_in}
use Rattle.region.specs.Words.{Store, put, written, forward, backward, size}
use Rattle.region.proofs.WordsLaws.{Off, length_written, written_append, word_same, word_other, off_both}
use Rattle.rules.specs.Shape.{Entry, chunk_end}
use Rattle.rules.specs.Kinds.{outside}
use Rattle.rules.specs.Draft.{Draft, headers, relink}
use Rattle.rules.proofs.TiledLaws.{Tiled, tiled_up, tiled_in}
use Rattle.drafts.proofs.LayoutLaws.{Beside, Laid, Layout, Cuts, laid_beside, cuts, outer_beside}
use Rattle.drafts.proofs.HeaderLaws.{Headed, headed_joined, PassByHeader, headed_keeps, beside_misses, words_spared, headers_spare, headers_written}

-- the stores that link the chunks `news` in between `low` and `high`
abbrev pub link_stores : List Entry → List Entry → List Entry → List Store
link_stores low news high =
    headers (last_or outside low).place news
    ++ put (head_or outside high).place backward ((last_or (last_or outside low) news).place + (head_or outside high).flags) ∷ []

-- the rule `relink` makes these stores
pub relink_written : (ws : List ℕ) (low news high : List Entry) (d : Draft)
    → written ws (relink low news high d).stores ≡ written (written ws d.stores) (link_stores low news high)
unfolding relink
relink_written ws low news high d =
    rw (append_assoc d.stores (headers (last_or outside low).place news), written_append d.stores (link_stores low news high) ws)

-- a store to the backward link of e is to no header word of a chunk that e does not overlap
link_spares : {bytes : ℕ} {d e : Entry} (v : ℕ) → Laid bytes d → Laid bytes e → Beside d e → PassByHeader (put e.place backward v ∷ []) d
link_spares v x y b =
    let s = x.some in (
      ((beside_misses forward x y (omega arith) b).1, tt),
      ((beside_misses backward x y (omega arith) b).1, tt),
      λ f. ((beside_misses size x y (omega (arith, (x.free f).some)) b).1, tt),
    )

-- the first of neighbouring chunks gets b as the chunk below it
rebacked : {bytes : ℕ} (ws : List ℕ) (q b x : Entry) (xs : List Entry) (n : Entry) → Laid bytes x → ((d : Entry) → Mem d xs → Laid bytes d)
    → ((d : Entry) → Mem d xs → Beside d x) → bytes ≤ 4 * length ws → Headed ws q (x ∷ xs) n
    → Headed (written ws (put x.place backward (b.place + x.flags) ∷ [])) b (x ∷ xs) n
rebacked ws q b x xs n y f apart l (own, rest) =
    let i = y.eight in (
      record {
        back = word_same ws x.place backward (b.place + x.flags) (omega arith);
        forth = word_other ws x.place backward (b.place + x.flags) x.place forward (omega arith) ∙ own.forth;
        sized = λ z. word_other ws x.place backward (b.place + x.flags) x.place size (omega arith) ∙ own.sized z;
      },
      headed_keeps (put x.place backward (b.place + x.flags) ∷ []) ws x xs n
          (λ d m. link_spares (b.place + x.flags) (f d m) y (apart d m)) rest,
    )

-- the chunks `news` between `low` and `high` make the chain a layout, and `high` is not empty
pub record Linking (bytes : ℕ) (low news high : List Entry) : Type 0 where
  pub layout : Layout bytes (low ++ news ++ high)
  pub highs : high ≡ [] → ⊥

-- the store that links x to the last of the chunks below it
abbrev up_link : List Entry → List Entry → Entry → List Store
up_link low news x = put x.place backward ((last_or (last_or outside low) news).place + x.flags) ∷ []

module _ {bytes : ℕ} (low news : List Entry) (x : Entry) (xs : List Entry) (y : Layout bytes (low ++ news ++ x ∷ xs)) where
  abbrev below : Entry
  below = last_or outside low

  parts : Cuts bytes low news (x ∷ xs)
  parts = cuts low news (x ∷ xs) y

  outer_laid : (d : Entry) → Mem d (low ++ x ∷ xs) → Laid bytes d
  outer_laid d m = y.chunks d (outer_in low news (x ∷ xs) m)

  new_laid : (d : Entry) → Mem d news → Laid bytes d
  new_laid d m = y.chunks d (middle_in low news (x ∷ xs) m)

  first : Mem x (low ++ x ∷ xs)
  first = Memᴰ.append_right low (Memᴰ.head refl)

  -- x, the first chunk of the upper part, overlaps no other
  low_beside : (d : Entry) → Mem d low → Beside d x
  low_beside d m =
      let t = tiled_in 0 parts.from low parts.below m in
      let u = tiled_up parts.from parts.to news parts.middle in
      inl (omega (arith, t.2, parts.above.0))

  new_beside : (d : Entry) → Mem d news → Beside d x
  new_beside d m =
      let t = tiled_in parts.from parts.to news parts.middle m in
      inl (omega (arith, t.2, parts.above.0))

  high_beside : (d : Entry) → Mem d xs → Beside d x
  high_beside d m = inr (tiled_in (chunk_end x) bytes xs parts.above.2 m).0

  up_spares : (d : Entry) → Laid bytes d → Beside d x → PassByHeader (up_link low news x) d
  up_spares d k b = link_spares ((last_or below news).place + x.flags) k (outer_laid x first) b

  module _ (ws : List ℕ) (long : bytes ≤ 4 * length ws) where
    -- the words with the headers of `news`
    abbrev inner : List ℕ
    inner = written ws (headers below.place news)

    abbrev linked_words : List ℕ
    linked_words = written inner (up_link low news x)

    -- the other chunks keep their headers
    outer_kept : (b : Entry) (es : List Entry) (n : Entry) → ((d : Entry) → Mem d es → Mem d (low ++ x ∷ xs)) → Headed ws b es n → Headed inner b es n
    outer_kept b es n f k =
        headed_keeps (headers below.place news) ws b es n
        (λ d m. headers_spare (outer_laid d (f d m)) below.place new_laid (λ e j. outer_beside low news (x ∷ xs) y (f d m) j))
        k

    inner_long : bytes ≤ 4 * length inner
    inner_long = let k = length_written (headers below.place news) ws in omega arith

    linked : (q : Entry) → Headed ws outside low (head_or x news) → Headed ws q (x ∷ xs) outside
        → Headed linked_words outside (low ++ news ++ x ∷ xs) outside
    linked q lower upper =
        headed_joined linked_words outside (low ++ news) (x ∷ xs) outside
        (headed_joined linked_words outside low news x
        (headed_keeps (up_link low news x) inner outside low (head_or x news)
        (λ d m. up_spares d (outer_laid d (Memᴰ.append_left (x ∷ xs) m)) (low_beside d m))
        (outer_kept outside low (head_or x news) (λ d m. Memᴰ.append_left (x ∷ xs) m) lower))
        (headed_keeps (up_link low news x) inner below news x (λ d m. up_spares d (new_laid d m) (new_beside d m))
        (headers_written ws below news x parts.from (subst (λ (v : ℕ). Tiled parts.from news v) (sym parts.above.0) parts.middle) new_laid long)))
        (rw (last_append outside low news)
        (rebacked inner q (last_or below news) x xs outside (outer_laid x first)
        (λ d m. outer_laid d (Memᴰ.append_right low (Memᴰ.tail m))) high_beside inner_long
        (outer_kept q (x ∷ xs) outside (λ d m. Memᴰ.append_right low m) upper)))

-- linking `news` in makes the headers right along the whole chain
pub link_headed : {bytes : ℕ} {low news high : List Entry} → Linking bytes low news high → (ws : List ℕ) → bytes ≤ 4 * length ws
    → (q : Entry) → Headed ws outside low (head_or (head_or outside high) news) → Headed ws q high outside
    → Headed (written ws (link_stores low news high)) outside (low ++ news ++ high) outside
link_headed {high = []} l ws long q lower upper = absurd (l.highs refl)
link_headed {low = low} {news = news} {high = x ∷ xs} l ws long q lower upper =
    rw written_append (linked low news x xs l.layout ws long q lower upper)

-- no word past the links of a chunk below or above is written
pub link_off : {bytes : ℕ} {low news high : List Entry} → Linking bytes low news high → {d : Entry} → Mem d (low ++ high)
    → (k : ℕ) → 2 ≤ k → 4 * k + 4 ≤ d.size → Off (d.place / 4 + k) (link_stores low news high)
link_off {high = []} l m k two s = absurd (l.highs refl)
link_off {bytes} {low} {news} {high = x ∷ xs} l {d} m k two s =
    off_both (d.place / 4 + k) (headers (last_or outside low).place news) (up_link low news x)
    (words_spared own (last_or outside low).place (new_laid low news x xs y) (λ e j. outer_beside low news (x ∷ xs) y m j) k s)
    (go (ℕ_discrete d.place x.place), tt)
  where
    y : Layout bytes (low ++ news ++ x ∷ xs)
    y = l.layout

    own : Laid bytes d
    own = outer_laid low news x xs y d m

    go : Dec (d.place ≡ x.place) → d.place / 4 + k ≢ x.place / 4 + backward
    go (yes q) = omega arith
    go (no n) =
        let j = first low news x xs y in
        let b = laid_beside y (outer_in low news (x ∷ xs) m) (outer_in low news (x ∷ xs) j) n in
        (beside_misses k own (outer_laid low news x xs y x j) s b).1
