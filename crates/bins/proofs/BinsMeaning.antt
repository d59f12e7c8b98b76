-- Leaving a bin and putting into one, as the code does it, make of the books what the rules say. Assumes nothing.
use Rattle.std.proofs.Common.{◌≡◌, ℕ, ◌+◌, ◌*◌, ◌/◌, ◌%◌, ◌^◌, ◌<◌, ◌≤◌, Bool, true, false, cond, eqb, ltb, leb, List, [], ◌∷◌, ◌++◌, length, get_or, set, sym, refl, ap, ◌∙◌, subst, append-nil, arith, ne_eqb}
use mathlib.Core.List.Memᴰ
use lib.Seq.{set-get_or}
use Rattle.lists.specs.Lists.{Mem, head_or, last_or, up_to, past, on_from}
use Rattle.lists.proofs.AscendingLaws.{parts_at_first, first_kept}
use Rattle.lists.proofs.ListsLaws.{at_most, less, same_test}
use Rattle.lists.proofs.MembersLaws.{head_append, last_append, last_member, kept_same}
use Rattle.lists.proofs.SplitLaws.{split_at_member}
use Rattle.region.specs.Words.{word, store, written, size, next_in_bin, previous_in_bin, bin}
use Rattle.region.proofs.WordsLaws.{written_append}
use Rattle.rules.specs.Draft.{followed_by, preceded_by}
use Rattle.books.specs.Books.{Books}
use Rattle.books.proofs.BooksLaws.{Holds, left_books, put_at, around, own_links, put_written}
use Rattle.books.proofs.WayLaws.{OnWay, way_leads}
use Rattle.bins.specs.Bins.{side, link_m, leave_m, slot, put_m, steps, first_fit_m, member_before_m, slot_m, put_into_m}
use Rattle.bins.proofs.SearchLaws.{first_fit_is}

kept_end : (ends : List ℕ) (i v : ℕ) → get_or ends i 0 ≡ v → ends ≡ set ends i v
kept_end ends i v e = rw (← e) (sym (set-get_or ends i 0))

-- a link from the last of xs; the bin's list begins with xs
front_is : (ws heads : List ℕ) (i v d : ℕ) (xs : List ℕ) → get_or heads i 0 ≡ head_or d xs → ((x : ℕ) → Mem x xs → 0 < x)
    → link_m (side ws heads) i (last_or 0 xs) next_in_bin v ≡ side (written ws (followed_by xs v)) (set heads i (head_or v xs))
unfolding link_m
front_is ws heads i v d [] e pos = refl
front_is ws heads i v d (x ∷ xs) e pos =
    let z = pos (last_or x xs) (last_member x xs) in
    rw (ne_eqb (last_or x xs) 0 (omega arith))
    (ap (λ (ends : List ℕ). side (store ws (last_or x xs) next_in_bin v) ends) (kept_end heads i x e))

-- a link from the first of ys; the bin's list ends with ys
back_is : (ws tails : List ℕ) (i v d : ℕ) (ys : List ℕ) → get_or tails i 0 ≡ last_or d ys → ((y : ℕ) → Mem y ys → 0 < y)
    → link_m (side ws tails) i (head_or 0 ys) previous_in_bin v ≡ side (written ws (preceded_by ys v)) (set tails i (last_or v ys))
unfolding link_m
back_is ws tails i v d [] e pos = refl
back_is ws tails i v d (y ∷ ys) e pos =
    let z = pos y (Memᴰ.head refl) in
    rw (ne_eqb y 0 (omega arith))
    (ap (λ (ends : List ℕ). side (store ws y previous_in_bin v) ends) (kept_end tails i (last_or y ys) e))

module _ (b : Books) (i : ℕ) (xs : List ℕ) (c : ℕ) (ys : List ℕ) where
  -- the chunk at c leaves from between xs and ys
  pub leave_is : Holds b i (xs ++ c ∷ ys) → word b.words c bin ≡ 8 * i → leave_m b c ≡ left_books b i xs ys
  unfolding leave_m
  leave_is h w =
      let own = (around b i xs c ys h).1 in
      let n : word b.words c bin / 8 ≡ i = omega arith in
      let head : get_or b.heads i 0 ≡ head_or c xs = h.head ∙ head_append 0 xs (c ∷ ys) in
      let tail : get_or b.tails i 0 ≡ last_or c ys = h.tail ∙ last_append 0 xs (c ∷ ys) in
      rw (
        own.0,
        own.1,
        n,
        front_is b.words b.heads i (head_or 0 ys) c xs head (λ x m. (h.nodes x (Memᴰ.append_left (c ∷ ys) m)).some),
        back_is (written b.words (followed_by xs (head_or 0 ys))) b.tails i (last_or 0 xs) c ys tail (λ y m. (h.nodes y (Memᴰ.append_right xs (Memᴰ.tail m))).some),
        written_append (followed_by xs (head_or 0 ys)) (preceded_by ys (last_or 0 xs)) b.words,
        head_append 0 xs ys,
        last_append 0 xs ys,
      )

  -- the chunk at c is put between xs and ys
  pub put_is : Holds b i (xs ++ ys) → i < 32 → put_m b (slot i (last_or 0 xs) (head_or 0 ys)) c ≡ put_at b i xs c ys
  unfolding put_m own_links
  put_is h few =
      let n : i % 32 * 8 ≡ 8 * i = omega arith in
      let head : get_or b.heads i 0 ≡ head_or (head_or 0 ys) xs = h.head ∙ head_append 0 xs ys in
      let tail : get_or b.tails i 0 ≡ last_or (last_or 0 xs) ys = h.tail ∙ last_append 0 xs ys in
      rw (
        n,
        front_is b.words b.heads i c (head_or 0 ys) xs head (λ x m. (h.nodes x (Memᴰ.append_left ys m)).some),
        back_is (written (written b.words (followed_by xs c)) (own_links b i xs c ys)) b.tails i c (last_or 0 xs) ys tail (λ y m. (h.nodes y (Memᴰ.append_right xs m)).some),
        put_written b i xs c ys b.words,
        head_append 0 xs (c ∷ ys),
        last_append 0 xs (c ∷ ys),
      )

-- the member before the first of ys, where the bin's list is xs and ys
before_is : (b : Books) (i : ℕ) (xs ys : List ℕ) → Holds b i (xs ++ ys) → member_before_m b.words b.tails i (head_or 0 ys) ≡ last_or 0 xs
unfolding member_before_m
before_is b i xs [] h = h.tail ∙ ap (last_or 0) (append-nil xs)
before_is b i xs (y ∷ ys) h =
    let some = (h.nodes y (Memᴰ.append_right xs (Memᴰ.head refl))).some in
    rw (ne_eqb y 0 (omega arith)) (around b i xs y ys h).1.0

-- in the middle of a call
module _ {b : Books} {lists : ℕ → List ℕ} {n : ℕ} (w : OnWay b lists n) (i c : ℕ) (l : i < n) where
  -- a member of a bin leaves it
  pub member_leaves : Mem c (lists i) → leave_m b c ≡ left_books b i (up_to (eqb c) (lists i)) (past (eqb c) (lists i))
  member_leaves m =
      leave_is b i (up_to (eqb c) (lists i)) c (past (eqb c) (lists i)) (rw (split_at_member m) at (w.holds i l)) (w.binned i c l m)

  -- a chunk of s bytes is put into a bin; `is_larger` says of its members which are larger
  module _ (s : ℕ) (fits : s + 1 < 2 ^ 32) (is_larger : ℕ → Bool) (reads : (x : ℕ) → Mem x (lists i) → is_larger x ≡ ltb s (word b.words x size))
      (short : length (lists i) ≤ steps) where
    held : Holds b i (lists i)
    held = w.holds i l

    -- the first fit for one byte more is the first larger member
    larger_is : first_fit_m steps b.words ((s + 1) % 2 ^ 32) (get_or b.heads i 0) ≡ head_or 0 (on_from is_larger (lists i))
    larger_is =
        let m : (s + 1) % 2 ^ 32 ≡ s + 1 = omega arith in
        rw (m, held.head)
        (first_fit_is b.words (s + 1) (lists i) (way_leads w i l) short
        ∙ ap (head_or 0) (kept_same (λ x. leb (s + 1) (word b.words x size)) is_larger (lists i) (λ x k. same x ∙ sym (reads x k)))
        ∙ first_kept is_larger 0 (lists i))
      where
        same : (x : ℕ) → leb (s + 1) (word b.words x size) ≡ ltb s (word b.words x size)
        same x = same_test (at_most (s + 1) (word b.words x size)) (less s (word b.words x size)) (λ k. omega arith) (λ k. omega arith)

    pub put_into_is : (small : Bool)
        → put_into_m b small i c s ≡ put_at b i (cond small [] (up_to is_larger (lists i))) c (cond small (lists i) (on_from is_larger (lists i)))
    unfolding put_into_m slot_m
    put_into_is true = rw held.head (put_is b i [] c (lists i) held (omega (arith, w.few)))
    put_into_is false =
        let parts = subst (Holds b i) (parts_at_first is_larger (lists i)) held in
        rw (larger_is, before_is b i (up_to is_larger (lists i)) (on_from is_larger (lists i)) parts)
        (put_is b i (up_to is_larger (lists i)) c (on_from is_larger (lists i)) parts (omega (arith, w.few)))
