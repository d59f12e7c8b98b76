-- Unlinking a chunk from a bin's doubly linked list, and linking one in, by the rules' stores: the bin then holds the new list,
-- and every other bin holds the list that it held. Assumes nothing.
use mathlib.Core.Path.{◌≡◌, sym, ◌∙◌}
use mathlib.Core.Logic.{◌≢◌, ◌⊎◌, inl, inr}
use mathlib.Core.List.Memᴰ
use mathlib.Core.List.{List, [], ◌∷◌, ◌++◌}
use Prim.Native.Nat.{ℕ, ◌+◌, ◌*◌, ◌-◌, ◌≤◌, ◌<◌}
use native.Mathlib.Omega.{arith}
use lib.ListN.{length, get_or, set}
use lib.Seq.{get_or-set_same, get_or-set_other}
use Rattle.lists.specs.Lists.{Mem, head_or, last_or, Distinct}
use Rattle.region.specs.Words.{store, Store, put, written, next_in_bin, previous_in_bin, bin}
use Rattle.region.proofs.WordsLaws.{Off, off, word_same, word_other, length_store, length_written, written_append, off_both}
use Rattle.rules.specs.Check.{Linked}
use Rattle.rules.specs.Draft.{followed_by, preceded_by, meet, no_bin_words}
use Rattle.books.specs.Books.{Books, books}
use Rattle.lists.proofs.MembersLaws.{member_with, member_without, distinct_without, distinct_with, distinct_parts}
use Rattle.books.proofs.SegmentLaws.{Node, Nodes, Segment, whole_segment, segment_whole, segment_cut, segment_joined, ClearOfLinks, segment_keeps, linked_keeps, segment_followed, segment_preceded, clear_followed, clear_preceded, NoLink, meet_off, followed_off, preceded_off, links_apart}

-- in the books b, bin i is the doubly linked list cs
pub record Holds (b : Books) (i : ℕ) (cs : List ℕ) : Type 0 where
  pub head : get_or b.heads i 0 ≡ head_or 0 cs
  pub tail : get_or b.tails i 0 ≡ last_or 0 cs
  pub links : Linked b.words 0 cs
  pub nodes : (c : ℕ) → Mem c cs → Node (length b.words) c
  pub once : Distinct cs

-- the books after a chunk has left bin i, where xs was before it and ys after it
abbrev pub left_books : Books → ℕ → List ℕ → List ℕ → Books
left_books b i xs ys =
    books (written b.words (meet xs ys)) (set b.heads i (head_or 0 (xs ++ ys))) (set b.tails i (last_or 0 (xs ++ ys)))

-- the stores that put the chunk at c between xs and ys, and the books after them
abbrev pub put_stores : ℕ → List ℕ → ℕ → List ℕ → List Store
put_stores i xs c ys = meet xs (c ∷ []) ++ meet (c ∷ []) ys ++ put c bin (8 * i) ∷ []

abbrev pub put_at : Books → ℕ → List ℕ → ℕ → List ℕ → Books
put_at b i xs c ys =
    books (written b.words (put_stores i xs c ys)) (set b.heads i (head_or 0 (xs ++ c ∷ ys))) (set b.tails i (last_or 0 (xs ++ c ∷ ys)))

-- so far apart that no header reaches into the other chunk
abbrev pub Far : ℕ → ℕ → Type 0
Far x y = 24 ≤ (x - y) + (y - x)

-- a bin keeps its list through stores to none of its links and new ends of another bin
others_hold : (b : Books) (i j v u : ℕ) (ss : List Store) (ds : List ℕ) → Holds b j ds → j ≢ i → ((d : ℕ) → Mem d ds → ClearOfLinks d ss)
    → Holds (books (written b.words ss) (set b.heads i v) (set b.tails i u)) j ds
others_hold b i j v u ss ds h ne f =
    record {
      head = get_or-set_other b.heads i j v 0 ne ∙ h.head;
      tail = get_or-set_other b.tails i j u 0 ne ∙ h.tail;
      links = linked_keeps ss b.words ds f h.links;
      nodes = rw length_written h.nodes;
      once = h.once;
    }

module _ (b : Books) (i : ℕ) (xs : List ℕ) (c : ℕ) (ys : List ℕ) where
  -- the list split before the chunk at c
  pub around : Holds b i (xs ++ c ∷ ys) → Segment b.words 0 xs c × Segment b.words (last_or 0 xs) (c ∷ ys) 0
  around h = segment_cut b.words 0 0 xs (c ∷ ys) (whole_segment b.words 0 (xs ++ c ∷ ys) h.links)

  -- the chunk at c leaves: its bin's list, and the other bins
  pub leave_holds : Holds b i (xs ++ c ∷ ys) → i < length b.heads → i < length b.tails → Holds (left_books b i xs ys) i (xs ++ ys)
  leave_holds h hh ht =
      let n : ℕ = length b.words in
      let w₁ : List ℕ = written b.words (followed_by xs (head_or 0 ys)) in
      let k : n ≡ length w₁ = sym (length_written (followed_by xs (head_or 0 ys)) b.words) in
      let a = distinct_parts xs (c ∷ ys) h.once in
      let (before, (_, _, after)) = around h in
      let gx : Nodes n xs = λ x m. h.nodes x (Memᴰ.append_left (c ∷ ys) m) in
      let gy : Nodes n ys = λ y m. h.nodes y (Memᴰ.append_right xs (Memᴰ.tail m)) in
      record {
        head = get_or-set_same b.heads i _ 0 hh;
        tail = get_or-set_same b.tails i _ 0 ht;
        links =
            segment_whole _ 0 (xs ++ ys)
            (rw (written_append (followed_by xs (head_or 0 ys)) (preceded_by ys (last_or 0 xs)) b.words)
            (segment_joined _ 0 0 xs ys
            (segment_keeps (preceded_by ys (last_or 0 xs)) w₁ 0 (head_or 0 ys) xs
            (λ d m. clear_preceded n d (gx d m) ys (last_or 0 xs) gy (λ e. a.none d m (Memᴰ.tail e)))
            (segment_followed n b.words 0 c (head_or 0 ys) xs (omega arith) a.left gx before))
            (segment_preceded n w₁ c 0 (last_or 0 xs) ys (omega arith) a.right.1 gy
            (segment_keeps (followed_by xs (head_or 0 ys)) b.words c 0 ys
            (λ d m. clear_followed n d (gy d m) xs (head_or 0 ys) gx (λ e. a.none d e (Memᴰ.tail m)))
            after))));
        nodes = rw length_written (λ d m. h.nodes d (member_with xs c ys m));
        once = distinct_without xs c ys h.once;
      }

  pub leave_others : (j : ℕ) (ds : List ℕ) → Holds b j ds → j ≢ i → Holds b i (xs ++ c ∷ ys)
      → ((d : ℕ) → Mem d ds → Mem d (xs ++ c ∷ ys) → ⊥) → Holds (left_books b i xs ys) j ds
  leave_others j ds k ne h out =
      let n : ℕ = length b.words in
      others_hold b i j _ _ (meet xs ys) ds k ne
      (λ d m.
      let p = links_apart n d xs (k.nodes d m) (λ x e. h.nodes x (Memᴰ.append_left (c ∷ ys) e)) (λ e. out d m (Memᴰ.append_left (c ∷ ys) e)) in
      let q = links_apart n d ys (k.nodes d m) (λ y e. h.nodes y (Memᴰ.append_right xs (Memᴰ.tail e))) (λ e. out d m (Memᴰ.append_right xs (Memᴰ.tail e))) in
      (meet_off _ xs ys p.0 q.0, meet_off _ xs ys p.1 q.1))

  -- the chunk's own links
  unfoldable pub own_links : List Store
  own_links = put c previous_in_bin (last_or 0 xs) ∷ put c next_in_bin (head_or 0 ys) ∷ []

  -- the stores that put the chunk, in four parts
  pub put_written : (ws : List ℕ)
      → written ws (put_stores i xs c ys)
      ≡ written (written (written (written ws (followed_by xs c)) own_links) (preceded_by ys c)) (put c bin (8 * i) ∷ [])
  unfolding own_links
  put_written ws =
      rw (
        written_append (meet xs (c ∷ []) ++ meet (c ∷ []) ys) (put c bin (8 * i) ∷ []) ws,
        written_append (meet xs (c ∷ [])) (meet (c ∷ []) ys) ws,
        written_append (followed_by xs c) (put c previous_in_bin (last_or 0 xs) ∷ []) ws,
      )

  -- putting writes only links of members, and the chunk's own links and bin word
  pub put_off : (x : ℕ) → NoLink x (xs ++ ys) → Off x (no_bin_words c) → Off x (put_stores i xs c ys)
  put_off x f (next, (previous, number)) =
      off_both x (meet xs (c ∷ []) ++ meet (c ∷ []) ys) (put c bin (8 * i) ∷ [])
      (off_both x (meet xs (c ∷ [])) (meet (c ∷ []) ys)
      (off_both x (followed_by xs c) (put c previous_in_bin (last_or 0 xs) ∷ []) (followed_off x xs c (λ d m. f d (Memᴰ.append_left ys m))) (previous, tt))
      (next, preceded_off x ys c (λ d m. f d (Memᴰ.append_right xs m))))
      number

  -- the chunk at c is put between xs and ys: the other bins, and its bin's list
  pub put_others : (j : ℕ) (ds : List ℕ) → Holds b j ds → j ≢ i → Holds b i (xs ++ ys) → Node (length b.words) c
      → ((d : ℕ) → Mem d ds → Far c d) → ((d : ℕ) → Mem d ds → Mem d (xs ++ ys) → ⊥) → Holds (put_at b i xs c ys) j ds
  put_others j ds k ne h gc far out =
      let n : ℕ = length b.words in
      others_hold b i j _ _ (put_stores i xs c ys) ds k ne
      (λ d m.
      let gd = k.nodes d m in
      let f = far d m in
      let p = links_apart n d (xs ++ ys) gd h.nodes (out d m) in
      (put_off _ p.0 (omega arith), put_off _ p.1 (omega arith)))

  module _ (h : Holds b i (xs ++ ys)) (gc : Node (length b.words) c) (far : (d : ℕ) → Mem d (xs ++ ys) → Far c d) where
    out : Mem c (xs ++ ys) → ⊥
    out m = let f = far c m in omega arith

    own_clear : (d : ℕ) → Node (length b.words) d → Far c d → ClearOfLinks d own_links × ClearOfLinks d (put c bin (8 * i) ∷ [])
    unfolding own_links
    own_clear d gd f = omega arith

    put_links : Linked (written b.words (put_stores i xs c ys)) 0 (xs ++ c ∷ ys)
    unfolding own_links
    put_links =
        let n : ℕ = length b.words in
        let w₁ : List ℕ = written b.words (followed_by xs c) in
        let w₂ : List ℕ = written w₁ own_links in
        let w₃ : List ℕ = written w₂ (preceded_by ys c) in
        let k₁ : n ≡ length w₁ = sym (length_written (followed_by xs c) b.words) in
        let k₂ : n ≡ length (store w₁ c previous_in_bin (last_or 0 xs)) = k₁ ∙ sym (length_store w₁ c previous_in_bin (last_or 0 xs)) in
        let k₃ : n ≡ length w₂ = k₁ ∙ sym (length_written own_links w₁) in
        let a = distinct_parts xs ys h.once in
        let runs = segment_cut b.words 0 0 xs ys (whole_segment b.words 0 (xs ++ ys) h.links) in
        let gx : Nodes n xs = λ x m. h.nodes x (Memᴰ.append_left ys m) in
        let gy : Nodes n ys = λ y m. h.nodes y (Memᴰ.append_right xs m) in
        let fx : (d : ℕ) → Mem d xs → Far c d = λ d m. far d (Memᴰ.append_left ys m) in
        let fy : (d : ℕ) → Mem d ys → Far c d = λ d m. far d (Memᴰ.append_right xs m) in
        let o = clear_preceded n c gc ys c gy (λ m. out (Memᴰ.append_right xs m)) in
        segment_whole _ 0 (xs ++ c ∷ ys)
        (rw (put_written b.words)
        (segment_joined _ 0 0 xs (c ∷ ys)
        (segment_keeps (put c bin (8 * i) ∷ []) w₃ 0 c xs (λ d m. (own_clear d (gx d m) (fx d m)).1)
        (segment_keeps (preceded_by ys c) w₂ 0 c xs (λ d m. clear_preceded n d (gx d m) ys c gy (λ e. a.none d m e))
        (segment_keeps own_links w₁ 0 c xs (λ d m. (own_clear d (gx d m) (fx d m)).0)
        (segment_followed n b.words 0 (head_or 0 ys) c xs (omega arith) a.left gx runs.0)))) (
          word_other w₃ c bin (8 * i) c previous_in_bin (omega arith)
              ∙ off (preceded_by ys c) w₂ c previous_in_bin o.1
              ∙ word_other _ c next_in_bin (head_or 0 ys) c previous_in_bin (omega arith)
              ∙ word_same w₁ c previous_in_bin (last_or 0 xs) (omega arith),
          word_other w₃ c bin (8 * i) c next_in_bin (omega arith)
              ∙ off (preceded_by ys c) w₂ c next_in_bin o.0
              ∙ word_same _ c next_in_bin (head_or 0 ys) (omega arith),
          segment_keeps (put c bin (8 * i) ∷ []) w₃ c 0 ys (λ d m. (own_clear d (gy d m) (fy d m)).1)
              (segment_preceded n w₂ (last_or 0 xs) 0 c ys (omega arith) a.right gy
              (segment_keeps own_links w₁ (last_or 0 xs) 0 ys (λ d m. (own_clear d (gy d m) (fy d m)).0)
              (segment_keeps (followed_by xs c) b.words (last_or 0 xs) 0 ys (λ d m. clear_followed n d (gy d m) xs c gx (λ e. a.none d e m))
              runs.1))),
        )))

    pub put_holds : i < length b.heads → i < length b.tails → Holds (put_at b i xs c ys) i (xs ++ c ∷ ys)
    put_holds hh ht =
        record {
          head = get_or-set_same b.heads i _ 0 hh;
          tail = get_or-set_same b.tails i _ 0 ht;
          links = put_links;
          nodes = rw length_written (λ d m. node d (member_without xs c ys m));
          once = distinct_with xs c ys out h.once;
        }
      where
        node : (d : ℕ) → (d ≡ c) ⊎ Mem d (xs ++ ys) → Node (length b.words) d
        node d (inl e) = rw e gc
        node d (inr m) = h.nodes d m
