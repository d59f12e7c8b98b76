-- A part of a doubly linked list, with the member before it and the member after it given (`Segment`): a list is two of them wherever it is cut.
-- What the stores at a cut make of such a part, and that stores elsewhere keep it. Assumes nothing.
use mathlib.Core.Path.{◌≡◌, refl, sym, ◌∙◌}
use mathlib.Core.Logic.{◌≢◌}
use mathlib.Core.List.Memᴰ
use mathlib.Core.List.{List, [], ◌∷◌, ◌++◌}
use Prim.Native.Nat.{ℕ, ◌+◌, ◌*◌, ◌/◌, ◌%◌, ◌≤◌, ◌<◌}
use native.Mathlib.Omega.{arith}
use lib.ListN.{length}
use Rattle.lists.specs.Lists.{Mem, head_or, last_or, Distinct}
use Rattle.region.specs.Words.{word, Store, put, written, next_in_bin, previous_in_bin, bin}
use Rattle.region.proofs.WordsLaws.{Off, off, got, off_both}
use Rattle.rules.specs.Check.{Linked}
use Rattle.rules.specs.Draft.{followed_by, preceded_by, meet}
use Rattle.lists.proofs.MembersLaws.{head_append, last_member}

-- a place that can be in a list: not 0, a multiple of 8, with six words inside a region of so many words
pub record Node (words : ℕ) (c : ℕ) : Type 0 where
  pub eight : c % 8 ≡ 0
  pub some : 0 < c
  pub fits : c + 24 ≤ 4 * words

abbrev pub Nodes : ℕ → List ℕ → Type 0
Nodes words cs = (c : ℕ) → Mem c cs → Node words c

-- the members cs are linked both ways, between the member p before them and the member n after them
abbrev pub Segment : List ℕ → ℕ → List ℕ → ℕ → Type 0
Segment ws p [] n = Unit {0}
Segment ws p (c ∷ cs) n =
    (word ws c previous_in_bin ≡ p) × (word ws c next_in_bin ≡ head_or n cs) × Segment ws c cs n

module _ (ws : List ℕ) where
  pub whole_segment : (p : ℕ) (cs : List ℕ) → Linked ws p cs → Segment ws p cs 0
  whole_segment p [] h = tt
  whole_segment p (c ∷ cs) (previous, next, rest) = (previous, next, whole_segment c cs rest)

  pub segment_whole : (p : ℕ) (cs : List ℕ) → Segment ws p cs 0 → Linked ws p cs
  segment_whole p [] h = tt
  segment_whole p (c ∷ cs) (previous, next, rest) = (previous, next, segment_whole c cs rest)

  pub segment_cut : (p n : ℕ) (xs ys : List ℕ) → Segment ws p (xs ++ ys) n → Segment ws p xs (head_or n ys) × Segment ws (last_or p xs) ys n
  segment_cut p n [] ys h = (tt, h)
  segment_cut p n (x ∷ xs) ys (previous, next, rest) =
      let (before, after) = segment_cut x n xs ys rest in
      ((previous, next ∙ head_append n xs ys, before), after)

  pub segment_joined : (p n : ℕ) (xs ys : List ℕ) → Segment ws p xs (head_or n ys) → Segment ws (last_or p xs) ys n → Segment ws p (xs ++ ys) n
  segment_joined p n [] ys h k = k
  segment_joined p n (x ∷ xs) ys (previous, next, rest) k =
      (previous, next ∙ sym (head_append n xs ys), segment_joined x n xs ys rest k)

-- no store is to a link of the chunk at d
abbrev pub ClearOfLinks : ℕ → List Store → Type 0
ClearOfLinks d ss = Off (d / 4 + next_in_bin) ss × Off (d / 4 + previous_in_bin) ss

-- no store is to a link or the bin word of the chunk at d
abbrev pub PassBy : List Store → ℕ → Type 0
PassBy ss d = Off (d / 4 + next_in_bin) ss × Off (d / 4 + previous_in_bin) ss × Off (d / 4 + bin) ss

pub segment_keeps : (ss : List Store) (ws : List ℕ) (p n : ℕ) (cs : List ℕ) → ((d : ℕ) → Mem d cs → ClearOfLinks d ss)
    → Segment ws p cs n → Segment (written ws ss) p cs n
segment_keeps ss ws p n [] f h = tt
segment_keeps ss ws p n (c ∷ cs) f (previous, next, rest) =
    let (clear_next, clear_previous) = f c (Memᴰ.head refl) in (
      off ss ws c previous_in_bin clear_previous ∙ previous,
      off ss ws c next_in_bin clear_next ∙ next,
      segment_keeps ss ws c n cs (λ d m. f d (Memᴰ.tail m)) rest,
    )

-- the same of a whole list
pub linked_keeps : (ss : List Store) (ws cs : List ℕ) → ((d : ℕ) → Mem d cs → ClearOfLinks d ss) → Linked ws 0 cs → Linked (written ws ss) 0 cs
linked_keeps ss ws cs f h = segment_whole (written ws ss) 0 cs (segment_keeps ss ws 0 0 cs f (whole_segment ws 0 cs h))

-- the word at index x is no link of the chunk at c; of no chunk of a list
abbrev pub NoLinkOf : ℕ → ℕ → Type 0
NoLinkOf x c = (x ≢ c / 4 + next_in_bin) × (x ≢ c / 4 + previous_in_bin)

abbrev pub NoLink : ℕ → List ℕ → Type 0
NoLink x cs = (c : ℕ) → Mem c cs → NoLinkOf x c

pub followed_off : (x : ℕ) (xs : List ℕ) (v : ℕ) → NoLink x xs → Off x (followed_by xs v)
followed_off x [] v f = tt
followed_off x (y ∷ ys) v f = ((f (last_or y ys) (last_member y ys)).0, tt)

pub preceded_off : (x : ℕ) (ys : List ℕ) (v : ℕ) → NoLink x ys → Off x (preceded_by ys v)
preceded_off x [] v f = tt
preceded_off x (y ∷ ys) v f = ((f y (Memᴰ.head refl)).1, tt)

pub meet_off : (x : ℕ) (xs ys : List ℕ) → NoLink x xs → NoLink x ys → Off x (meet xs ys)
meet_off x xs ys f g =
    off_both x (followed_by xs (head_or 0 ys)) (preceded_by ys (last_or 0 xs)) (followed_off x xs (head_or 0 ys) f) (preceded_off x ys (last_or 0 xs) g)

module _ (words : ℕ) where
  -- v becomes the member after the part
  pub segment_followed : (ws : List ℕ) (p n v : ℕ) (xs : List ℕ) → words ≤ length ws → Distinct xs → Nodes words xs
      → Segment ws p xs n → Segment (written ws (followed_by xs v)) p xs v
  segment_followed ws p n v [] w u g h = tt
  segment_followed ws p n v (x ∷ []) w u g (previous, next, rest) =
      let gx = g x (Memᴰ.head refl) in
      let ss : List Store = put x next_in_bin v ∷ [] in
      (off ss ws x previous_in_bin (omega arith) ∙ previous, got 0 ss ws (omega arith) tt, tt)
  segment_followed ws p n v (x ∷ y ∷ ys) w u g (previous, next, rest) =
      let gx = g x (Memᴰ.head refl) in
      let l : ℕ = last_or y ys in
      let gl : Node words l = g l (Memᴰ.tail (last_member y ys)) in
      let ne : x ≢ l = λ e. u.0 (Memᴰ.cast e (last_member y ys)) in
      let ss : List Store = put l next_in_bin v ∷ [] in (
        off ss ws x previous_in_bin (omega arith) ∙ previous,
        off ss ws x next_in_bin (omega arith) ∙ next,
        segment_followed ws x n v (y ∷ ys) w u.1 (λ d m. g d (Memᴰ.tail m)) rest,
      )

  -- v becomes the member before the part
  pub segment_preceded : (ws : List ℕ) (p n v : ℕ) (ys : List ℕ) → words ≤ length ws → Distinct ys → Nodes words ys
      → Segment ws p ys n → Segment (written ws (preceded_by ys v)) v ys n
  segment_preceded ws p n v [] w u g h = tt
  segment_preceded ws p n v (y ∷ ys) w u g (previous, next, rest) =
      let gy = g y (Memᴰ.head refl) in
      let ss : List Store = put y previous_in_bin v ∷ [] in (
        got 0 ss ws (omega arith) tt,
        off ss ws y next_in_bin (omega arith) ∙ next,
        segment_keeps ss ws y n ys (λ d m. others d (g d (Memᴰ.tail m)) gy (λ e. u.0 (Memᴰ.cast (sym e) m))) rest,
      )
    where
      others : (d : ℕ) → Node words d → Node words y → d ≢ y → ClearOfLinks d (put y previous_in_bin v ∷ [])
      others d gd gy ne = omega arith

  -- links of different chunks are different words
  pub links_apart : (d : ℕ) (cs : List ℕ) → Node words d → Nodes words cs → (Mem d cs → ⊥)
      → NoLink (d / 4 + next_in_bin) cs × NoLink (d / 4 + previous_in_bin) cs
  links_apart d cs gd g out = (
    λ c m. (at c (g c m) (λ e. out (Memᴰ.cast e m))).0,
    λ c m. (at c (g c m) (λ e. out (Memᴰ.cast e m))).1,
  )
    where
      at : (c : ℕ) → Node words c → d ≢ c → NoLinkOf (d / 4 + next_in_bin) c × NoLinkOf (d / 4 + previous_in_bin) c
      at c gc ne = omega arith

  module _ (d : ℕ) (gd : Node words d) where
    pub clear_followed : (xs : List ℕ) (v : ℕ) → Nodes words xs → (Mem d xs → ⊥) → ClearOfLinks d (followed_by xs v)
    clear_followed xs v g out =
        let a = links_apart d xs gd g out in
        (followed_off _ xs v a.0, followed_off _ xs v a.1)

    pub clear_preceded : (ys : List ℕ) (v : ℕ) → Nodes words ys → (Mem d ys → ⊥) → ClearOfLinks d (preceded_by ys v)
    clear_preceded ys v g out =
        let a = links_apart d ys gd g out in
        (preceded_off _ ys v a.0, preceded_off _ ys v a.1)
