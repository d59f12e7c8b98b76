-- The walk of a chain that passes marks the places of its ordinary chunks and no others (`marks_are`), which all differ (`ordinaries_once`).
-- Assumes nothing.
use mathlib.Core.Path.{◌≡◌, refl, ap, ◌∙◌}
use mathlib.Core.Bool.{Bool, true, false, not, cond, ◌||◌, or-true, or-false}
use mathlib.Core.List.Memᴰ
use mathlib.Core.List.{List, [], ◌∷◌}
use Prim.Native.Nat.{ℕ, suc, ◌%◌, ◌≤◌, ◌<◌}
use native.Mathlib.Decide.{ℕ_discrete}
use native.Mathlib.Omega.{arith}
use lib.Dec.{eqb}
use lib.ListN.{length, replicate, length-replicate}
use borrow.Author.Tests.{eq-eqb, ne_eqb}
use Rattle.lists.specs.Lists.{Mem, any, keep, Distinct}
use Rattle.lists.proofs.ListsLaws.{Decides, is_member}
use Rattle.marks.specs.Marks.{marked, flipped}
use Rattle.marks.proofs.MarksLaws.{length_flipped, flip_same, flip_other, clear_marks}
use Rattle.record.specs.declared.heap.Heap.{Heap}
use Rattle.record.specs.Heap.{summary_of}
use Rattle.rules.specs.Ask.{places_of}
use Rattle.rules.specs.Check.{Chained}
use Rattle.rules.specs.Shape.{Entry, shape}
use Rattle.rules.specs.Kinds.{ordinary}
use Rattle.rules.proofs.ChainLaws.{Rising, places_once, shape_chain}
use Rattle.survey.specs.Survey.{mark_m, mark_all}
use Rattle.audit.proofs.SurveyMeaning.{ChainFacts}

-- the places of the ordinary chunks, as they come in the chain
abbrev pub ordinaries : Heap → List Entry → List ℕ
ordinaries h es = places_of (keep (ordinary h) es)

pub ordinaries_once : (ws : List ℕ) (h : Heap) → Distinct (ordinaries h (shape ws h.bytes))
ordinaries_once ws h = places_once (ordinary h) 0 (shape ws h.bytes) (shape_chain ws h.bytes).rising

-- the chunk is at a multiple of 8 that the bitmap has
abbrev Fit : Entry → Type 0
Fit e = (e.place % 8 ≡ 0) × (e.place < 65536)

-- no multiple of 8 from c on is marked
abbrev UnmarkedFrom : List ℕ → ℕ → Type 0
UnmarkedFrom ms c = (d : ℕ) → d % 8 ≡ 0 → c ≤ d → marked ms d ≡ false

-- a flip of a clear mark sets it and leaves those above clear
clear_flipped : (ms : List ℕ) (c p : ℕ) → p % 8 ≡ 0 → c ≤ p → UnmarkedFrom ms c → UnmarkedFrom (flipped ms p) (suc p)
clear_flipped ms c p z l u d y k = flip_other ms p d (λ s. omega arith) ∙ u d y (omega arith)

set_flipped : (ms : List ℕ) (c p : ℕ) → length ms ≡ 256 → p < 65536 → p % 8 ≡ 0 → c ≤ p → UnmarkedFrom ms c
    → marked (flipped ms p) p ≡ true
set_flipped ms c p n b z l u = flip_same ms p (omega arith) ∙ ap not (u p z l)

-- the marks after the walk of a list of chunks
abbrev marks_for : Heap → List ℕ → List Entry → List ℕ
marks_for h ms es = mark_all (summary_of h) ms es

-- chunks that go up each flip a mark of their own, so a place is marked after them if it was before or an ordinary chunk is there
abbrev MarkedAfter : Heap → List ℕ → List Entry → ℕ → Type 0
MarkedAfter h ms es d = marked (marks_for h ms es) d ≡ (any (eqb d) (ordinaries h es) || marked ms d)

walk_marks : (h : Heap) (ms : List ℕ) (c : ℕ) (es : List Entry) → length ms ≡ 256 → UnmarkedFrom ms c → Rising c es
    → ((e : Entry) → Mem e es → Fit e) → (d : ℕ) → d % 8 ≡ 0 → MarkedAfter h ms es d
unfolding mark_m
walk_marks h ms c [] n u r f d z = refl
walk_marks h ms c (e ∷ es) n u r f d z =
    let fit = f e (Memᴰ.head refl) in
    let rest : (x : Entry) → Mem x es → Fit x = λ x m. f x (Memᴰ.tail m) in
    go (ordinary h e) (ℕ_discrete d e.place) fit
    (walk_marks h (flipped ms e.place) (suc e.place) es (length_flipped ms e.place ∙ n) (clear_flipped ms c e.place fit.0 r.0 u) r.1 rest d z)
    (walk_marks h ms (suc e.place) es n (λ x y l. u x y (omega (arith, r.0))) r.1 rest d z)
  where
    go : (t : Bool) → Dec (d ≡ e.place) → Fit e → MarkedAfter h (flipped ms e.place) es d → MarkedAfter h ms es d
        → marked (marks_for h (cond t (flipped ms e.place) ms) es) d
        ≡ (any (eqb d) (places_of (cond t (e ∷ keep (ordinary h) es) (keep (ordinary h) es))) || marked ms d)
    go true (yes q) fit s k =
        s ∙ rw (eq-eqb d e.place q, q, set_flipped ms c e.place n fit.1 fit.0 r.0 u, or-true)
    go true (no g) fit s k =
        s ∙ rw (ne_eqb d e.place g, flip_other ms e.place d (λ q. omega (arith, fit.0)))
    go false _ fit s k = k

-- the bitmap has a mark for each chunk of the chain
places_fit : (ws : List ℕ) (h : Heap) → h.bytes ≤ 65536 → Chained ws h (shape ws h.bytes)
    → (e : Entry) → Mem e (shape ws h.bytes) → Fit e
places_fit ws h b chain e m =
    let end = chain.reaches_end in
    let i = (shape_chain ws h.bytes).inside (omega arith) e m in
    (chain.eights e m, omega arith)

pub marks_are : (ws : List ℕ) (h : Heap) → h.bytes ≤ 65536 → ChainFacts ws h (shape ws h.bytes) → (c : ℕ) → c % 8 ≡ 0
    → Decides (marked (marks_for h (replicate 256 0) (shape ws h.bytes)) c) (Mem c (ordinaries h (shape ws h.bytes)))
marks_are ws h b facts c z =
    rw (
      walk_marks h (replicate 256 0) 0 (shape ws h.bytes) (length-replicate {A = ℕ} 256 0) (λ d y k. clear_marks 256 d)
          (shape_chain ws h.bytes).rising (places_fit ws h b facts.chain) c z,
      clear_marks 256 c,
      or-false,
    )
    (is_member c (ordinaries h (shape ws h.bytes)))
