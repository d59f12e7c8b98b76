-- The order in the bins during a call: by size, and among chunks of equal size those that came late behind the others; in the small array, whose
-- bins have one size each, those that came late before the others. Which chunks came late is a parameter: `late` is 1 for them and 0 for the others.
-- So one invariant says that lists are in order of size, and where a chunk that is put stands among those of equal size. Assumes nothing.
use mathlib.Core.Path.{◌≡◌, ap}
use mathlib.Core.Logic.{◌≢◌, ◌⊎◌, inl, inr}
use mathlib.Core.Bool.{Bool, true, cond}
use mathlib.Core.List.Memᴰ
use mathlib.Core.List.{List, ◌∷◌, ◌++◌}
use Prim.Native.Nat.{ℕ, ◌+◌, ◌*◌, ◌-◌, ◌≤◌, ◌<◌}
use native.Mathlib.Omega.{arith}
use lib.Dec.{ltb}
use Rattle.lists.specs.Lists.{Mem, Before}
use Rattle.lists.proofs.AscendingLaws.{before_members, before_with, before_without, ascending_before}
use Rattle.record.specs.declared.heap.Heap.{Heap}
use Rattle.record.specs.Heap.{table_of}
use Rattle.record.specs.Table.{small_bins}
use Rattle.rules.specs.Shape.{Entry, shape, bin_list}
use Rattle.rules.specs.Kinds.{ordinary, size_on}
use Rattle.rules.specs.Check.{Passes}
use Rattle.rules.proofs.OrderLaws.{lists_in_order}
use Rattle.rules.proofs.SpotLaws.{size_on_lem}

-- where a chunk stands in its bin: by its size, and among equals by whether it came late
abbrev pub standing : (Entry → ℕ) → Entry → ℕ
standing late e = 2 * e.size + late e

-- in the list cs those chunks of es for which a test holds stand so
pub record Queued (late : Entry → ℕ) (test : Entry → Bool) (es : List Entry) (cs : List ℕ) : Type 0 where
  pub stand : (x y : Entry) → Mem x es → Mem y es → test x ≡ true → test y ≡ true → Before x.place y.place cs
      → standing late x ≤ standing late y

-- bin i is turned round if it is in the small array: last in, first out
abbrev pub late_in : Heap → ℕ → (Entry → ℕ) → Entry → ℕ
late_in h i late e = cond (ltb i (small_bins (table_of h))) (1 - late e) (late e)

-- the lists of a heap
abbrev pub QueuedIn : (Entry → ℕ) → List ℕ → Heap → Type 0
QueuedIn late ws h = (i : ℕ) → i < h.bins → Queued (late_in h i late) (ordinary h) (shape ws h.bytes) (bin_list ws h i)

-- late are at least all chunks that are not on the chain before the call
pub record Lateness (ws : List ℕ) (h : Heap) (late : Entry → ℕ) : Type 0 where
  pub at_most : (e : Entry) → late e ≤ 1
  pub others : (e : Entry) → (Mem e (shape ws h.bytes) → ⊥) → late e ≡ 1
  pub queued : QueuedIn late ws h

-- on a heap that passes, no chunk is larger than one behind it in its list
pub none_larger : (ws : List ℕ) (h : Heap) → Passes ws h → (i : ℕ) → i < h.bins → (x y : Entry) → Mem x (shape ws h.bytes) → Mem y (shape ws h.bytes)
    → Before x.place y.place (bin_list ws h i) → x.size ≤ y.size
none_larger ws h p i l x y m k b =
    let s = ascending_before (size_on (shape ws h.bytes)) x.place y.place (bin_list ws h i) (lists_in_order ws h p i l) b in
    let q = size_on_lem ws h p x.place x m (omega arith) in
    let r = size_on_lem ws h p y.place y k (omega arith) in
    omega arith

-- so chunks all of which came late stand in order of size alone
pub all_late : (ws : List ℕ) (h : Heap) → Passes ws h → Lateness ws h (λ e. 1)
all_late ws h p =
    record {
      at_most = λ e. omega arith;
      others = λ e n. omega arith;
      queued = λ i l. record { stand = λ x y m k _ _ b. let s = none_larger ws h p i l x y m k b in omega arith };
    }

-- a chunk leaves, the chunk e is put between two parts, and the test becomes another one
module _ {late : Entry → ℕ} {test : Entry → Bool} {es : List Entry} where
  pub queued_without : (xs : List ℕ) (c : ℕ) (ys : List ℕ) → Queued late test es (xs ++ c ∷ ys) → Queued late test es (xs ++ ys)
  queued_without xs c ys q = record { stand = λ x y m k s t b. q.stand x y m k s t (before_with x.place y.place xs c ys b) }

  pub queued_same : {other : Entry → Bool} {fs : List Entry} {cs : List ℕ} → Queued late test es cs
      → ((x : Entry) → Mem x fs → other x ≡ true → Mem x es × (test x ≡ true)) → Queued late other fs cs
  queued_same q f =
      record { stand = λ x y m k s t b. let (mx, sx) = f x m s in let (ky, ty) = f y k t in q.stand x y mx ky sx ty b }

  -- a chunk that is not in the list may be added
  pub queued_more : (e : Entry) {cs : List ℕ} → (Mem e.place cs → ⊥) → Queued late test es cs → Queued late test (e ∷ es) cs
  queued_more e {cs} out q = record { stand = λ x y m k s t b. go x y m k s t b (before_members x.place y.place cs b) }
    where
      go : (x y : Entry) → Mem x (e ∷ es) → Mem y (e ∷ es) → test x ≡ true → test y ≡ true → Before x.place y.place cs
          → Mem x.place cs × Mem y.place cs → standing late x ≤ standing late y
      go x y (Memᴰ.head p) k s t b (i, j) = absurd (out (rw (← ap (λ (z : Entry). z.place) p) i))
      go x y (Memᴰ.tail m) (Memᴰ.head p) s t b (i, j) = absurd (out (rw (← ap (λ (z : Entry). z.place) p) j))
      go x y (Memᴰ.tail m) (Memᴰ.tail k) s t b r = q.stand x y m k s t b

  -- e is put where it stands between those before it and those behind it; no other chunk is at its place
  pub queued_with : (e : Entry) → ((x : Entry) → Mem x es → test x ≡ true → x.place ≢ e.place)
      → (xs ys : List ℕ) → (Mem e.place (xs ++ ys) → ⊥)
      → ((x : Entry) → Mem x es → test x ≡ true → Mem x.place xs → standing late x ≤ standing late e)
      → ((y : Entry) → Mem y es → test y ≡ true → Mem y.place ys → standing late e ≤ standing late y)
      → Queued late test es (xs ++ ys) → Queued late test (e ∷ es) (xs ++ e.place ∷ ys)
  queued_with e elsewhere xs ys out low high q =
      record { stand = λ x y m k s t b. go x y m k s t (before_without x.place y.place xs e.place ys b) }
    where
      go : (x y : Entry) → Mem x (e ∷ es) → Mem y (e ∷ es) → test x ≡ true → test y ≡ true
          → Before x.place y.place (xs ++ ys) ⊎ (((x.place ≡ e.place) × Mem y.place ys) ⊎ (Mem x.place xs × (y.place ≡ e.place)))
          → standing late x ≤ standing late y
      go x y (Memᴰ.head p) (Memᴰ.head r) s t c = let a = ap (standing late) p in let d = ap (standing late) r in omega arith
      go x y (Memᴰ.tail m) (Memᴰ.tail k) s t (inl c) = q.stand x y m k s t c
      go x y (Memᴰ.tail m) (Memᴰ.tail k) s t (inr (inl (z, _))) = absurd (elsewhere x m s z)
      go x y (Memᴰ.tail m) (Memᴰ.tail k) s t (inr (inr (_, z))) = absurd (elsewhere y k t z)
      go x y (Memᴰ.head p) (Memᴰ.tail k) s t (inr (inl (_, n))) =
          let a = ap (standing late) p in
          let l = high y k t n in
          omega arith
      go x y (Memᴰ.head p) (Memᴰ.tail k) s t (inr (inr (_, z))) = absurd (elsewhere y k t z)
      go x y (Memᴰ.tail m) (Memᴰ.head r) s t (inr (inr (n, _))) =
          let a = ap (standing late) r in
          let l = low x m s n in
          omega arith
      go x y (Memᴰ.tail m) (Memᴰ.head r) s t (inr (inl (z, _))) = absurd (elsewhere x m s z)
      go x y (Memᴰ.head p) (Memᴰ.tail k) s t (inl c) = absurd (out (rw (← ap (λ (z : Entry). z.place) p) (before_members x.place y.place (xs ++ ys) c).0))
      go x y (Memᴰ.tail m) (Memᴰ.head r) s t (inl c) = absurd (out (rw (← ap (λ (z : Entry). z.place) r) (before_members x.place y.place (xs ++ ys) c).1))
