-- Which facts about a chunk give it which kind, and what its kind says of it. Assumes nothing.
use mathlib.Core.Path.{◌≡◌, refl, sym, subst, ◌∙◌}
use mathlib.Core.Bool.{Bool, true, false, cond, false≢true}
use Prim.Native.Nat.{ℕ, ◌+◌, ◌%◌, ◌≤◌, ◌<◌}
use native.Mathlib.Decide.{ℕ_discrete}
use native.Mathlib.Omega.{arith}
use lib.Dec.{eqb}
use borrow.Author.Tests.{eq-eqb, ne_eqb}
use Rattle.record.specs.declared.heap.Heap.{Heap}
use Rattle.record.specs.declared.kinds.Kind.{Kind}
use Rattle.record.specs.declared.kinds.Kind.TheVariants.{Start, InUse, Ordinary, Donor, Top, End}
use Rattle.rules.specs.Shape.{Entry, chunk_end}
use Rattle.rules.specs.Kinds.{ordinary_kind, free_kind, live_kind, kind_at, kind_of, ordinary, live, in_use, block_of, block_end}

module _ (bytes donor top : ℕ) (e : Entry) where
  pub kind_start : e.place ≡ 0 → Start ≡ kind_at bytes donor top e
  unfolding kind_at
  kind_start p = rw (eq-eqb e.place 0 p)

  module _ (some : e.place ≡ 0 → ⊥) where
    pub kind_end : e.place + 8 ≡ bytes → End ≡ kind_at bytes donor top e
    unfolding kind_at
    kind_end p = rw (ne_eqb e.place 0 some, eq-eqb (e.place + 8) bytes p)

    module _ (below : e.place + 8 ≡ bytes → ⊥) where
      pub kind_in_use : e.flags % 2 ≡ 1 → InUse ≡ kind_at bytes donor top e
      unfolding kind_at in_use
      kind_in_use p =
          rw (ne_eqb e.place 0 some, ne_eqb (e.place + 8) bytes below, eq-eqb (e.flags % 2) 1 p)

      module _ (free : e.flags % 2 ≡ 1 → ⊥) where
        -- the record decides the kind of a free chunk
        free_kind_lem : kind_at bytes donor top e ≡ cond (eqb e.place top) Top (cond (eqb e.place donor) Donor Ordinary)
        unfolding kind_at in_use
        free_kind_lem = rw (ne_eqb e.place 0 some, ne_eqb (e.place + 8) bytes below, ne_eqb (e.flags % 2) 1 free)

        pub kind_top : e.place ≡ top → Top ≡ kind_at bytes donor top e
        kind_top p = rw (free_kind_lem, eq-eqb e.place top p)

        module _ (other : e.place ≡ top → ⊥) where
          pub kind_donor : e.place ≡ donor → Donor ≡ kind_at bytes donor top e
          kind_donor p = rw (free_kind_lem, ne_eqb e.place top other, eq-eqb e.place donor p)

          pub kind_ordinary : (e.place ≡ donor → ⊥) → Ordinary ≡ kind_at bytes donor top e
          kind_ordinary p = rw (free_kind_lem, ne_eqb e.place top other, ne_eqb e.place donor p)

-- what a kind says of its chunk's place and flags
module _ (bytes donor top : ℕ) (e : Entry) where
  abbrev pub Being : Kind → Type 0
  Being Start = e.place ≡ 0
  Being InUse = (0 < e.place) × (e.place + 8 ≡ bytes → ⊥) × (e.flags % 2 ≡ 1)
  Being Ordinary = (0 < e.place) × (e.place + 8 ≡ bytes → ⊥) × (e.flags % 2 ≡ 0)
  Being Donor = (0 < e.place) × (e.place + 8 ≡ bytes → ⊥) × (e.flags % 2 ≡ 0) × (e.place ≡ donor)
  Being Top = (0 < e.place) × (e.place + 8 ≡ bytes → ⊥) × (e.flags % 2 ≡ 0) × (e.place ≡ top)
  Being End = (0 < e.place) × (e.place + 8 ≡ bytes)

  pub being : Being (kind_at bytes donor top e)
  being =
      go (ℕ_discrete e.place 0) (ℕ_discrete (e.place + 8) bytes) (ℕ_discrete (e.flags % 2) 1)
      (ℕ_discrete e.place top) (ℕ_discrete e.place donor)
    where
      go : Dec (e.place ≡ 0) → Dec (e.place + 8 ≡ bytes) → Dec (e.flags % 2 ≡ 1)
          → Dec (e.place ≡ top) → Dec (e.place ≡ donor) → Being (kind_at bytes donor top e)
      go (yes p) end? used? top? donor? = rw (← kind_start bytes donor top e p) p
      go (no s) (yes p) used? top? donor? = rw (← kind_end bytes donor top e s p) (omega arith, p)
      go (no s) (no b) (yes p) top? donor? = rw (← kind_in_use bytes donor top e s b p) (omega arith, b, p)
      go (no s) (no b) (no f) (yes p) donor? = rw (← kind_top bytes donor top e s b f p) (omega arith, b, omega arith, p)
      go (no s) (no b) (no f) (no t) (yes p) =
          rw (← kind_donor bytes donor top e s b f t p) (omega arith, b, omega arith, p)
      go (no s) (no b) (no f) (no t) (no d) = rw (← kind_ordinary bytes donor top e s b f t d) (omega arith, b, omega arith)

-- one kind is ordinary, one holds a live block, three are free
pub ordinary_kind_lem : (k : Kind) → ordinary_kind k ≡ true → k ≡ Ordinary
ordinary_kind_lem Ordinary t = refl
ordinary_kind_lem Start t = absurd (false≢true t)
ordinary_kind_lem InUse t = absurd (false≢true t)
ordinary_kind_lem Donor t = absurd (false≢true t)
ordinary_kind_lem Top t = absurd (false≢true t)
ordinary_kind_lem End t = absurd (false≢true t)

pub live_kind_lem : (k : Kind) → live_kind k ≡ true → k ≡ InUse
live_kind_lem InUse t = refl
live_kind_lem Start t = absurd (false≢true t)
live_kind_lem Ordinary t = absurd (false≢true t)
live_kind_lem Donor t = absurd (false≢true t)
live_kind_lem Top t = absurd (false≢true t)
live_kind_lem End t = absurd (false≢true t)

pub free_kinds : (P : Kind → Type 0) → P Ordinary → P Donor → P Top → (k : Kind) → free_kind k ≡ true → P k
free_kinds P o d t Ordinary f = o
free_kinds P o d t Donor f = d
free_kinds P o d t Top f = t
free_kinds P o d t Start f = absurd (false≢true f)
free_kinds P o d t InUse f = absurd (false≢true f)
free_kinds P o d t End f = absurd (false≢true f)

-- a chunk in use by its flags: start and end too
abbrev pub Used : Entry → Type 0
Used e = e.flags % 2 ≡ 1

-- whether a chunk holds a live block does not depend on donor and top
pub live_always : (bytes donor top donor' top' : ℕ) (e : Entry) → live_kind (kind_at bytes donor top e) ≡ live_kind (kind_at bytes donor' top' e)
unfolding kind_at
live_always bytes donor top donor' top' e =
    go (eqb e.place 0) (eqb (e.place + 8) bytes) (in_use e)
  where
    free : (t d : Bool) → live_kind (cond t Top (cond d Donor Ordinary)) ≡ false
    free true d = refl
    free false true = refl
    free false false = refl

    go : (s n u : Bool)
        → live_kind (cond s Start (cond n End (cond u InUse (cond (eqb e.place top) Top (cond (eqb e.place donor) Donor Ordinary)))))
        ≡ live_kind (cond s Start (cond n End (cond u InUse (cond (eqb e.place top') Top (cond (eqb e.place donor') Donor Ordinary)))))
    go true n u = refl
    go false true u = refl
    go false false true = refl
    go false false false = free (eqb e.place top) (eqb e.place donor) ∙ sym (free (eqb e.place top') (eqb e.place donor'))

-- the same with the record's donor and top; an ordinary chunk is free and not in use; a free one holds no live block
module _ (h : Heap) (e : Entry) where
  pub being_as : (k : Kind) → kind_of h e ≡ k → Being h.bytes h.donor.0 h.top.0 e k
  being_as k q = subst (Being h.bytes h.donor.0 h.top.0 e) q (being h.bytes h.donor.0 h.top.0 e)

  pub ordinary_free : ordinary h e ≡ true → e.flags ≤ 1 → e.flags ≡ 0
  ordinary_free o l = omega (arith, (being_as Ordinary (ordinary_kind_lem (kind_of h e) o)).2)

  pub used_not_ordinary : Used e → ordinary h e ≡ true → ⊥
  used_not_ordinary u o = omega (arith, (being_as Ordinary (ordinary_kind_lem (kind_of h e) o)).2)

  pub free_not_live_lem : e.flags ≡ 0 → live h e ≡ false
  free_not_live_lem f = go (kind_of h e) (being h.bytes h.donor.0 h.top.0 e)
    where
      go : (k : Kind) → Being h.bytes h.donor.0 h.top.0 e k → live_kind k ≡ false
      go InUse b = absurd (omega arith)
      go Start b = refl
      go Ordinary b = refl
      go Donor b = refl
      go Top b = refl
      go End b = refl

-- a chunk at neither of two places keeps its kind when the record names the one place in place of the other
module _ (bytes a b other : ℕ) (e : Entry) (na : e.place ≡ a → ⊥) (nb : e.place ≡ b → ⊥) where
  pub donor_moved : kind_at bytes a other e ≡ kind_at bytes b other e
  unfolding kind_at
  donor_moved = rw (ne_eqb e.place a na, ne_eqb e.place b nb)

  pub top_moved : kind_at bytes other a e ≡ kind_at bytes other b e
  unfolding kind_at
  top_moved = rw (ne_eqb e.place a na, ne_eqb e.place b nb)

-- a block lies inside its chunk, above the two links. Laws about blocks go by these three and not by where exactly a block begins and ends
module _ (e : Entry) where
  pub block_starts : e.place + 8 ≤ block_of e
  block_starts = omega arith

  pub block_ends : block_end e ≤ chunk_end e
  block_ends = omega arith

  pub block_inside : 8 ≤ e.size → block_of e ≤ chunk_end e
  block_inside l = omega arith

-- a live chunk is in use by its flags
pub live_used : (h : Heap) (e : Entry) → live h e ≡ true → Used e
live_used h e l = (being_as h e InUse (live_kind_lem (kind_of h e) l)).2
