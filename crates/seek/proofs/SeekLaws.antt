-- The walk of the chain in search of a chunk, step by step, and that what it finds is the spot of the rules. Assumes nothing.
use mathlib.Core.Path.{◌≡◌, refl, sym, ◌∙◌, ap}
use mathlib.Core.Bool.{Bool, true, false, not, cond, false≢true, true≢false}
use mathlib.Core.List.{List, [], ◌∷◌}
use Prim.Native.Nat.{ℕ, suc, ◌+◌, ◌-◌, ◌%◌, ◌≤◌, ◌<◌}
use native.Mathlib.Decide.{ℕ_discrete}
use native.Mathlib.Omega.{arith}
use lib.Dec.{eqb}
use borrow.Author.Tests.{eq-eqb, ne_eqb, not-true, not-false}
use Rattle.chain.specs.Chain.{end_m}
use Rattle.chain.proofs.EndLaws.{end_at, here_at, chain_here, chain_next, end_above}
use Rattle.lists.specs.Lists.{last_or, any}
use Rattle.record.specs.declared.heap.Heap.{Heap}
use Rattle.record.specs.declared.kinds.Kind.TheVariants.{Ordinary, Donor, Top}
use Rattle.record.specs.Heap.{at}
use Rattle.region.specs.Words.{word, forward, backward}
use Rattle.rules.specs.Draft.{spot}
use Rattle.rules.specs.Kinds.{kind_at, in_use, live_kind, is_at, holds_block}
use Rattle.rules.specs.Shape.{Entry, entry, shape}
use Rattle.rules.proofs.ChainLaws.{Rising, shape_chain}
use Rattle.rules.proofs.ShapeLaws.{chain_from, shape_is}
use Rattle.seek.specs.declared.Place.{Place}
use Rattle.std.specs.Prelude.{Option, Some, None}
use Rattle.seek.specs.Seek.{placed, sought_m, live_m, has_block_m}

-- where the walk stands, at c above a chunk at p: from there it finds what it finds from the start
pub record Seeking (ws : List ℕ) (bytes place p c : ℕ) : Type 0 where
  pub inside : c ≤ bytes
  pub same : sought_m (is_at place) p (chain_from ws bytes c) ≡ sought_m (is_at place) 0 (chain_from ws bytes 0)

module _ {ws : List ℕ} {bytes place : ℕ} where
  pub seeking_begins : Seeking ws bytes place 0 0
  seeking_begins = record { inside = omega arith; same = refl }

  -- what the code holds at the chunk at c: its forward link n and its end e
  module _ {p c n e : ℕ} (o : Seeking ws bytes place p c) (en : n ≡ word ws c forward) (ee : e ≡ end_m bytes c n) where
    end_is : e ≡ end_at ws bytes c
    end_is = ee ∙ ap (end_m bytes c) en

    above : c + (end_at ws bytes c - c) ≡ end_at ws bytes c
    above = let l = end_above ws bytes c refl refl o.inside in omega arith

    module _ (q : c ≡ place) {w f : ℕ} (ew : w ≡ word ws c backward) (ef : f ≡ w % 8) where
      pub seeking_found : Some (record { before = at p; chunk = at c; end = e; flags = f }) ≡ sought_m (is_at place) 0 (shape ws bytes)
      unfolding sought_m
      seeking_found = rw (shape_is ws bytes) (go (ℕ_discrete (end_at ws bytes c) bytes) ∙ o.same)
        where
          this : Some (record { before = at p; chunk = at c; end = e; flags = f }) ≡ Some (placed p (here_at ws bytes c))
          this = rw (end_is, ef, ew, above)

          go : Dec (end_at ws bytes c ≡ bytes) → Some (record { before = at p; chunk = at c; end = e; flags = f }) ≡ sought_m (is_at place) p (chain_from ws bytes c)
          go (yes r) = rw (chain_here ws bytes c r, eq-eqb c place q) this
          go (no m) = rw ((chain_next ws bytes c m).2, eq-eqb c place q) this

    module _ (q : c ≡ place → ⊥) where
      pub seeking_ends : e ≡ bytes → None ≡ sought_m (is_at place) 0 (shape ws bytes)
      unfolding sought_m
      seeking_ends r =
          let here = chain_here ws bytes c (sym end_is ∙ r) in
          rw (shape_is ws bytes) (sym (rw (here, ne_eqb c place q)) ∙ o.same)

      pub seeking_goes : (e ≡ bytes → ⊥) → (c < e) × (e < bytes) × Seeking ws bytes place c e
      unfolding sought_m
      seeking_goes m =
          let h = chain_next ws bytes c (λ r. m (end_is ∙ r)) in
          rw end_is (h.0, h.1, record { inside = omega (arith, h.1); same = rw (h.2, ne_eqb c place q) at o.same })

-- the tests of a chunk with a live block, in the code's order
module _ (bytes c flags : ℕ) where
  pub start_dead : c ≡ 0 → false ≡ live_m bytes c flags
  unfolding live_m
  start_dead p = rw (eq-eqb c 0 p)

  module _ (some : c ≡ 0 → ⊥) where
    pub end_dead : c + 8 ≡ bytes → false ≡ live_m bytes c flags
    unfolding live_m
    end_dead p = rw (ne_eqb c 0 some, eq-eqb (c + 8) bytes p)

    pub live_by_flag : (c + 8 ≡ bytes → ⊥) → eqb (flags % 2) 1 ≡ live_m bytes c flags
    unfolding live_m
    live_by_flag n = rw (ne_eqb c 0 some, ne_eqb (c + 8) bytes n)

-- the donor and the top are free, so that the record does not matter to what is live
pub live_is : (bytes donor top : ℕ) (e : Entry) → live_m bytes e.place e.flags ≡ live_kind (kind_at bytes donor top e)
unfolding kind_at in_use
live_is bytes donor top e =
    go (ℕ_discrete e.place 0) (ℕ_discrete (e.place + 8) bytes) (eqb (e.flags % 2) 1) refl
  where
    go : Dec (e.place ≡ 0) → Dec (e.place + 8 ≡ bytes) → (t : Bool) → eqb (e.flags % 2) 1 ≡ t
        → live_m bytes e.place e.flags ≡ live_kind (kind_at bytes donor top e)
    go (yes p) _ t q = rw (← start_dead bytes e.place e.flags p, eq-eqb e.place 0 p)
    go (no s) (yes p) t q =
        rw (← end_dead bytes e.place e.flags s p, ne_eqb e.place 0 s, eq-eqb (e.place + 8) bytes p)
    go (no s) (no n) true q =
        rw (← live_by_flag bytes e.place e.flags s n, ne_eqb e.place 0 s, ne_eqb (e.place + 8) bytes n, q)
    go (no s) (no n) false q =
        rw (← live_by_flag bytes e.place e.flags s n, ne_eqb e.place 0 s, ne_eqb (e.place + 8) bytes n, q)
        (free (eqb e.place top) (eqb e.place donor))
      where
        free : (s t : Bool) → false ≡ live_kind (cond s Top (cond t Donor Ordinary))
        free true t = refl
        free false true = refl
        free false false = refl

pub has_block_is : (h : Heap) (b : ℕ) (e : Entry) → has_block_m h.bytes b e ≡ holds_block h b e
unfolding has_block_m
has_block_is h b e = rw (live_is h.bytes h.donor.0 h.top.0 e)

-- only the chunk eight bytes below b can hold the block at b
module _ (bytes b : ℕ) where
  holds_other : (e : Entry) → (e.place + 8 ≡ b → ⊥) → has_block_m bytes b e ≡ false
  unfolding has_block_m
  holds_other e n = rw (ne_eqb (e.place + 8) b n) (go (live_m bytes e.place e.flags))
    where
      go : (t : Bool) → cond t false false ≡ false
      go true = refl
      go false = refl

  none_above : (c p : ℕ) (es : List Entry) → Rising c es → b < c + 8 → sought_m (has_block_m bytes b) p es ≡ None
  unfolding sought_m
  none_above c p [] r l = refl
  none_above c p (e ∷ es) r l =
      rw (holds_other e (λ q. omega (arith, r.0))) (none_above (suc e.place) e.place es r.1 (omega (arith, r.0)))

  no_chunk : (p : ℕ) (es : List Entry) → sought_m (is_at (b - 8)) p es ≡ None → sought_m (has_block_m bytes b) p es ≡ None
  unfolding sought_m
  no_chunk p [] h = refl
  no_chunk p (e ∷ es) h = go (ℕ_discrete e.place (b - 8)) (no_chunk e.place es)
    where
      go : Dec (e.place ≡ b - 8)
          → (sought_m (is_at (b - 8)) e.place es ≡ None → sought_m (has_block_m bytes b) e.place es ≡ None)
          → sought_m (has_block_m bytes b) p (e ∷ es) ≡ None
      go (yes q) f =
          let k : Some (placed p e) ≡ None = rw (eq-eqb e.place (b - 8) q) at h in
          let z : ◌≡◌ {A = ℕ} 0 1 = cc in absurd (omega arith)
      go (no n) f = rw (holds_other e (λ q. n (omega arith))) (f (rw (ne_eqb e.place (b - 8) n) at h))

  found_chunk : (c p : ℕ) (es : List Entry) → Rising c es → (x : Place) → sought_m (is_at (b - 8)) p es ≡ Some x
      → sought_m (has_block_m bytes b) p es ≡ cond (live_m bytes x.chunk.0 x.flags) (Some x) None
  unfolding sought_m has_block_m
  found_chunk c p [] r x h = let z : ◌≡◌ {A = ℕ} 0 1 = cc in absurd (omega arith)
  found_chunk c p (e ∷ es) r x h =
      go (ℕ_discrete e.place (b - 8)) (found_chunk (suc e.place) e.place es r.1 x)
    where
      here : e.place ≡ b - 8 → (t : Bool) → live_m bytes e.place e.flags ≡ t
          → sought_m (has_block_m bytes b) p (e ∷ es) ≡ cond t (Some (placed p e)) None
      here q true l = rw (l, eq-eqb (e.place + 8) b (omega (arith, some (ℕ_discrete e.place 0))))
        where
          some : Dec (e.place ≡ 0) → 0 < e.place
          some (yes s) = absurd (false≢true (start_dead bytes e.place e.flags s ∙ l))
          some (no n) = omega arith
      here q false l = rw l (none_above (suc e.place) e.place es r.1 (omega arith))

      go : Dec (e.place ≡ b - 8)
          → (sought_m (is_at (b - 8)) e.place es ≡ Some x → sought_m (has_block_m bytes b) e.place es ≡ cond (live_m bytes x.chunk.0 x.flags) (Some x) None)
          → sought_m (has_block_m bytes b) p (e ∷ es) ≡ cond (live_m bytes x.chunk.0 x.flags) (Some x) None
      go (yes q) f =
          let k : Some (placed p e) ≡ Some x = rw (eq-eqb e.place (b - 8) q) at h in
          let y : placed p e ≡ x = cc in
          rw (← y) (here q (live_m bytes e.place e.flags) refl)
      go (no n) f = rw (holds_other e (λ q. n (omega arith))) (f (rw (ne_eqb e.place (b - 8) n) at h))

-- what the code holds when it has sought the chunk k of the block at b
module _ (ws : List ℕ) (bytes b : ℕ) {k : ℕ} {s : Option Place} (ek : k ≡ b - 8) (es : s ≡ sought_m (is_at k) 0 (shape ws bytes)) where
  told : s ≡ sought_m (is_at (b - 8)) 0 (shape ws bytes)
  told = es ∙ ap (λ (c : ℕ). sought_m (is_at c) 0 (shape ws bytes)) ek

  pub block_nowhere : s ≡ None → None ≡ sought_m (has_block_m bytes b) 0 (shape ws bytes)
  block_nowhere e = sym (no_chunk bytes b 0 (shape ws bytes) (sym told ∙ e))

  module _ {x : Place} (e : s ≡ Some x) {t : Bool} (et : t ≡ live_m bytes x.chunk.0 x.flags) where
    of_chunk_lem : sought_m (has_block_m bytes b) 0 (shape ws bytes) ≡ cond t (Some x) None
    of_chunk_lem = rw et (found_chunk bytes b 0 0 (shape ws bytes) (shape_chain ws bytes).rising x (sym told ∙ e))

    pub block_dead : not t ≡ true → None ≡ sought_m (has_block_m bytes b) 0 (shape ws bytes)
    block_dead h = rw (of_chunk_lem, not-true t h)

    pub block_found : not t ≡ false → Some x ≡ sought_m (has_block_m bytes b) 0 (shape ws bytes)
    block_found h = rw (of_chunk_lem, not-false t h)

-- what is sought is the spot of the rules, and it is found if any chunk meets the test
module _ (q : Entry → Bool) where
  pub sought_none : (p : ℕ) (es : List Entry) → any q es ≡ false → sought_m q p es ≡ None
  unfolding sought_m
  sought_none p [] h = refl
  sought_none p (e ∷ es) h = go (q e) refl (sought_none e.place es)
    where
      go : (t : Bool) → q e ≡ t → (any q es ≡ false → sought_m q e.place es ≡ None) → sought_m q p (e ∷ es) ≡ None
      go true k f = absurd (true≢false (rw k at h))
      go false k f = rw k (f (rw k at h))

  pub sought_spot : (p : ℕ) (es : List Entry) → any q es ≡ true
      → sought_m q p es ≡ Some (placed (last_or (entry p 0 0) (spot q es).low).place (spot q es).here)
  unfolding sought_m
  sought_spot p [] h = absurd (false≢true h)
  sought_spot p (e ∷ es) h = go (q e) refl (sought_spot e.place es)
    where
      go : (t : Bool) → q e ≡ t
          → (any q es ≡ true → sought_m q e.place es ≡ Some (placed (last_or (entry e.place 0 0) (spot q es).low).place (spot q es).here))
          → sought_m q p (e ∷ es) ≡ Some (placed (last_or (entry p 0 0) (spot q (e ∷ es)).low).place (spot q (e ∷ es)).here)
      go true k f = rw k
      go false k f = rw k (f (rw k at h) ∙ ap (λ (c : ℕ). Some (placed c (spot q es).here)) (below (spot q es).low))
        where
          below : (low : List Entry) → (last_or (entry e.place 0 0) low).place ≡ (last_or e low).place
          below [] = refl
          below (d ∷ ds) = refl

-- the same of a live block: the test of the rules asks the record too
pub sought_block : (h : Heap) (b p : ℕ) (es : List Entry) → sought_m (has_block_m h.bytes b) p es ≡ sought_m (holds_block h b) p es
sought_block h b p es = ap (λ (q : Entry → Bool). sought_m q p es) (λ i e. has_block_is h b e i)
