-- What the code finds that a chunk joins is what the rules say, for the chunk of a live block in a heap that passes,
-- and where the result lies in the chain. What is then written is not looked at here. Assumes nothing.
use mathlib.Core.Path.{◌≡◌, refl, sym, ap, ◌∙◌}
use mathlib.Core.Bool.{Bool, true, false, cond}
use mathlib.Core.List.{List, [], ◌∷◌, ◌++◌}
use Prim.Native.Nat.{ℕ, ◌+◌, ◌-◌, ◌%◌, ◌≤◌, ◌<◌}
use native.Mathlib.Omega.{arith}
use Rattle.lists.specs.Lists.{Mem, head_or, last_or, but_last}
use Rattle.record.specs.declared.heap.Heap.{Heap}
use Rattle.record.specs.declared.kinds.Kind.{Kind}
use Rattle.record.specs.declared.kinds.Kind.TheVariants.{InUse}
use Rattle.record.specs.Heap.{summary_of}
use Rattle.region.specs.Words.{word, backward}
use Rattle.rules.specs.Shape.{Entry, chunk_end, entry, flags_at, shape, bin_list}
use Rattle.rules.specs.Kinds.{kind_at, in_use, ordinary_kind, free_kind, ordinary, is_free, unused, outside}
use Rattle.rules.specs.Check.{Passes}
use Rattle.rules.specs.Join.{Joined, joined_as, joining}
use Rattle.rules.proofs.SpotLaws.{inside, around}
use Rattle.rules.proofs.NamedLaws.{is_ordinary_lem}
use Rattle.books.proofs.BooksLaws.{Far}
use Rattle.drafts.proofs.JoinLaws.{sees, joined_by, joining_sees, Summit, LiveChunk, here, own, sides, split_low, summit, seen_below, seen_free, seen_above, part_far}
use Rattle.seek.specs.declared.Place.{Place}
use Rattle.seek.specs.Seek.{placed}
use Rattle.release.specs.declared.Union.{Union}
use Rattle.release.specs.Release.{neighbour_m, joined_m, join_m}

-- a kind is seen in the flags that stand in the region, and the size says nothing of it
kind_stands : (bytes donor top f : ℕ) (e : Entry) → e.flags ≡ f → kind_at bytes donor top (entry e.place 0 f) ≡ kind_at bytes donor top e
unfolding kind_at in_use
kind_stands bytes donor top f e q = rw (← q)

module _ (ws : List ℕ) (h : Heap) (p : Passes ws h) where
  pub neighbour_is : (c : ℕ) (d : Entry) → Mem d (shape ws h.bytes) → d.place ≡ c → neighbour_m ws (summary_of h) c ≡ sees h d
  unfolding neighbour_m
  neighbour_is c d m q =
      rw (← q)
      (ap (λ (k : Kind). cond h.merge k InUse) (kind_stands h.bytes h.donor.0 h.top.0 (flags_at ws d.place) d (inside ws h p d m).stands))

-- what the code joined, u, is what the rules joined, j; the neighbours are `lower` and `upper`
pub record Agrees (j : Joined) (lower upper : Entry) (u : Union) : Type 0 where
  pub below : u.below.0 ≡ (last_or outside j.low).place
  pub here : j.here ≡ entry u.chunk.0 (u.end - u.chunk.0) unused
  pub above : u.end ≡ (head_or outside j.high).place
  pub flags : u.flags ≡ (head_or outside j.high).flags
  pub becomes : u.becomes ≡ j.becomes
  pub leaving : j.leaving ≡ cond u.lower (lower ∷ []) [] ++ cond u.upper (upper ∷ []) []

-- where it lies: what was to be freed is at c, far from every chunk in a bin; a neighbour that joins is an ordinary chunk of the chain,
-- and a chunk of the chain stands where the result ends
pub record UnionLies (ws : List ℕ) (h : Heap) (c : ℕ) (lower upper : Entry) (u : Union) : Type 0 where
  pub eight : c % 8 ≡ 0
  pub some : 0 < c
  pub large : c + 24 ≤ u.end
  pub far : (j x : ℕ) → j < h.bins → Mem x (bin_list ws h j) → Far c x
  pub chunk : u.chunk.0 ≡ cond u.lower lower.place c
  pub under : u.lower ≡ true → Mem lower (shape ws h.bytes) × (ordinary h lower ≡ true) × (lower.place < c)
  pub over : u.upper ≡ true → Mem upper (shape ws h.bytes) × (ordinary h upper ≡ true) × (c < upper.place)
  pub top : (y : Entry) × Mem y (shape ws h.bytes) × (y.place ≡ u.end)
  pub flags : u.flags < 8
  pub becomes : (k : Kind) × (u.becomes ≡ joined_as k)

module _ {ws : List ℕ} {h : Heap} {low : List Entry} {e : Entry} {high : List Entry} (chunk : LiveChunk ws h low e high) where
  abbrev well : Passes ws h
  well = chunk.well

  abbrev es : List Entry
  es = shape ws h.bytes

  abbrev below : Entry
  below = last_or outside low

  abbrev above : Entry
  above = head_or outside high

  -- where the walk finds the chunk
  abbrev place : Place
  place = placed below.place e

  -- if the chunk below joins, its link names the one that is then below
  named_below : (t : Bool) → (t ≡ true → ordinary h below ≡ true)
      → cond t (word ws below.place backward) below.place ≡ (last_or outside (cond t (but_last low) low)).place
  named_below false o = refl
  named_below true o =
      let f = (is_ordinary_lem ws h well below (sides chunk).below (o refl)).free in
      let b = f.between in
      let a = around ws h well (but_last low) below (e ∷ high) (split_low chunk) (omega arith) (omega arith) in
      omega (arith, a.own_backward, f.flags)

  flags_above : {to named : ℕ} {y : Entry} → Summit es e to named y → flags_at ws named ≡ y.flags
  flags_above {to} {named} {y} s =
      ap (flags_at ws) (s.link ∙ sym s.place) ∙ sym (inside ws h well y s.member).stands

  join_sees : join_m ws (summary_of h) place
      ≡ joined_m ws (sees h below) (sees h above) below.place e.place (chunk_end e)
  unfolding join_m
  join_sees =
      rw (neighbour_is ws h well below.place below (sides chunk).below refl, neighbour_is ws h well (chunk_end e) above (sides chunk).above (sides chunk).above_place)

  -- what is freed, `part`, ends where the chunk of the block does, and has `under` below it as the last of `lows`
  pub part_joins : (lows : List Entry) (part : Entry) (under over : Kind) → chunk_end part ≡ chunk_end e
      → cond (ordinary_kind under) (word ws (last_or outside lows).place backward) (last_or outside lows).place
      ≡ (last_or outside (cond (ordinary_kind under) (but_last lows) lows)).place
      → (free_kind over ≡ true → is_free h above ≡ true)
      → Agrees (joined_by under over lows part high) (last_or outside lows) above (joined_m ws under over (last_or outside lows).place part.place (chunk_end e))
  unfolding joined_m
  part_joins lows part under over q named f =
      let s = summit chunk (free_kind over) f in
      let from : ℕ = cond (ordinary_kind under) (last_or outside lows).place part.place in
      record {
        below = named;
        here = rw q (ap (λ (to : ℕ). entry from (to - from) unused) (sym s.link));
        above = s.link ∙ sym s.place;
        flags = flags_above s;
        becomes = refl;
        leaving = refl;
      }

  pub part_lies : (c : ℕ) (lower : Entry) (under over : Kind) → c % 8 ≡ 0 → e.place ≤ c → c + 24 ≤ chunk_end e
      → (ordinary_kind under ≡ true → Mem lower es × (ordinary h lower ≡ true) × (lower.place < c))
      → (free_kind over ≡ true → is_free h above ≡ true) → (ordinary_kind over ≡ true → ordinary h above ≡ true)
      → UnionLies ws h c lower above (joined_m ws under over lower.place c (chunk_end e))
  unfolding joined_m
  part_lies c lower under over z lo hi o f u =
      let s = summit chunk (free_kind over) f in
      let b = (own chunk).1 in
      let i = (sides chunk).above_place in
      record {
        eight = z;
        some = omega arith;
        large = omega (arith, s.up, s.link);
        far = part_far chunk c lo hi;
        chunk = refl;
        under = o;
        over = λ q. ((sides chunk).above, u q, omega arith);
        top = (_, s.member, s.place ∙ sym s.link);
        flags = omega arith;
        becomes = (over, refl);
      }

  -- the code on the whole chunk
  abbrev pub chunk_joined : Union
  chunk_joined = join_m ws (summary_of h) place

  pub chunk_joins : Agrees (joining h low e high) below above chunk_joined
  chunk_joins =
      rw (joining_sees low e high h, join_sees)
      (part_joins low e (sees h below) (sees h above) refl (named_below (ordinary_kind (sees h below)) (seen_below chunk)) (seen_free chunk))

  pub chunk_lies : UnionLies ws h e.place below above chunk_joined
  chunk_lies =
      let i = inside ws h well e (here chunk) in
      let b = (own chunk).1 in
      rw join_sees (part_lies e.place below (sees h below) (sees h above) i.place (omega arith) (omega arith) lower (seen_free chunk) (seen_above chunk))
    where
      lower : ordinary_kind (sees h below) ≡ true → Mem below es × (ordinary h below ≡ true) × (below.place < e.place)
      lower q =
          let b = (is_ordinary_lem ws h well below (sides chunk).below (seen_below chunk q)).free.between in
          ((sides chunk).below, seen_below chunk q, omega (arith, (sides chunk).below_end))
