-- The record's top and donor are among the chunks of a list, free, and where they have to be (`Posts`). Assumes nothing.
use mathlib.Core.Path.{◌≡◌}
use mathlib.Core.List.{List}
use Prim.Native.Nat.{ℕ, ◌+◌, ◌<◌}
use Rattle.lists.specs.Lists.{Mem}
use Rattle.record.specs.declared.heap.Heap.{Heap}
use Rattle.rules.specs.Shape.{Entry, chunk_end}

pub record TopAmong (bytes top : ℕ) (es : List Entry) : Type 0 where
  pub chunk : Entry
  pub member : Mem chunk es
  pub place : chunk.place ≡ top
  pub free : chunk.flags ≡ 0
  pub reaches : chunk_end chunk + 8 ≡ bytes

pub record DonorAmong (donor top : ℕ) (es : List Entry) : Type 0 where
  pub chunk : Entry
  pub member : Mem chunk es
  pub place : chunk.place ≡ donor
  pub free : chunk.flags ≡ 0
  pub below : donor < top

pub record Posts (h : Heap) (es : List Entry) : Type 0 where
  pub top : TopAmong h.bytes h.top.0 es
  pub donor : 0 < h.donor.0 → DonorAmong h.donor.0 h.top.0 es

-- the same chunk among other chunks, and the donor below another top
pub top_at : {bytes top : ℕ} {es fs : List Entry} (t : TopAmong bytes top es) → Mem t.chunk fs → TopAmong bytes top fs
top_at t m = record { chunk = t.chunk; member = m; place = t.place; free = t.free; reaches = t.reaches }

pub donor_at : {donor top up : ℕ} {es fs : List Entry} (t : DonorAmong donor top es) → Mem t.chunk fs → donor < up → DonorAmong donor up fs
donor_at t m below = record { chunk = t.chunk; member = m; place = t.place; free = t.free; below = below }

-- both are among more chunks too
module _ {es fs : List Entry} (f : (e : Entry) → Mem e es → Mem e fs) where
  pub top_in : {bytes top : ℕ} → TopAmong bytes top es → TopAmong bytes top fs
  top_in t = top_at t (f t.chunk t.member)

  pub donor_in : {donor top : ℕ} → DonorAmong donor top es → DonorAmong donor top fs
  donor_in t = donor_at t (f t.chunk t.member) t.below

  pub posts_in : {h : Heap} → Posts h es → Posts h fs
  posts_in p = record { top = top_in p.top; donor = λ some. donor_in (p.donor some) }
