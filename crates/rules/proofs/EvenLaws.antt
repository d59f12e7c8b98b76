-- Whether a heap passes, and how it is read, depends only on the words of the heap bytes (`same_passes`, `same_read`);
-- an odd last word of the region makes no difference (`even_passes`, `even_read`). Assumes nothing.
use mathlib.Core.Path.{◌≡◌, sym, ◌∙◌}
use mathlib.Core.Logic.{◌↔◌}
use mathlib.Core.List.{List}
use Prim.Native.Nat.{ℕ, ◌+◌, ◌*◌, ◌/◌, ◌<◌}
use native.Mathlib.Omega.{arith}
use lib.ListN.{length, get_or, take}
use lib.Seq.{get_or-take, length-take-le}
use Rattle.lists.specs.Lists.{Mem}
use Rattle.record.specs.declared.heap.Heap.{Heap}
use Rattle.region.specs.Words.{word, forward, backward}
use Rattle.rules.specs.Shape.{Entry, shape}
use Rattle.rules.specs.Check.{Fits, Passes}
use Rattle.rules.specs.Draft.{as_read}
use Rattle.rules.proofs.SpotLaws.{bounds, inside}
use Rattle.rules.proofs.NamedLaws.{flags_free}
use Rattle.rules.proofs.HeadersLaws.{SameHeader, headers_shape, headers_pass, headers_read}

-- the two regions have the same first n words
abbrev pub Agree : ℕ → List ℕ → List ℕ → Type 0
Agree n ws ws' = (i : ℕ) → i < n → get_or ws i 0 ≡ get_or ws' i 0

-- a heap that passes, and a second region with the same words in the heap bytes
module _ (ws ws' : List ℕ) (h : Heap) (same : Agree (h.bytes / 4) ws ws') (p : Passes ws h) where
  agrees : (c k : ℕ) → c / 4 + k < h.bytes / 4 → word ws c k ≡ word ws' c k
  unfolding word
  agrees c k l = same (c / 4 + k) l

  -- every chunk has two words inside the heap, and a free one six
  same_headers : (e : Entry) → Mem e (shape ws h.bytes) → SameHeader ws ws' e
  same_headers e m =
      let i = inside ws h p e m in
      let b = bounds ws h p in
      record {
        links = (agrees e.place forward (omega arith), agrees e.place backward (omega arith));
        words = λ f k l. let r = (flags_free ws h p e m f).between in agrees e.place k (omega arith);
      }

  pub same_shape : shape ws' h.bytes ≡ shape ws h.bytes
  same_shape = headers_shape p same_headers

  pub same_passes : Fits ws' h → Passes ws' h
  same_passes fits = headers_pass p same_headers fits

  pub same_read : as_read ws' h ≡ as_read ws h
  same_read = headers_read p same_headers

-- the region without an odd last word
abbrev pub even_part : List ℕ → List ℕ
even_part ws = take (length ws / 2 * 2) ws

pub even_length : (ws : List ℕ) → length (even_part ws) ≡ length ws / 2 * 2
even_length ws = length-take-le (length ws / 2 * 2) ws (omega arith)

module _ (ws : List ℕ) (h : Heap) where
  pub even_fits : Fits ws h → Fits (even_part ws) h
  even_fits f =
      let e = even_length ws in record { enough = omega arith; not_too_many = omega arith; bytes = f.bytes ∙ omega arith }

  pub even_agrees : Fits ws h → Agree (h.bytes / 4) ws (even_part ws)
  even_agrees f i l = sym (get_or-take (length ws / 2 * 2) ws i 0 (omega arith))

  pub even_passes : Fits ws h → Passes ws h ↔ Passes (even_part ws) h
  even_passes f = (
    λ p. same_passes ws (even_part ws) h (even_agrees f) p (even_fits f),
    λ p. same_passes (even_part ws) ws h (λ i l. sym (even_agrees f i l)) p f,
  )

  pub even_read : Passes ws h → as_read ws h ≡ as_read (even_part ws) h
  even_read p = sym (same_read ws (even_part ws) h (even_agrees p.fits) p)
