-- Free (manual 5.4; document 01, "The calls"); refusals 4, 6.
use Rattle.std.specs.Prelude.{Bool, not, cond, ◌&&◌, List, [], ◌∷◌, ℕ, eqb}
use Rattle.lists.specs.Lists.{any}
use Rattle.record.specs.declared.answers.Answer.TheVariants.{Returned}
use Rattle.record.specs.declared.answers.Refusal.{Refusal}
use Rattle.record.specs.declared.answers.Refusal.TheVariants.{NotLive}
use Rattle.record.specs.declared.heap.Heap.{Heap}
use Rattle.rules.specs.Kinds.{holds_block}
use Rattle.rules.specs.Draft.{Draft, as_read, Spot, spot, now_uses}
use Rattle.rules.specs.Join.{release}
use Rattle.rules.specs.Outcome.{Outcome, Refusals, judged, heap_fails, made, change_of}

-- there is a live block at b. The chain is searched for it and the word before b is not trusted: on a double free
-- it may be a stale header that still says in use
abbrev pub is_live : Draft → ℕ → Bool
is_live d b = any (holds_block d.heap b) d.chain

-- the chain at the chunk of that block
abbrev pub block_spot : Draft → ℕ → Spot
block_spot d b = spot (holds_block d.heap b) d.chain

-- the chunk of the live block at b is given back
unfoldable pub free_block : ℕ → Draft → Draft
free_block b d =
    let s = block_spot d b in
    now_uses s.here.size 0 (release s.low s.here s.high d)

-- block 0 is accepted and changes nothing
abbrev pub freed_from : Draft → ℕ → Draft
freed_from d b = cond (eqb b 0) d (free_block b d)

-- the refusals in their order, behind `fails`, that of a heap that fails
abbrev pub free_refusals : Bool × Refusal → Draft → ℕ → Refusals
free_refusals fails d b = fails ∷ (not (eqb b 0) && not (is_live d b), NotLive) ∷ []

-- the outcome of an accepted free: used bytes fall by the chunk's size, for block 0 by nothing
abbrev pub freed : Draft → ℕ → Outcome
freed d b = made (Returned (change_of (cond (eqb b 0) 0 (block_spot d b).here.size) 0)) (freed_from d b)

-- the call
unfoldable pub free : List ℕ → Heap → ℕ → Outcome
free ws h b =
    let before = as_read ws h in
    judged h (free_refusals (heap_fails ws h) before b) (freed before b)
