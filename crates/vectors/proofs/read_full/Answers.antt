-- `read_full`: what a read gives stands behind what the reads before it gave.
use Rattle.std.proofs.Common.{◌≡◌, ℕ, ◌+◌, ◌≤◌, List, ◌++◌, rules, length, take, sym, ap, ◌∙◌, subst, length-take-le}
use Rattle.std.specs.Io.KnownBytes.{Consumes}
use Rattle.std.proofs.KnownBytes.{Consumes-trans}
use borrow.Rule.Slice.PartMut.{put_mid, post_of}
use lib.Seq.{take-append-add, take-append-le}
use Rattle.vectors.proofs.read_full.Goals as goal

-- the bytes in front of place n, and those of the next read, whose buffer was the room from there on
joined : (n m room : ℕ) (script buf : List ℕ) → n ≤ length script → m ≤ length buf
    → take n script ++ take m buf ≡ take (n + m) (put_mid n room script buf)
joined n m room script buf within fits =
    let behind = buf ++ post_of n room script in
    ap (λ bytes. take n script ++ bytes) (sym (take-append-le m buf (post_of n room script) fits))
    ∙ sym (take-append-add (take n script) behind m)
    ∙ ap (λ k. take (k + m) (take n script ++ behind)) (length-take-le n script within)

pub loop-n-preserved : goal.loop-n-preserved
loop-n-preserved g c =
    let before = c.loop-n.invariant in
    let read = c.in_ok-got.ensures in
    let bytes = joined c.loop-n.n c.in_ok-got.got _ c.loop-n.script c.read.new.buf before.0 read.bound.0 in
    (search rules, subst (Consumes _ _) bytes (Consumes-trans _ _ _ _ _ before.1 read.bytes.0))
