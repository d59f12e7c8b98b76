-- `digest::mix` mixes one word in.
use lib.Bits.{bit_xor, xor_lt}
use Rattle.vectors.specs.Digest.{mixed}
use Rattle.vectors.proofs.DigestLaws.{rotates}
use Rattle.vectors.proofs.digest.mix.Goals as goal

pub returns : goal.returns
unfolding mixed
returns c =
    let e = rotates (bit_xor c.args.d c.args.word) (xor_lt 32 _ _ c.ranges.d.fits c.ranges.word.fits) in
    rw (c.rotate_left.ensures, e)
