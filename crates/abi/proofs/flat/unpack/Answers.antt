-- `flat::unpack` reads the record that the words say. Assumes nothing.
use Rattle.std.proofs.Common.{rules, refl, ◌∙◌}
use Rattle.abi.specs.Flat.{record_in, sizes_from, heads_from, tails_from}
use Rattle.abi.proofs.FlatLaws.{fills_array}
use Rattle.abi.proofs.flat.unpack.Goals as goal

pub returns : goal.returns
unfolding record_in
returns c =
    let words = c.args.words.now in
    rw (
      c.unpack_summary-bytes.ensures,
      c.copy.ensures ∙ fills_array words sizes_from (search rules) (search rules),
      c.copy-2.ensures ∙ fills_array words heads_from (search rules) (search rules),
      c.copy-3.ensures ∙ fills_array words tails_from (search rules) (search rules),
    )
    refl
