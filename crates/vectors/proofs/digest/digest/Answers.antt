-- `digest::digest` is the fold of its step over the words.
use Rattle.std.proofs.Common.{rules, ◌≡◌, ◌∙◌}
use Rattle.std.specs.List.{fold}
use Rattle.vectors.specs.Digest.{mixed}
use Rattle.vectors.proofs.DigestLaws.{folds}
use Rattle.vectors.proofs.digest.digest.Goals as goal

pub returns : goal.returns
returns c =
    let folded : c.fold.result ≡ fold mixed c.args.start c.args.words.now = search rules in
    folded ∙ folds c.args.start c.args.words.now
