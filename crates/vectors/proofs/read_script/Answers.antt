-- `read_script`: the space has room for as many bytes as a script may have.
use Rattle.std.proofs.Common.{◌≡◌, IfOk, IfSome, length, take, ◌∙◌, subst}
use Rattle.vectors.specs.declared.TheConstants.{SCRIPT_BYTES}
use Rattle.vectors.proofs.read_script.Goals as goal

pub returns-clause-bytes : goal.returns-clause-bytes
returns-clause-bytes g c =
    let read = c.read_full.new.script in
    let room : length read ≡ SCRIPT_BYTES = c.read_full.auto.script ∙ c.told-script in
    subst (λ m. IfOk c.read_full.result (λ n. IfSome (g.R.Read.remaining c.args.from.now) (λ bytes. take n read ≡ take m bytes))) room c.read_full.ensures.bytes
