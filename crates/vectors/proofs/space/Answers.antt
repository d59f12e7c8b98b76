-- `space` has as many bytes as its type says.
use Rattle.std.proofs.Common.{◌≡◌, ℕ, length, replicate, sym}
use lib.ListN.{length-replicate}
use Rattle.vectors.specs.declared.TheConstants.{SCRIPT_BYTES}
use Rattle.vectors.proofs.space.Goals as goal

-- for any number, since this one is too large to count up to
as_many : (n x : ℕ) → n ≡ length (replicate n x)
as_many n x = sym (length-replicate n x)

pub returns : goal.returns
returns c = as_many SCRIPT_BYTES 0
