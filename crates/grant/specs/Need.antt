-- The need as the code has it, for every 32-bit number. It mirrors the code.
use Rattle.std.specs.Prelude.{ℕ, cond, nat_le}
use Rattle.rules.specs.Kinds.{overhead}
use Rattle.rules.specs.Serve.{need, most_bytes}

unfoldable pub need_m : ℕ → ℕ
need_m z = cond (nat_le z most_bytes) (need overhead z) 0
