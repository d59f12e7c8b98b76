-- The kind of a chunk by a summary of the record, and where a chunk ends, as the code finds them. They mirror the code;
-- the rules say what the chain is.
use Rattle.std.specs.Prelude.{cond, ◌&&◌, ℕ, ltb}
use Rattle.record.specs.declared.heap.Summary.{Summary}
use Rattle.record.specs.declared.kinds.Kind.{Kind}
use Rattle.rules.specs.Kinds.{kind_at}
use Rattle.rules.specs.Shape.{Entry}

-- the rules' kind, whose donor and top are the summary's
abbrev pub kind_m : Summary → Entry → Kind
kind_m s e = kind_at s.bytes s.donor.0 s.top.0 e

unfoldable pub end_m : ℕ → ℕ → ℕ → ℕ
end_m bytes c next = cond (ltb c next && ltb next bytes) next bytes
