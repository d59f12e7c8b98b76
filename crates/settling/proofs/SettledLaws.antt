-- What settling a chunk leaves of a summary: used bytes and the place of the patrol; and all of it where the chunk is ordinary. Assumes nothing.
use mathlib.Core.Path.{◌≡◌, refl}
use mathlib.Core.Bool.{true}
use Prim.Native.Nat.{ℕ}
use Rattle.record.specs.declared.heap.Summary.{Summary}
use Rattle.record.specs.declared.kinds.Kind.{Kind}
use Rattle.record.specs.declared.kinds.Kind.TheVariants.{Start, InUse, Ordinary, Donor, Top, End}
use Rattle.rules.specs.Kinds.{ordinary_kind}
use Rattle.rules.proofs.KindsLaws.{ordinary_kind_lem}
use Rattle.settling.specs.Settling.{settled_m}

-- the summary `after` has what no settling changes from s
pub record KeptBySettling (s after : Summary) : Type 0 where
  pub used : after.used ≡ s.used
  pub patrol : after.patrol ≡ s.patrol

pub settled_keeps : (s : Summary) (k : Kind) (c : ℕ) → KeptBySettling s (settled_m s k c)
settled_keeps s Start c = record { used = refl; patrol = refl }
settled_keeps s InUse c = record { used = refl; patrol = refl }
settled_keeps s Ordinary c = record { used = refl; patrol = refl }
settled_keeps s Donor c = record { used = refl; patrol = refl }
settled_keeps s Top c = record { used = refl; patrol = refl }
settled_keeps s End c = record { used = refl; patrol = refl }

pub settled_ordinary : (s : Summary) (k : Kind) (c : ℕ) → ordinary_kind k ≡ true → settled_m s k c ≡ s
settled_ordinary s k c o = rw (ordinary_kind_lem k o)
