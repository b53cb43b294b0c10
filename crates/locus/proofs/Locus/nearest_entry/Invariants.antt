use mathlib.Core.Path.{◌≡◌}
use Prim.Native.Nat.{◌+◌}
use Rattle.locus.specs.Code.NearestSoFar.{nearer_of, nearest_of}
use Rattle.locus.proofs.Locus.nearest_entry.Given as goal

abbrev pub invariant-loop-n : goal.invariant-loop-n
invariant-loop-n l = (l.low ≡ nearest_of l.reading.u l.reading.v l.n) × (nearer_of (nearest_of l.reading.u l.reading.v 11) l.high ≡ nearest_of l.reading.u l.reading.v (l.n + 12))
