use mathlib.Core.Path.{◌≡◌}
use Rattle.table.specs.Code.Scan.{nearest_of}
use Rattle.table.proofs.ReadyTable.nearest.Given as goal

abbrev pub invariant-loop-k : goal.invariant-loop-k
invariant-loop-k l = l.kept ≡ nearest_of l.fn.p.u l.fn.p.v l.near l.k
