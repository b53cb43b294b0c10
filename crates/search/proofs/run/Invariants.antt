use Rattle.locus.specs.Locus.{distance_at}
use Rattle.search.specs.Code.Progress.{Tracks}
use Rattle.search.proofs.run.Given as goal

abbrev pub invariant-loop-j : goal.invariant-loop-j
invariant-loop-j l = Tracks (distance_at l.reading.u l.reading.v) l.fn.near.entry l.j l.s
