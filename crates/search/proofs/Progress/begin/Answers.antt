use mathlib.Core.Path.{refl, sym, ◌∙◌}
use native.Mathlib.Omega.{arith}
use Rattle.locus.specs.Locus.{distance_at}
use Rattle.locus.specs.LocusLaws.{entry_distance_lem}
use Rattle.search.proofs.Moves.{begun}
use Rattle.search.proofs.Progress.begin.Goals as goal

pub returns : goal.returns
returns c =
    let a = c.args in
    let h = c.requires in
    let n = h.admitted in
    begun (distance_at a.reading.u a.reading.v) a.near.entry _ n.first n.last h.from (omega arith) (omega arith) refl refl
    (n.distance ∙ sym (entry_distance_lem a.reading.u a.reading.v a.near.entry n.first n.last))
    c.distance_at-left.ensures c.distance_at-right.ensures
    c.choose-best.ensures c.choose-least.ensures c.choose.ensures c.choose-2.ensures
