use Rattle.locus.proofs.Admitting.{first_half, second_half}
use Rattle.locus.proofs.Locus.nearest_entry.Goals as goal

pub loop-n-preserved : goal.loop-n-preserved
loop-n-preserved c = let p = c.args.reading in
    let l = c.loop-n in
    (first_half p.u p.v l.n l.invariant.0 c.near_at.ensures c.nearer-low.ensures, second_half p.u p.v l.n l.high l.invariant.1 c.near_at-in-loop-n.ensures c.nearer-high.ensures)
