use native.Mathlib.Omega.{arith}
use Rattle.locus.specs.StoredLaws.{steady_u, steady_v}
use Rattle.locus.proofs.Locus.entry.Goals as goal

pub invariant_of-result : goal.invariant_of-result
invariant_of-result c =
    let i = c.args.i in
    let s = c.args.self.now in
    record {
      u_small = omega (arith, c.coordinate.ensures, rw (← s.u_stored) at (steady_u.small i c.requires.1));
      v_small = omega (arith, c.coordinate-2.ensures, rw (← s.v_stored) at (steady_v.small i c.requires.1));
    }
