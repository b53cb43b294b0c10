use mathlib.Core.Path.{refl, ◌∙◌}
use native.Mathlib.Omega.{arith}
use Rattle.locus.specs.Locus.{distance_at}
use Rattle.locus.specs.PieceLaws.{span_follows, follows_small}
use Rattle.locus.proofs.Span.distance_at.Goals as goal

pub invariant_of-squared_distance : goal.invariant_of-squared_distance
invariant_of-squared_distance c = let p = c.requires in
    let l = follows_small (span_follows p.0 p.1 p.2) in
    rw c.point_at-u.ensures (record { u_small = omega (arith, l); v_small = omega (arith, l) })

pub returns : goal.returns
unfolding distance_at
returns c = c.squared_distance.ensures ∙ rw c.point_at-u.ensures refl
