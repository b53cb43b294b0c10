-- The search runs only about an admitted reading's nearest entry, which is one of the 24.
use Rattle.std.proofs.Common.{sym, ◌∙◌}
use Rattle.locus.specs.AdmissionLaws.{admitted_near}
use Rattle.vectors.proofs.parts.search.Goals as goal

pub span_about-span-requires : goal.span_about-span-requires
span_about-span-requires c =
    let a = c.point_of-point.result in
    let near = c.in-Ok.near in
    let n = admitted_near a.u a.v near.entry near.distance (sym c.admit.ensures.answers ∙ c.in-Ok.is) in
    (n.first, n.last)
