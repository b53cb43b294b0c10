-- `try_answer` may ask for the span about the entry of an admitted reading: it is one of the 24.
use Rattle.std.proofs.Common.{sym}
use Rattle.locus.specs.AdmissionLaws.{admitted_near}
use Rattle.cct.proofs.try_answer.Goals as goal

pub span_about-span-requires : goal.span_about-span-requires
span_about-span-requires c =
    let p = c.in_ok-p.p in
    let near = c.in_ok-near.near in
    let n = admitted_near p.u p.v near.entry near.distance (sym c.in_ok-near.ensures.answers) in
    (n.first, n.last)
