-- `try_coarse` may look for the nearest ready place: some ready point is within the distance of an admitted reading's entry.
use Rattle.std.proofs.Common.{sym, rules}
use Rattle.locus.specs.AdmissionLaws.{admitted_near}
use Rattle.table.specs.ScanLaws.{admitted_within}
use Rattle.nearest.proofs.try_coarse.Goals as goal

pub nearest-requires : goal.nearest-requires
nearest-requires c =
    let p = c.in_ok-p.p in
    let near = c.in_ok-near.near in
    let e = sym c.in_ok-near.ensures.answers in
    let n = admitted_near p.u p.v near.entry near.distance e in
    let w = admitted_within p.u p.v near.entry near.distance e in
    search rules
