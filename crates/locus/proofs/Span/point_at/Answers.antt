use Rattle.locus.specs.PieceLaws.{span_follows}
use Rattle.locus.proofs.Curves.{near_read}
use Rattle.locus.proofs.Span.point_at.Goals as goal

pub at-u-requires : goal.at-u-requires
at-u-requires c =
    let f = span_follows c.requires.0 c.requires.1 c.requires.2 in
    (f.u.fits, rw (near_read c.signed_difference-t.ensures f.near) f.near)

pub at-v-requires : goal.at-v-requires
at-v-requires c =
    let f = span_follows c.requires.0 c.requires.1 c.requires.2 in
    (f.v.fits, rw (near_read c.signed_difference-t.ensures f.near) f.near)
