use Rattle.locus.proofs.Curves.{curve_from}
use Rattle.locus.proofs.curve_through.Goals as goal

pub returns : goal.returns
returns c = let s = c in
    curve_from s.args.x s.args.y s.args.z s.requires.0 s.requires.1 s.requires.2 c.signed_difference-b.ensures c.signed_difference-c.ensures s.ranges.left s.ranges.right
