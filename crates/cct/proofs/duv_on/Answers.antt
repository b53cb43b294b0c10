-- `duv_on` may sign the root: it is below 2 ^ 31.
use Rattle.std.proofs.Common.{arith}
use Rattle.arith.specs.RootLaws.{root_below}
use Rattle.cct.proofs.duv_on.Goals as goal

pub signed_by-requires : goal.signed_by-requires
signed_by-requires c = rw c.integer_root-root.ensures (root_below c.args.found.distance 2147483648 (omega (arith, c.requires.small)) c.requires.small)
