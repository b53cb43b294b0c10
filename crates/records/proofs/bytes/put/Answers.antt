use Rattle.std.proofs.Common.{rules}
use Rattle.records.proofs.Numbers.{part_put}
use Rattle.records.proofs.bytes.put.Goals as goal

pub returns : goal.returns
returns g c = part_put c.args.at g.row.N c.args.out.now _ c.args.bytes (search rules) (search rules) c.requires
