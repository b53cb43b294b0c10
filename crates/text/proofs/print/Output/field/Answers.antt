-- Two appends in a row.
use Rattle.text.proofs.Put.{put_then}
use Rattle.text.proofs.print.Output.field.Goals as goal

pub returns : goal.returns
returns c = put_then c.byte.ensures c.number.ensures
