-- Four appends in a row.
use Rattle.std.proofs.Common.{arith}
use Rattle.text.specs.PrintLaws.{field_short}
use Rattle.text.proofs.Put.{put_then}
use Rattle.text.proofs.print.Output.places.Goals as goal

pub field-requires-3 : goal.field-requires-3
field-requires-3 c = omega (arith, field_short c.args.answer.place, field_short c.args.answer.low)

pub returns : goal.returns
returns c = put_then c.byte.ensures (put_then c.field.ensures (put_then c.field-2.ensures c.field-3.ensures))
