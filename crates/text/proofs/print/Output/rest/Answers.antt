-- Five appends in a row.
use Rattle.std.proofs.Common.{ap, sym, ℤ, SFits, w32, arith, rules}
use Rattle.arith.specs.SignedLaws.{read, back}
use Rattle.text.specs.DecimalLaws.{signed_short}
use Rattle.text.specs.PrintLaws.{field_short}
use Rattle.text.specs.Code.Halves.{rest_text}
use Rattle.text.proofs.Put.{put_then, put_as}
use Rattle.text.proofs.print.Output.rest.Goals as goal

pub field-requires : goal.field-requires
field-requires c = omega (arith, signed_short (read w32 c.args.answer.duv))

pub byte-requires-2 : goal.byte-requires-2
byte-requires-2 c = omega (arith, signed_short (read w32 c.args.answer.duv), field_short c.args.answer.steps)

pub class-requires : goal.class-requires
class-requires c = omega (arith, signed_short (read w32 c.args.answer.duv), field_short c.args.answer.steps)

pub returns : goal.returns
returns c =
    let a = c.args.answer in
    let fits : SFits w32 a.duv = record { sfits = search rules } in
    put_as (ap (λ (z : ℤ). rest_text z a.steps a.class) (sym (back fits)))
    (put_then c.byte.ensures (put_then c.signed.ensures (put_then c.field.ensures (put_then c.byte-2.ensures c.class.ensures))))
