use Rattle.std.proofs.Common.{ℤ, rules, ap, ◌+◌, ◌∙◌, arith, w32, FitsSigned}
use Rattle.std.proofs.lemmas.Int.{to_z-of_z}
use mir.Val.{to_z, of_z}
use Rattle.records.specs.Bytes.{bytes_of, as_unsigned}
use Rattle.std.proofs.lemmas.List.Edits.{sets}
use Rattle.records.proofs.Numbers.{bytes_2, bytes_4, signed_bytes}
use Rattle.records.proofs.Stores.{record_put}
use Rattle.records.proofs.fields.put_record.Goals as goal

pub returns-clause-bytes : goal.returns-clause-bytes
returns-clause-bytes c =
    let at = c.args.at in
    let fits : FitsSigned w32 c.args.r.duv = search rules in
    record_put c.args.out.now c.args.r at
    (c.put.ensures ∙ ap (sets c.args.out.now at) (c.to_le_bytes.ensures ∙ bytes_4 c.args.r.u))
    (c.put-2.ensures ∙ ap (sets _ (at + 4)) (c.to_le_bytes-2.ensures ∙ bytes_4 c.args.r.v))
    (c.put-3.ensures ∙ ap (sets _ (at + 8)) (c.to_le_bytes-3.ensures ∙ bytes_2 c.args.r.place))
    (c.put-4.ensures ∙ ap (sets _ (at + 10)) (c.to_le_bytes-4.ensures ∙ bytes_2 c.args.r.low))
    (c.put-5.ensures ∙ ap (sets _ (at + 12)) (c.to_le_bytes-5.ensures ∙ bytes_2 c.args.r.high))
    (c.put-6.ensures ∙ ap (sets _ (at + 14)) (c.to_le_bytes-6.ensures ∙ signed_bytes (to_z w32 (of_z w32 c.args.r.duv)) ∙ ap (λ (z : ℤ). bytes_of 4 (as_unsigned 4 z)) (to_z-of_z w32 c.args.r.duv fits)))
    (omega arith) (omega arith)
    c.put-7.ensures
