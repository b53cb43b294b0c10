use Rattle.std.proofs.Common.{◌+◌, refl, ◌∙◌, w32, arith}
use Rattle.std.proofs.lemmas.Int.{to_z-of_z}
use Rattle.records.specs.Layout.{width_of}
use Rattle.records.proofs.Numbers.{field_2, field_4, byte_field, front_is}
use Rattle.records.proofs.fields.record_from.Goals as goal

pub returns : goal.returns
returns c =
    let l = c.args.bytes.now in
    let at = c.args.at in
    let w = width_of c.args.layout in
    front_is l w at _ _ _ _ _ _ _ _ _ (to_z-of_z w32 c.duv_at.result (record { sfits = c.duv_at.type_inv }) ∙ c.duv_at.ensures)
    (field_4 at l c.from_le_bytes.ensures c.bytes_at.ensures (omega arith))
    (field_4 (at + 4) l c.from_le_bytes-2.ensures c.bytes_at-2.ensures (omega arith))
    (field_2 (at + 8) l c.from_le_bytes-3.ensures c.bytes_at-3.ensures (omega arith))
    (field_2 (at + 10) l c.from_le_bytes-4.ensures c.bytes_at-4.ensures (omega arith))
    (field_2 (at + 12) l c.from_le_bytes-5.ensures c.bytes_at-5.ensures (omega arith))
    refl
    (byte_field (at + 14 + w) _ l (omega (arith, c.record_length.ensures)) (omega arith))
    (byte_field (at + 15 + w) _ l (omega (arith, c.record_length.ensures)) (omega arith))
