use Rattle.std.proofs.Common.{◌+◌, ◌-◌, length, arith}
use Rattle.records.proofs.Numbers.{field_2, field_4}
use Rattle.records.proofs.Forms.{form_long}
use Rattle.records.proofs.files.check_form.Goals as goal

pub returns-clause-form : goal.returns-clause-form
returns-clause-form c =
    let l = c.args.file.now in
    let at = length l - 8 in
    form_long l _ _ _ _ c.if-n-lt-TRAILER_LENGTH.false
    (field_2 at l c.from_le_bytes-record_length.ensures c.bytes_at.ensures (omega arith))
    (field_2 (at + 2) l c.from_le_bytes-count.ensures c.bytes_at-2.ensures (omega arith))
    (field_4 (at + 4) l c.from_le_bytes-back.ensures c.bytes_at-3.ensures (omega arith))
    c.trailer_form.ensures
