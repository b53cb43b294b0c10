use Rattle.std.proofs.Common.{sym}
use Rattle.records.proofs.Forms.{refused_record, formed_record}
use Rattle.records.proofs.files.file_record.Goals as goal

pub returns-in-Err-clause-record : goal.returns-in-Err-clause-record
returns-in-Err-clause-record c = refused_record c.args.file.now c.args.i _ (sym c.in-Err.ensures.form)

pub returns-in-Ok-clause-record : goal.returns-in-Ok-clause-record
returns-in-Ok-clause-record c = formed_record c.args.file.now c.args.i _ _ _ (sym c.in-Ok.ensures.form) c.record_at.ensures.«record»
