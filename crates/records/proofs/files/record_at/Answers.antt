use Rattle.std.proofs.Common.{arith}
use Rattle.records.proofs.Forms.{at_unknown, at_whole, at_none}
use Rattle.records.proofs.files.record_at.Goals as goal

pub returns-in-Ok-clause-record : goal.returns-in-Ok-clause-record
returns-in-Ok-clause-record c =
    at_whole c.args.record_length c.args.bytes.now c.args.i c.in-Ok.layout _ c.in-Ok.ensures (omega (arith, c.whole_in.ensures)) c.record_from.ensures

pub returns-in_default-clause-record : goal.returns-in_default-clause-record
returns-in_default-clause-record c =
    at_none c.args.record_length c.args.bytes.now c.args.i c.in-Ok.layout c.in-Ok.ensures (omega (arith, c.whole_in.ensures))

pub returns-in_default-2-clause-record : goal.returns-in_default-2-clause-record
returns-in_default-2-clause-record c = at_unknown c.args.record_length c.args.bytes.now c.args.i c.in_default.ensures
