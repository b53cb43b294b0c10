-- `record` meets its contract: record i of the bytes is element i of the whole records.
use Rattle.std.proofs.Common.{◌∙◌}
use Rattle.records.specs.RefusalLaws.{true_known}
use Rattle.records.specs.WholeLaws.{record_at_whole}
use Rattle.salvage.proofs.body.Body.record.Goals as goal

pub returns : goal.returns
returns c =
    let s = c.args.self in
    c.record_at.ensures.record ∙ record_at_whole s.record_length s.bytes.now c.args.i (true_known s.record_length s.known)
