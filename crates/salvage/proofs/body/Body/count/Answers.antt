-- `count` meets its contract: as many records are whole as their length goes into the bytes.
use Rattle.std.proofs.Common.{◌/◌, length, sym}
use Rattle.records.specs.Fields.{duv_width_of}
use Rattle.records.specs.FilesLaws.{length_records_in}
use Rattle.salvage.proofs.body.Body.count.Goals as goal

pub returns : goal.returns
returns c =
    let s = c.args.self in
    sym (length_records_in (duv_width_of s.record_length) (length s.bytes.now / s.record_length) s.bytes.now)
