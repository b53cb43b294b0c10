-- `count` meets its contract: the count in the trailer is that of the records, by the fact of the form.
use Rattle.std.proofs.Common.{sym, ◌∙◌, arith}
use Rattle.records.specs.Files.{record_length_in}
use Rattle.records.specs.RefusalLaws.{most_read_lem, form_readable}
use Rattle.records.specs.RoundTripLaws.{length_records}
use Rattle.compare.proofs.readable.ReadableFile.count.Goals as goal

pub returns-clause-count : goal.returns-clause-count
returns-clause-count c =
    let f = c.args.self in
    let k = form_readable f.bytes.now f.form.record_length f.form.count f.read in
    sym (length_records f.bytes.now k.0 ∙ k.2)

pub returns-clause-few : goal.returns-clause-few
returns-clause-few c =
    let f = c.args.self in
    let k = form_readable f.bytes.now f.form.record_length f.form.count f.read in
    omega (arith, k.0.few, k.2, most_read_lem (record_length_in f.bytes.now))
