-- `record` meets its contract: a record of the length in the trailer is that of the file, by the fact of the form.
use Rattle.std.proofs.Common.{ℕ, sym, ap, ◌∙◌}
use Rattle.records.specs.RefusalLaws.{form_readable}
use Rattle.records.specs.Files.{record_at}
use Rattle.records.specs.RoundTripLaws.{readable_record}
use Rattle.compare.proofs.readable.ReadableFile.record.Goals as goal

pub returns : goal.returns
returns c =
    let f = c.args.self in
    let k = form_readable f.bytes.now f.form.record_length f.form.count f.read in
    c.record_at.ensures.record ∙ ap (λ (m : ℕ). record_at m f.bytes.now c.args.i) (sym k.1) ∙ readable_record f.bytes.now c.args.i k.0
