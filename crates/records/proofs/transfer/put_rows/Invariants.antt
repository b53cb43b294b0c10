use Rattle.std.proofs.Common.{◌≡◌, length}
use Rattle.std.proofs.lemmas.List.Edits.{sets}
use Rattle.records.specs.Fields.{duv_width}
use Rattle.records.specs.Files.{records_bytes}
use Rattle.records.specs.FilesLaws.{AllNarrow}
use Rattle.records.specs.Columns.{rows}
use Rattle.records.specs.Slices.{held}
use Rattle.records.proofs.transfer.put_rows.Given as goal

abbrev pub invariant-loop-i : goal.invariant-loop-i
invariant-loop-i l =
    (length l.out ≡ length l.initial.out) × (l.out ≡ sets l.initial.out 0 (records_bytes duv_width (rows (held l.columns) l.i))) × AllNarrow duv_width (rows (held l.columns) l.i)
