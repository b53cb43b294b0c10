use Rattle.std.proofs.Common.{◌≡◌}
use Rattle.records.specs.Layout.{width_of}
use Rattle.records.specs.Files.{records_in}
use Rattle.records.specs.Columns.{filled}
use Rattle.records.specs.Slices.{held_mut, SameSlices}
use Rattle.records.proofs.transfer.fill_rows.Given as goal

abbrev pub invariant-loop-i : goal.invariant-loop-i
invariant-loop-i l = (held_mut l.columns ≡ filled (records_in (width_of l.layout) l.i l.file) (held_mut l.initial.columns)) × SameSlices l.columns l.initial.columns
