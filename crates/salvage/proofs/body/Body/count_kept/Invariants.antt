-- Those that match of the records passed are counted.
use Rattle.std.proofs.Common.{◌≡◌, length, take}
use Rattle.records.specs.Files.{whole_records}
use Rattle.salvage.specs.Salvaging.{kept_of}
use Rattle.salvage.proofs.body.Body.count_kept.Given as goal

abbrev pub invariant-loop-i : goal.invariant-loop-i
invariant-loop-i l = l.kept ≡ length (kept_of l.self.edges.now (take l.i (whole_records l.self.record_length l.self.bytes.now)))
