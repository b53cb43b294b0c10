-- The records passed are sorted.
use Rattle.std.proofs.Common.{◌≡◌, take}
use Rattle.records.specs.Files.{whole_records}
use Rattle.salvage.specs.Code.Sorting.{Sorted}
use Rattle.salvage.proofs.body.Body.sort.Given as goal

abbrev pub invariant-loop-i : goal.invariant-loop-i
invariant-loop-i l = record {
  sorted : Sorted l.self.edges.now (take l.i (whole_records l.self.record_length l.self.bytes.now)) l.initial.targets.file.now l.targets.file.now l.initial.targets.list.now l.targets.list.now l.targets.kept;
  same : (l.targets.file.ghost_name ≡ l.initial.targets.file.ghost_name) × (l.targets.list.ghost_name ≡ l.initial.targets.list.ghost_name);
}
