-- The fields of the records passed are counted.
use Rattle.std.proofs.Common.{◌≡◌, ◌*◌, ◌≤◌, length}
use Rattle.compare.specs.Differences.{field_count}
use Rattle.compare.proofs.Whole.{entries_to}
use Rattle.compare.proofs.pair.Pair.count_differing.Given as goal

abbrev pub invariant-loop-i : goal.invariant-loop-i
invariant-loop-i l = record {
  few : l.count ≤ field_count * l.i;
  counted : l.count ≡ length (entries_to l.i l.self.first.bytes.now l.self.second.bytes.now);
}
