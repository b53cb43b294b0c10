-- The entries of the records passed are written.
use Rattle.std.proofs.Common.{◌≡◌}
use Rattle.compare.specs.Code.Puts.{Put}
use Rattle.compare.proofs.Whole.{entries_to}
use Rattle.compare.proofs.pair.Pair.put_both.Given as goal

abbrev pub invariant-loop-i : goal.invariant-loop-i
invariant-loop-i l = record {
  put : Put l.initial.entries.target.now l.entries.target.now l.initial.entries.end l.entries.end (entries_to l.i l.self.first.bytes.now l.self.second.bytes.now);
  same : l.entries.target.ghost_name ≡ l.initial.entries.target.ghost_name;
}
