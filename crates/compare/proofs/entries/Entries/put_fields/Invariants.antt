-- The entries of the fields passed are written.
use Rattle.std.proofs.Common.{◌≡◌, take}
use Rattle.compare.specs.Differences.{in_step, of_field}
use Rattle.compare.specs.Code.Puts.{Put}
use Rattle.compare.proofs.entries.Entries.put_fields.Given as goal

abbrev pub invariant-loop-k : goal.invariant-loop-k
invariant-loop-k l = record {
  put : Put l.initial.self.target.now l.self.target.now l.initial.self.end l.self.end (in_step (of_field l.index) 0 (take l.k l.first) (take l.k l.second));
  same : l.self.target.ghost_name ≡ l.initial.self.target.ghost_name;
}
