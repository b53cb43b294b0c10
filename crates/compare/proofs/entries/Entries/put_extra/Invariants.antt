-- The records passed are listed.
use Rattle.std.proofs.Common.{◌≡◌, ◌-◌, ◌≤◌, max}
use Rattle.compare.specs.Differences.{extra}
use Rattle.compare.specs.Code.Puts.{Put}
use Rattle.compare.proofs.entries.Entries.put_extra.Given as goal

abbrev pub invariant-loop-i : goal.invariant-loop-i
invariant-loop-i l = record {
  within : l.i ≤ max l.from l.to;
  put : Put l.initial.self.target.now l.self.target.now l.initial.self.end l.self.end (extra l.field l.from (l.i - l.from));
  same : l.self.target.ghost_name ≡ l.initial.self.target.ghost_name;
}
