-- The places passed are counted.
use Rattle.std.proofs.Common.{◌≡◌, ◌≤◌, take}
use Rattle.std.specs.List.{count_by, zip}
use Rattle.compare.proofs.Turns.{differ}
use Rattle.compare.proofs.contents.places_differing.Given as goal

abbrev pub invariant-loop-k : goal.invariant-loop-k
invariant-loop-k l = record {
  few : l.count ≤ l.k;
  counted : l.count ≡ count_by differ (zip (take l.k l.first) (take l.k l.second));
}
