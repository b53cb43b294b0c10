use mathlib.Core.Path.{◌≡◌}
use Rattle.classes.specs.Classes.{holds_all, last_passing}
use Rattle.classes.proofs.class_of.Given as goal

abbrev pub invariant-loop-k : goal.invariant-loop-k
invariant-loop-k l = l.named ≡ last_passing (holds_all l.edges l.low l.high l.best) l.k
