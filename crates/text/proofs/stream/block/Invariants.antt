-- What holds after the bytes passed.
use Rattle.text.proofs.Passed.{Passed}
use Rattle.text.proofs.stream.block.Given as goal

abbrev pub invariant-loop-i : goal.invariant-loop-i
invariant-loop-i l = Passed l.fn.scan l.input l.initial.out l.i l.line l.out l.end
