-- The line so far, carried over the rest of the block, is that after the block; each turn reads at least one byte, since the output has room for an answer.
use Rattle.std.proofs.Common.{◌≡◌, length}
use Rattle.text.specs.Block.{leaves}
use Rattle.cradlekeel.proofs.answer_block.Given as goal

abbrev pub invariant-loop-rest : goal.invariant-loop-rest
invariant-loop-rest l = leaves l.line l.rest ≡ leaves l.fn.scan l.input

abbrev pub decreases-loop-rest : goal.decreases-loop-rest
decreases-loop-rest l = length l.rest
