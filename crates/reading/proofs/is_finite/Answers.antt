-- `is_finite` meets its contract: the two comparisons with the infinities, by cases of the float.
use lib.Ieee.{neg, div, of_bits}
use Rattle.reading.proofs.Range.{compared_same}
use Rattle.reading.proofs.is_finite.Goals as goal

pub returns : goal.returns
unfolding neg div of_bits
returns c = compared_same c.args.x
