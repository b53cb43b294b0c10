-- `is_in_range` meets its contract: on each side of zero the comparison is the definition's test, since product and bound are exact.
use Rattle.std.proofs.Common.{pos, arith}
use lib.Ieee.{of_bits, neg, of_int, binary32}
use Rattle.reading.proofs.Range.{below_zero_same, from_zero_same}
use Rattle.reading.proofs.Product.{whole_float}
use Rattle.reading.proofs.Quantity.is_in_range.Goals as goal

pub returns-then-x : goal.returns-then-x
unfolding of_bits neg
returns-then-x c = cc (below_zero_same c.args.self c.args.x c.exact_product.result c.exact_product.ensures c.if-x.true)

pub returns-else-x : goal.returns-else-x
unfolding of_bits
returns-else-x c =
    let a = c.args in
    cc (from_zero_same a.self a.x (of_int binary32 (pos a.self.bound)) c.requires.bound_nonzero (whole_float binary32 a.self.bound (omega arith)) c.if-x.false)
