-- `to_whole` meets its contract: the exact product is cut to a whole number of halves, and half of one more is the definition's.
use Rattle.std.proofs.Common.{◌∙◌, arith}
use Rattle.reading.specs.WholeLaws.{range_finite}
use Rattle.reading.proofs.Range.{is_finite_same}
use Rattle.reading.proofs.Halves.{halves}
use Rattle.reading.proofs.Quantity.to_whole.Goals as goal

pub exact_product-requires-clause-x_value : goal.exact_product-requires-clause-x_value
exact_product-requires-clause-x_value c = is_finite_same c.args.x ∙ range_finite c.args.self c.args.x c.requires.x_value

pub truncating_f64_to_u64-halves-requires-clause-lower_bound : goal.truncating_f64_to_u64-halves-requires-clause-lower_bound
truncating_f64_to_u64-halves-requires-clause-lower_bound c = (halves _ c.requires.whole_bound _ _ c.requires.x_value c.exact_product.ensures).above

pub truncating_f64_to_u64-halves-requires-clause-upper_bound : goal.truncating_f64_to_u64-halves-requires-clause-upper_bound
truncating_f64_to_u64-halves-requires-clause-upper_bound c = (halves _ c.requires.whole_bound _ _ c.requires.x_value c.exact_product.ensures).below

pub overflow_add-result : goal.overflow_add-result
overflow_add-result c = omega (arith, (halves _ c.requires.whole_bound _ _ c.requires.x_value c.exact_product.ensures).small)

pub overflow_cast-result : goal.overflow_cast-result
overflow_cast-result c = omega (arith, (halves _ c.requires.whole_bound _ _ c.requires.x_value c.exact_product.ensures).small)

pub returns-clause-whole : goal.returns-clause-whole
returns-clause-whole c = cc (halves _ c.requires.whole_bound _ _ c.requires.x_value c.exact_product.ensures).whole

pub returns-clause-most : goal.returns-clause-most
returns-clause-most c = omega (arith, (halves _ c.requires.whole_bound _ _ c.requires.x_value c.exact_product.ensures).small)
