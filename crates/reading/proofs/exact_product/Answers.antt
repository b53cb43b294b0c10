-- `exact_product` meets its contract: the product's digits fit an f64, so that nothing is rounded.
use Rattle.std.proofs.Common.{sym, ◌∙◌}
use Rattle.reading.proofs.Range.{is_finite_same}
use Rattle.reading.proofs.Product.{widened, product_exact}
use Rattle.reading.proofs.exact_product.Goals as goal

pub float_to_float-result : goal.float_to_float-result
float_to_float-result c = widened c.args.x c.type_inv.x (sym (is_finite_same c.args.x) ∙ c.requires.x_value)

pub returns : goal.returns
returns c = product_exact c.args.x c.args.n (rw c.well_formed.0.1 tt) (sym (is_finite_same c.args.x) ∙ c.requires.x_value) c.requires.n_bound
