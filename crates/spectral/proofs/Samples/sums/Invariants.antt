-- `sums` meets its contract: each sum is the definition's of the samples passed.
use Rattle.std.proofs.Common.{◌≡◌, take}
use Rattle.spectral.specs.Samples.{sum_of_products}
use Rattle.spectral.proofs.Samples.sums.Given as goal

abbrev pub invariant-loop-k : goal.invariant-loop-k
invariant-loop-k l = record {
  x : l.sums.x ≡ sum_of_products (take l.k l.self.samples.now) (take l.k l.self.x_bar.now);
  y : l.sums.y ≡ sum_of_products (take l.k l.self.samples.now) (take l.k l.self.y_bar.now);
  z : l.sums.z ≡ sum_of_products (take l.k l.self.samples.now) (take l.k l.self.z_bar.now);
}
