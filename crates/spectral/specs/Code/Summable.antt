-- What the code asks of samples and a table before it adds up their products.
use Rattle.std.specs.Prelude.{◌≡◌, true, List, ℕ, ◌≤◌, length}
use Rattle.spectral.specs.Samples.{most_samples, sample_limit, table_limit, all_at_most}

-- as many numbers in the table as samples, few enough and none over its limit, so that 64 bits hold the sum of the products
pub record Summable (s t : List ℕ) : Type 0 where
  pub same : length t ≡ length s
  pub few : length s ≤ most_samples
  pub samples : all_at_most sample_limit s ≡ true
  pub table : all_at_most table_limit t ≡ true
