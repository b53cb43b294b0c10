-- What the functions that make a curve and follow it ask for, so that their sums and products fit 64 bits.
use Rattle.std.specs.Prelude.{List, ℕ, ◌+◌, ◌≤◌, T, nat_abs}
use Rattle.std.specs.Int.Signed.{non_neg}
use Rattle.arith.specs.Units.{micro}
use Rattle.locus.specs.Stored.{entry_in}
use Rattle.locus.specs.declared.Curve.{Curve}

-- every coordinate of a table is at most 1
abbrev pub Small : List ℕ → Type 0
Small table = (i : ℕ) → i ≤ 24 → entry_in table i ≤ micro

-- every coordinate is from 0.1 to 1, and neighbours are at most 0.01 apart
pub record Steady (table : List ℕ) : Type 0 where
  pub large : (i : ℕ) → i ≤ 24 → 100000 ≤ entry_in table i
  pub small : Small table
  pub near : (i : ℕ) → 1 ≤ i → i ≤ 23 → (entry_in table i ≤ entry_in table (i + 1) + 10000) × (entry_in table (i + 1) ≤ entry_in table i + 10000)

-- the numbers of a curve are small, and its first is so large that what it gives near its middle entry is not below 0
pub record CurveFits (curve : Curve) : Type 0 where
  pub a_nonneg : T (non_neg curve.a)
  pub a_large : 10000000000000000 ≤ nat_abs curve.a
  pub a_small : nat_abs curve.a ≤ 200000000000000000
  pub b : nat_abs curve.b ≤ 400623360000
  pub c : nat_abs curve.c ≤ 155040000
  pub left : nat_abs curve.left ≤ 40000
  pub right : nat_abs curve.right ≤ 40000
