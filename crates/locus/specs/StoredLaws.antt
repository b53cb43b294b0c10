-- The stored tables keep the bounds by which the code's sums and products fit: two tests computed over each whole table.
use Rattle.std.specs.Prelude.{◌≡◌, refl, Bool, true, ◌&&◌, List, ℕ, ◌+◌, ◌-◌, ◌≤◌, ◌<◌, leb, get_or, take}
use native.Mathlib.Omega.{arith}
use Rattle.std.proofs.Math.ListN.{length, length-take}
use Rattle.std.proofs.Common.{get_or-take}
use borrow.Author.Tests.{leb-true}
use Rattle.arith.specs.Units.{micro}
use Rattle.arith.specs.Every.{every, every_entry}
use Rattle.arith.specs.EveryLaws.{every_at, every_entry_lem}
use Rattle.arith.specs.TestLaws.{and_both}
use Rattle.locus.specs.Stored.{stored_u, stored_v, table_u, table_v, entry_in}
use Rattle.locus.specs.Code.Fits.{Steady}

-- the bounds of `Steady` as tests
abbrev range_test : ℕ → Bool
range_test x = leb 100000 x && leb x micro

-- the test of entries i and i + 1 at k = i − 1: x is entry i, and the table has entry i + 1 after it
abbrev near_test : List ℕ → ℕ → ℕ → Bool
near_test table k x = leb x (get_or table (k + 1) 0 + 10000) && leb (get_or table (k + 1) 0) (x + 10000)

module _ (table : List ℕ) (count : length table ≡ 24) (ranges : every range_test table ≡ true) (all_Near : every_entry (near_test table) (take 23 table) ≡ true) where
  range_at : (i : ℕ) → i ≤ 24 → (100000 ≤ entry_in table i) × (entry_in table i ≤ micro)
  unfolding entry_in
  range_at i h =
      let t = and_both (leb 100000 (get_or table (i - 1) 0)) _ (every_at range_test table 0 ranges (i - 1) (omega arith)) in
      (leb-true _ _ t.0, leb-true _ _ t.1)

  near_at : (i : ℕ) → 1 ≤ i → i ≤ 23 → (entry_in table i ≤ entry_in table (i + 1) + 10000) × (entry_in table (i + 1) ≤ entry_in table i + 10000)
  unfolding entry_in
  near_at i low high =
      let short : i - 1 < length (take 23 table) = simp length-take (omega arith) in
      let here : i - 1 + 1 ≡ i = omega arith in
      let next : i + 1 - 1 ≡ i = omega arith in
      let t = rw (get_or-take 23 table (i - 1) 0 (omega arith), here) at (every_entry_lem (near_test table) (take 23 table) 0 all_Near (i - 1) short) in
      let b = and_both (leb (get_or table (i - 1) 0) (get_or table i 0 + 10000)) _ t in
      rw next (leb-true _ _ b.0, leb-true _ _ b.1)

  steady : Steady table
  steady = record { large = λ i h. (range_at i h).0; small = λ i h. (range_at i h).1; near = near_at }

pub steady_u : Steady table_u
unfolding table_u stored_u
steady_u = steady table_u refl refl refl

pub steady_v : Steady table_v
unfolding table_v stored_v
steady_v = steady table_v refl refl refl
