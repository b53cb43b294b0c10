-- `behind` is the sign of document 01's dot product, taken with whole numbers that may be negative (refusals 6 and 7).
use Rattle.std.specs.Prelude.{◌≡◌, ℕ, ◌+◌, ◌*◌, pos, ◌+ℤ◌, ◌-ℤ◌, ◌*ℤ◌}
use Rattle.std.proofs.Common.{sym, arith}
use Rattle.std.specs.Int.Signed.{lt_z}
use Rattle.arith.specs.IntegerLaws.{is_gap, is_sum, is_product, below_zero}
use Rattle.locus.specs.Stored.{entry_u, entry_v}
use Rattle.locus.specs.Admission.{dot, behind}

-- (reading − entry e)·(entry f − entry e) < 0
pub behind_dot : (u v e f : ℕ) → behind u v e f ≡ lt_z ((pos u -ℤ pos (entry_u e)) *ℤ (pos (entry_u f) -ℤ pos (entry_u e)) +ℤ (pos v -ℤ pos (entry_v e)) *ℤ (pos (entry_v f) -ℤ pos (entry_v e))) (pos 0)
behind_dot u v e f =
    let a : ℕ = entry_u e in
    let b : ℕ = entry_v e in
    let x : ℕ = entry_u f in
    let y : ℕ = entry_v f in
    let p = is_product (is_gap u a) (is_gap x a) in
    let q = is_product (is_gap v b) (is_gap y b) in
    let left : dot u v x y + dot a b a b ≡ (u * x + a * a) + (v * y + b * b) = omega arith in
    let right : dot u v a b + dot a b x y ≡ (u * a + a * x) + (v * b + b * y) = omega arith in
    rw (left, right) (sym (below_zero (is_sum p q)))
