-- Laws of the rounded quotient.
use Rattle.std.specs.Prelude.{◌≡◌, ℕ, zero, suc, ◌+◌, ◌*◌, ◌≤◌, ◌<◌}
use Rattle.std.proofs.Common.{ap, ◌∙◌, zero-lt-suc, mul-pos, mul_left_comm, suc-mul, le_of_suc-le-suc, div-lt_iff_lt-mul, arith, lit<}
use Rattle.std.proofs.Math.Nat.{div-zero, div-eq_of_lt-le}
use Rattle.arith.specs.Rounding.{nearest_quotient}

-- a quotient by 0 is 0
pub nearest_zero : (a : ℕ) → nearest_quotient a 0 ≡ 0
nearest_zero a = div-zero (2 * a + 0)

-- the only k with k − 1 / 2 ≤ a / b < k + 1 / 2
pub nearest_unique : (a b k : ℕ) → 0 < b → 2 * (k * b) ≤ 2 * a + b → 2 * a + b < 2 * (k * b) + 2 * b → nearest_quotient a b ≡ k
nearest_unique a b k pos low high =
    let e : k * (2 * b) ≡ 2 * (k * b) = mul_left_comm k 2 b in
    let f : (k + 1) * (2 * b) ≡ 2 * (k * b) + 2 * b = omega arith in
    div-eq_of_lt-le (2 * b) (omega arith) (omega arith)

-- a bound on the quotient is a bound on the rounded quotient
pub nearest_at_most : (a b q : ℕ) → a ≤ q * b → nearest_quotient a b ≤ q
nearest_at_most a zero q h = rw (nearest_zero a) (omega arith)
nearest_at_most a (suc b) q h =
    let e : suc q * (2 * suc b) ≡ 2 * (q * suc b) + 2 * suc b = suc-mul q (2 * suc b) ∙ ap (λ (x : ℕ). x + 2 * suc b) (mul_left_comm q 2 (suc b)) in
    le_of_suc-le-suc ((div-lt_iff_lt-mul (mul-pos (lit< tt) (zero-lt-suc b))).1 (omega arith))
