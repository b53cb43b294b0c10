-- The exact product of a float and twice its scale, cut to a whole number, and half of one more: the definition's whole number.
use Rattle.std.proofs.Common.{◌≡◌, ℕ, suc, ◌+◌, ◌*◌, ◌/◌, ◌^◌, ◌<◌, ◌≤◌, Bool, true, false, T, ℤ, pos, sym, refl, ap, ◌∙◌, le_trans, le_of_eq, le_refl, le_of_suc-le-suc, lt_of_le_of_lt, le_of_lt, mul-le-mul_right, mul_assoc, mul_comm, div-lt_iff_lt-mul, lt_of_mul-lt-mul_right, mul-lt-mul_of_pos_right, mul_right_comm, mul_left_comm, arith, lt→ltb, ltb-true}
use mathlib.Core.Bool.{false≢true}
use native.Mathlib.Nat.{add-div_right, div-div-eq-div-mul, div-eq_of_lt}
use lib.Ieee.{Float, nan, inf, fin, up, down, lt, to_unsigned}
use lib.Ieee.Fits.{down_pos}
use lib.Ieee.Exact.{HasValue}
use lib.Ieee.Nearest.{div_same}
use Rattle.arith.specs.Rounding.{nearest_quotient}
use Rattle.reading.specs.Whole.{in_range, to_whole}
use Rattle.reading.specs.Code.Product.{IsProduct}
use Rattle.reading.specs.declared.Quantity.{Quantity}

-- what the code needs of the product p of x and 2 * scale
pub record Halves (q : Quantity) (x p : Float) : Type 0 where
  pub above : T (lt (fin true 1 (pos 0)) p)
  pub below : T (lt p (fin false 1 (pos 64)))
  pub small : to_unsigned 64 p ≤ 2 * (q.bound * q.scale)
  pub whole : (to_unsigned 64 p + 1) / 2 ≡ to_whole q x

-- A float of the value ±A / B, above -1 and below 2 ^ 64, cut to a whole number
module _ (s : Bool) (A B : ℕ) (some : 0 < B) (above : s ≡ true → A < B) (below : A < 2 ^ 64 * B) where
  under_one : (n : ℕ) (d : ℤ) → true ≡ s → n * up d * B ≡ A * down d → n * up d < down d
  under_one n d e v = lt_of_mul-lt-mul_right B (rw v (rw (mul_comm (down d) B) (mul-lt-mul_of_pos_right (above (sym e)) (down_pos d))))

  under_top : (n : ℕ) (d : ℤ) → n * up d * B ≡ A * down d → n * up d < 2 ^ 64 * down d
  under_top n d v = lt_of_mul-lt-mul_right B (rw v (rw (mul_right_comm (2 ^ 64) (down d) B) (mul-lt-mul_of_pos_right below (down_pos d))))

  cut_above : (p : Float) → HasValue p s A B → T (lt (fin true 1 (pos 0)) p)
  unfolding lt
  cut_above nan v = absurd v
  cut_above (inf t) v = absurd v
  cut_above (fin true n d) v = let q = under_one n d v.0 v.1 in lt→ltb (n * up d * 1) (1 * down d) (omega arith)
  cut_above (fin false n d) v = let q = down_pos d in lt→ltb 0 (1 * down d + n * up d * 1) (omega arith)

  cut_below : (p : Float) → HasValue p s A B → T (lt p (fin false 1 (pos 64)))
  unfolding lt
  cut_below nan v = absurd v
  cut_below (inf t) v = absurd v
  cut_below (fin true n d) v = let q = down_pos d in lt→ltb 0 (n * up d * 1 + 2 ^ 64 * down d) (omega arith)
  cut_below (fin false n d) v = let q = under_top n d v.1 in lt→ltb (n * up d * 1) (2 ^ 64 * down d) (omega arith)

  cut_is : (p : Float) → HasValue p s A B → to_unsigned 64 p ≡ A / B
  unfolding to_unsigned
  cut_is nan v = absurd v
  cut_is (inf t) v = absurd v
  cut_is (fin true n d) v = sym (div-eq_of_lt (above (sym v.0)))
  cut_is (fin false n d) v =
      let q : n * up d / down d ≡ A / B = div_same (n * up d) (down d) A B (down_pos d) some v.1 in
      let r : A / B < 2 ^ 64 = (div-lt_iff_lt-mul some).1 below in
      omega arith

  -- what the code needs, from two facts of the quotient
  cut : (q : Quantity) (x p : Float) → HasValue p s A B → A / B ≤ 2 * (q.bound * q.scale) → (A / B + 1) / 2 ≡ to_whole q x → Halves q x p
  cut q x p v few same = let is = cut_is p v in record { above = cut_above p v; below = cut_below p v; small = rw is few; whole = rw is same }

-- floor((floor(2 * a / b) + 1) / 2) is floor(a / b + 1 / 2)
rounded : (a S b : ℕ) → 0 < b → (a * (2 * S) / b + 1) / 2 ≡ nearest_quotient (a * S) b
rounded a S b B =
    ap (λ (x : ℕ). x / 2) (sym (add-div_right (a * (2 * S)) B))
    ∙ div-div-eq-div-mul (a * (2 * S) + b) b 2
    ∙ ap (λ (x : ℕ). (x + b) / (b * 2)) (mul_left_comm a 2 S)
    ∙ ap (λ (x : ℕ). (2 * (a * S) + b) / x) (mul_comm b 2)

bounded : (a b S k : ℕ) → a < k * b → a * (2 * S) ≤ 2 * (k * S) * b
bounded a b S k h = le_trans (mul-le-mul_right (2 * S) (le_of_lt h)) (le_of_eq (simp (mul_assoc, mul_comm, mul_left_comm)))

quotient_le : (a b q : ℕ) → 0 < b → a ≤ q * b → a / b ≤ q
quotient_le a b q B h = le_of_suc-le-suc ((div-lt_iff_lt-mul B).1 (lt_of_le_of_lt h (mul-lt-mul_of_pos_right (le_refl (suc q)) B)))

pub halves : (q : Quantity) → q.bound * q.scale < 2 ^ 32 → (x p : Float) → in_range q x ≡ true → IsProduct x (2 * q.scale) p → Halves q x p
unfolding in_range to_whole
halves q room nan p h v = absurd v
halves q room (inf s) p h v = absurd v
halves q room (fin true m e) p h v =
    let under : m * up e * (2 * q.scale) < down e = rw (mul_left_comm (m * up e) 2 q.scale) (ltb-true _ _ h) in
    let none = div-eq_of_lt under in
    cut true (m * up e * (2 * q.scale)) (down e) (down_pos e) (λ t. under) (omega arith) q _ p v (rw none (omega arith)) (rw none refl)
halves q room (fin false m e) p h v =
    let S = q.scale in
    let k = q.bound in
    let most : m * up e * (2 * S) ≤ 2 * (k * S) * down e = bounded (m * up e) (down e) S k (ltb-true (m * up e) (k * down e) h) in
    let top : m * up e * (2 * S) < 2 ^ 64 * down e = lt_of_le_of_lt most (mul-lt-mul_of_pos_right (omega arith) (down_pos e)) in
    cut false (m * up e * (2 * S)) (down e) (down_pos e) (λ t. absurd (false≢true t)) top q _ p v (quotient_le (m * up e * (2 * S)) (down e) (2 * (k * S)) (down_pos e) most) (rounded (m * up e) S (down e) (down_pos e))
