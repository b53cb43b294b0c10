-- The code's comparisons of floats are the definition's tests: by cases of the float, then a law over plain numbers.
use Rattle.std.proofs.Common.{◌≡◌, List, [], ◌∷◌, ℕ, ◌+◌, ◌*◌, ◌<◌, ◌&&◌, true, false, ltb, pos, sym, refl, ap, ◌∙◌, true≢false, mul-pos, one-mul, zero-mul, mul-one, mul_right_comm, mul_left_comm, arith, ltb-false, ltb-true, lt-ltb}
use mathlib.Core.Bool.{false≢true}
use Rattle.std.specs.List.{list_all}
use Rattle.std.specs.Float.{float_is_finite}
use lib.Ieee.{Float, nan, inf, fin, up, down, lt}
use lib.Ieee.Fits.{down_pos}
use lib.Ieee.Scale.{finite}
use lib.Ieee.Exact.{HasValue}
use Rattle.reading.specs.Whole.{in_range}
use Rattle.reading.specs.FractionLaws.{multiple_test, fraction_test}
use Rattle.reading.specs.Code.Product.{IsProduct}
use Rattle.reading.specs.declared.Quantity.{Quantity}

-- the library's test, in the logic's word
pub is_finite_same : (x : Float) → float_is_finite x ≡ finite x
unfolding float_is_finite
is_finite_same nan = refl
is_finite_same (inf s) = refl
is_finite_same (fin s m e) = refl

pub compared_same : (x : Float) → lt (inf true) x && lt x (inf false) ≡ float_is_finite x
unfolding lt float_is_finite
compared_same nan = refl
compared_same (inf true) = refl
compared_same (inf false) = refl
compared_same (fin s m e) = refl

pub all_finite_same : (l : List Float) → list_all float_is_finite l ≡ list_all finite l
all_finite_same [] = refl
all_finite_same (x ∷ l) = rw (is_finite_same x, all_finite_same l) refl

-- of x = a / b and the bound k = w / d: a * d < w * b is a < k * b
below_bound : (a b d w k : ℕ) → 0 < d → w * 1 ≡ k * d → ltb (a * d) (w * b) ≡ ltb a (k * b)
below_bound a b d w k D h =
    ap (λ (x : ℕ). ltb (a * d) (x * b)) (sym (mul-one w) ∙ h) ∙ ap (λ (x : ℕ). ltb (a * d) x) (mul_right_comm k d b) ∙ multiple_test a (k * b) d D

-- a float below zero is in range where its product with 2 * scale is above -1
pub below_zero_same : (q : Quantity) (x p : Float) → IsProduct x (2 * q.scale) p → lt x (fin false 0 (pos 0)) ≡ true → lt (fin true 1 (pos 0)) p ≡ in_range q x
unfolding lt in_range
below_zero_same q nan p w h = absurd w
below_zero_same q (inf s) p w h = absurd w
below_zero_same q (fin false m e) p w h = let g = ltb-true (m * up e * 1) (0 * down e) h in absurd (omega arith)
below_zero_same q (fin true m e) nan w h = absurd w
below_zero_same q (fin true m e) (inf t) w h = absurd w
below_zero_same q (fin true m e) (fin false k c) w h = absurd (false≢true w.0)
below_zero_same q (fin true m e) (fin true k c) w h =
    rw (mul-one (k * up c), one-mul (down c), fraction_test (k * up c) (down c) (m * up e * (2 * q.scale)) (down e) (down_pos c) (down_pos e) w.1, mul_left_comm (m * up e) 2 q.scale) refl

-- minus zero is in range, and below every bound above 0
minus_zero : (a b d w k S : ℕ) → 0 < b → 0 < d → 0 < k → w * 1 ≡ k * d → ltb 0 (a * 1 + 0 * b) ≡ false → ltb 0 (a * d + w * b) ≡ ltb (2 * (a * S)) b
minus_zero a b d w k S B D K h g =
    let none : a ≡ 0 = let z = ltb-false 0 (a * 1 + 0 * b) g in omega arith in
    let some : 0 < k * d = mul-pos K D in
    let most : 0 < w * b = mul-pos {m = w} (omega arith) B in
    rw (none, zero-mul S, zero-mul d, lt-ltb 0 (0 + w * b) (omega arith), lt-ltb (2 * 0) b B) refl

-- any other float is in range where it is below the bound
pub from_zero_same : (q : Quantity) (x y : Float) → 0 < q.bound → HasValue y false q.bound 1 → lt x (fin false 0 (pos 0)) ≡ false → lt x y ≡ in_range q x
unfolding lt in_range
from_zero_same q x nan b v h = absurd v
from_zero_same q x (inf t) b v h = absurd v
from_zero_same q x (fin true n d) b v h = absurd (true≢false v.0)
from_zero_same q nan (fin false n d) b v h = refl
from_zero_same q (inf true) (fin false n d) b v h = absurd (true≢false h)
from_zero_same q (inf false) (fin false n d) b v h = refl
from_zero_same q (fin true m e) (fin false n d) b v h = minus_zero (m * up e) (down e) (down d) (n * up d) q.bound q.scale (down_pos e) (down_pos d) b v.1 h
from_zero_same q (fin false m e) (fin false n d) b v h = below_bound (m * up e) (down e) (down d) (n * up d) q.bound (down_pos d) v.1
