-- Floats below zero (document 02, No. 2): which are in range, what those come to, and that +0 in place of those changes no conversion.
use Rattle.std.specs.Prelude.{◌≡◌, ℕ, ◌+◌, ◌*◌, ◌/◌, ◌<◌, ◌≤◌, Bool, true, false, cond, pos, nat_lt, refl, Float}
use Rattle.std.proofs.Common.{sym, ap, ◌∙◌, lt_of_le_of_lt, lt_of_mul-lt-mul_right, zero-mul, mul_assoc, mul_comm, mul_right_comm, mul-le-mul_left, mul-le-mul_right, mul-lt-mul_of_pos_right, arith, lit<, lt-ltb, ltb-true}
use Rattle.std.proofs.lemmas.Bool.{false≢true}
use Rattle.std.proofs.Math.Nat.{div-eq_of_lt}
use Rattle.std.specs.Float.{nan, inf, fin, binary32}
use Rattle.std.specs.Float.Ieee.{up, down, of_bits}
use Rattle.std.specs.Float.Ieee.Exact.{HasValue}
use Rattle.std.specs.Float.Ieee.Fits.{down_pos}
use Rattle.std.specs.Float.Ieee.Scale.{finite}
use Rattle.arith.specs.RoundingLaws.{nearest_unique}
use Rattle.reading.specs.FractionLaws.{fraction_test}
use Rattle.reading.specs.Whole.{coordinate, tristimulus, in_range, to_whole}
use Rattle.reading.specs.Convert.{Converted, of_uv, of_uv_prime, of_xy, of_coordinates, of_tristimulus, convert_reading}
use Rattle.reading.specs.declared.Quantity.{Quantity}
use Rattle.reading.specs.declared.Reading.{Reading}
use Rattle.reading.specs.declared.Reading.TheVariants.{Uv, UvPrime, Xy, Xyz}

regroup : (k S b : ℕ) → 2 * (k * S) * b ≡ 2 * (k * b * S)
regroup k S b = mul_assoc 2 (k * S) b ∙ ap (λ (x : ℕ). 2 * x) (mul_right_comm k S b)

-- x = −a / b is in range exactly where 2·a·S < b: above −1/2 of its unit 1/S, by its exact value
pub below_zero_range : (q : Quantity) (x : Float) (a b : ℕ) → 0 < b → HasValue x true a b → in_range q x ≡ nat_lt (2 * (a * q.scale)) b
unfolding in_range
below_zero_range q nan a b B v = absurd v
below_zero_range q (inf s) a b B v = absurd v
below_zero_range q (fin false m e) a b B v = absurd (false≢true v.0)
below_zero_range q (fin true m e) a b B v =
    fraction_test (2 * (m * up e * q.scale)) (down e) (2 * (a * q.scale)) b (down_pos e) B
    (regroup (m * up e) q.scale b ∙ ap (λ (x : ℕ). 2 * (x * q.scale)) v.1 ∙ sym (regroup a q.scale (down e)))

-- of floats with a minus sign, what is as near to zero as one in range, or nearer, is in range
pub nearer_zero : (q : Quantity) (x y : Float) (a b c d : ℕ) → 0 < b → 0 < d → HasValue x true a b → HasValue y true c d → a * d ≤ c * b → in_range q y ≡ true → in_range q x ≡ true
nearer_zero q x y a b c d B D v w h g =
    let S = q.scale in
    let far : 2 * (c * S) < d = ltb-true _ _ (sym (below_zero_range q y c d D w) ∙ g) in
    let near : 2 * (a * S) * d ≤ 2 * (c * S) * b = rw (regroup a S d, regroup c S b) (mul-le-mul_left 2 (mul-le-mul_right S h)) in
    below_zero_range q x a b B v ∙ lt-ltb (2 * (a * S)) b (lt_of_mul-lt-mul_right d (lt_of_le_of_lt near (rw (mul_comm b d) (mul-lt-mul_of_pos_right far B))))

-- a float with a minus sign comes to 0; a conversion asks for its whole number only in range
pub below_zero_whole : (q : Quantity) (x : Float) (a b : ℕ) → HasValue x true a b → to_whole q x ≡ 0
unfolding to_whole
below_zero_whole q nan a b v = absurd v
below_zero_whole q (inf s) a b v = absurd v
below_zero_whole q (fin false m e) a b v = absurd (false≢true v.0)
below_zero_whole q (fin true m e) a b v = refl

-- at −1/2 of the unit and above that 0 is floor(x·S + 1/2): of x = −a / b with 2·a·S + c = b, x·S + 1/2 is c / 2b
pub below_zero_floor : (q : Quantity) (x : Float) (a b c : ℕ) → 0 < b → HasValue x true a b → 2 * (a * q.scale) + c ≡ b → to_whole q x ≡ c / (2 * b)
below_zero_floor q x a b c B v h = below_zero_whole q x a b v ∙ sym (div-eq_of_lt (omega arith))

-- +0 in place of a float that is in range with a minus sign
abbrev pub zeroed : Quantity → Float → Float
zeroed q nan = nan
zeroed q (inf s) = inf s
zeroed q (fin true m e) = cond (in_range q (fin true m e)) (fin false 0 (pos 0)) (fin true m e)
zeroed q (fin false m e) = fin false m e

-- a reading with every such float replaced
abbrev pub zeroed_reading : Reading → Reading
zeroed_reading (Uv u v) = Uv (zeroed coordinate u) (zeroed coordinate v)
zeroed_reading (UvPrime u v) = UvPrime (zeroed coordinate u) (zeroed coordinate v)
zeroed_reading (Xy x y) = Xy (zeroed coordinate x) (zeroed coordinate y)
zeroed_reading (Xyz x y z) = Xyz (zeroed tristimulus x) (zeroed tristimulus y) (zeroed tristimulus z)

-- all that a conversion asks of a float
record Alike (q : Quantity) (x y : Float) : Type 0 where
  finite_same : finite x ≡ finite y
  range_same : in_range q x ≡ in_range q y
  whole_same : to_whole q x ≡ to_whole q y

alike_itself : (q : Quantity) (x : Float) → Alike q x x
alike_itself q x = record { finite_same = refl; range_same = refl; whole_same = refl }

zeroed_alike : (q : Quantity) (x : Float) → 0 < q.bound → Alike q (zeroed q x) x
unfolding in_range to_whole
zeroed_alike q nan h = alike_itself q nan
zeroed_alike q (inf s) h = alike_itself q (inf s)
zeroed_alike q (fin false m e) h = alike_itself q (fin false m e)
zeroed_alike q (fin true m e) h = go (in_range q (fin true m e)) refl
  where
    go : (t : Bool) → in_range q (fin true m e) ≡ t → Alike q (cond t (fin false 0 (pos 0)) (fin true m e)) (fin true m e)
    go true t = record {
      finite_same = refl;
      range_same = lt-ltb (0 * 1) (q.bound * 1) (omega arith) ∙ sym t;
      whole_same = nearest_unique (0 * 1 * q.scale) 1 0 (lit< tt) (omega arith) (omega (arith, zero-mul q.scale));
    }
    go false t = alike_itself q (fin true m e)

coordinates_zeroed : (rule : ℕ → ℕ → Converted) (x y : Float) → of_coordinates rule (zeroed coordinate x) (zeroed coordinate y) ≡ of_coordinates rule x y
unfolding of_coordinates
coordinates_zeroed rule x y =
    let h = zeroed_alike coordinate x (lit< tt) in
    let k = zeroed_alike coordinate y (lit< tt) in
    rw (h.finite_same, h.range_same, h.whole_same, k.finite_same, k.range_same, k.whole_same) refl

-- a reading converts to the same with +0 in place of the floats below zero that are in range
pub zeroed_converts : (r : Reading) → convert_reading (zeroed_reading r) ≡ convert_reading r
unfolding convert_reading of_tristimulus
zeroed_converts (Uv u v) = coordinates_zeroed of_uv u v
zeroed_converts (UvPrime u v) = coordinates_zeroed of_uv_prime u v
zeroed_converts (Xy x y) = coordinates_zeroed of_xy x y
zeroed_converts (Xyz x y z) =
    let g = zeroed_alike tristimulus x (lit< tt) in
    let h = zeroed_alike tristimulus y (lit< tt) in
    let k = zeroed_alike tristimulus z (lit< tt) in
    rw (g.finite_same, g.range_same, g.whole_same, h.finite_same, h.range_same, h.whole_same, k.finite_same, k.range_same, k.whole_same) refl

-- so two readings that differ only in such floats convert to the same
pub below_zero_is_zero : (r s : Reading) → zeroed_reading r ≡ zeroed_reading s → convert_reading r ≡ convert_reading s
below_zero_is_zero r s e = sym (zeroed_converts r) ∙ ap convert_reading e ∙ zeroed_converts s

-- the last floats taken and the first refused, by their bits: b50637bd and b50637be, b6a7c5ac and b6a7c5ad
pub last_taken : (in_range coordinate (of_bits binary32 3037083581) ≡ true) × (in_range tristimulus (of_bits binary32 3064448428) ≡ true)
unfolding in_range of_bits
last_taken = (refl, refl)

pub first_refused : (in_range coordinate (of_bits binary32 3037083582) ≡ false) × (in_range tristimulus (of_bits binary32 3064448429) ≡ false)
unfolding in_range of_bits
first_refused = (refl, refl)
