-- Laws of a float's whole number.
use Rattle.std.specs.Prelude.{◌≡◌, ◌*◌, ◌≤◌, true, false, refl, Float}
use Rattle.std.proofs.lemmas.Bool.{false≢true}
use Rattle.std.proofs.Common.{zero-le, le_trans, le_of_lt, le_of_eq, mul_right_comm, mul-le-mul_right, ltb-true}
use Rattle.std.specs.Float.{nan, inf, fin}
use Rattle.std.specs.Float.Ieee.{up, down}
use Rattle.std.specs.Float.Ieee.Scale.{finite}
use Rattle.arith.specs.RoundingLaws.{nearest_at_most}
use Rattle.reading.specs.Whole.{in_range, to_whole}
use Rattle.reading.specs.declared.Quantity.{Quantity}

pub range_finite : (q : Quantity) (x : Float) → in_range q x ≡ true → finite x ≡ true
unfolding in_range
range_finite q nan h = h
range_finite q (inf s) h = h
range_finite q (fin s m e) h = refl

-- a number in range comes to at most its bound
pub whole_le : (q : Quantity) (x : Float) → in_range q x ≡ true → to_whole q x ≤ q.bound * q.scale
unfolding in_range to_whole
whole_le q nan h = absurd (false≢true h)
whole_le q (inf s) h = absurd (false≢true h)
whole_le q (fin true m e) h = zero-le
whole_le q (fin false m e) h =
    let below = ltb-true (m * up e) (q.bound * down e) h in
    nearest_at_most _ (down e) _ (le_trans (mul-le-mul_right q.scale (le_of_lt below)) (le_of_eq (mul_right_comm q.bound (down e) q.scale)))
