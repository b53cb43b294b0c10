-- When refusals 2, 3 and 4 are given: the condition of each, with those before it not met (document 01's table).
use Rattle.std.specs.Prelude.{◌≡◌, ℕ, ◌<◌, Bool, true, false, ◌&&◌, nat_lt}
use Rattle.std.specs.Float.Ieee.Scale.{finite}
use Rattle.refusal.specs.declared.Refusal.{Refusal}
use Rattle.refusal.specs.declared.Refusal.TheVariants.{NotFinite, OutOfRange, TooDark}
use Rattle.reading.specs.Whole.{coordinate, tristimulus, in_range, to_whole}
use Rattle.reading.specs.Convert.{micro_limit, least_y}
use Rattle.reading.specs.declared.Reading.{Reading}
use Rattle.reading.specs.declared.Reading.TheVariants.{Uv, UvPrime, Xy, Xyz}

-- no float of a reading is infinite or a NaN
abbrev pub all_finite : Reading → Bool
all_finite (Uv u v) = finite u && finite v
all_finite (UvPrime u v) = finite u && finite v
all_finite (Xy x y) = finite x && finite y
all_finite (Xyz x y z) = finite x && finite y && finite z

-- every float of a reading is in its range
abbrev pub all_in_range : Reading → Bool
all_in_range (Uv u v) = in_range coordinate u && in_range coordinate v
all_in_range (UvPrime u v) = in_range coordinate u && in_range coordinate v
all_in_range (Xy x y) = in_range coordinate x && in_range coordinate y
all_in_range (Xyz x y z) = in_range tristimulus x && in_range tristimulus y && in_range tristimulus z

-- tristimulus values whose whole-number Y is under `least_y`
abbrev pub is_dark : Reading → Bool
is_dark (Uv u v) = false
is_dark (UvPrime u v) = false
is_dark (Xy x y) = false
is_dark (Xyz x y z) = nat_lt (to_whole tristimulus y) least_y

-- the condition of each refusal of a reading, with those before it not met
pub data ReadingCondition (r : Reading) : Refusal → Type 0 where
  not_finite : all_finite r ≡ false → ReadingCondition r NotFinite
  out_of_range : all_finite r ≡ true → all_in_range r ≡ false → ReadingCondition r OutOfRange
  too_dark : all_finite r ≡ true → all_in_range r ≡ true → is_dark r ≡ true → ReadingCondition r TooDark

-- the conditions of two whole numbers: u or v is over the limit
pub data MicroCondition (u v : ℕ) : Refusal → Type 0 where
  u_over : micro_limit < u → MicroCondition u v OutOfRange
  v_over : micro_limit < v → MicroCondition u v OutOfRange
