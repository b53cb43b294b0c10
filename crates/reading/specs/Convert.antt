-- What a reading comes to: u and v in micro, or a refusal (document 01, "Readings"; refusals 2, 3 and 4). Definitions only.
use Rattle.std.specs.Prelude.{ℕ, ◌+◌, ◌-◌, ◌*◌, Bool, cond, ◌&&◌, nat_le, nat_lt, Float, Result, Ok, Err}
use Rattle.std.specs.Float.Ieee.Scale.{finite}
use Rattle.arith.specs.Units.{micro}
use Rattle.arith.specs.Rounding.{nearest_quotient}
use Rattle.refusal.specs.declared.Refusal.{Refusal}
use Rattle.refusal.specs.declared.Refusal.TheVariants.{NotFinite, OutOfRange, TooDark}
use Rattle.reading.specs.Whole.{coordinate, tristimulus, in_range, to_whole}
use Rattle.reading.specs.declared.Chromaticity.{Chromaticity}
use Rattle.reading.specs.declared.Reading.{Reading}
use Rattle.reading.specs.declared.Reading.TheVariants.{Uv, UvPrime, Xy, Xyz}

-- what a reading comes to, as the code has it
abbrev pub Converted : Type 0
Converted = Result Chromaticity Refusal

-- the point of these two coordinates, in micro
abbrev pub point : ℕ → ℕ → Chromaticity
point u v = record { u = u; v = v }

-- "Readings": the whole-number entry point takes 0 to 4,000,000.
abbrev pub micro_limit : ℕ
micro_limit = 4000000

-- Refusal 4 is given for a whole-number Y under 100,000.
abbrev pub least_y : ℕ
least_y = 100000

-- Refusals 2 and 3, in the table's order, each judged over the whole reading; `finite x` of the library says that x is neither
-- infinite nor a NaN.
abbrev pub judged : Bool → Bool → Converted → Converted
judged all_finite all_in_range converted = cond all_finite (cond all_in_range converted (Err OutOfRange)) (Err NotFinite)

-- "Readings", xy and XYZ: 4x and 6y, each times 10^6 and over n.
abbrev pub point_over : ℕ → ℕ → ℕ → Converted
point_over x y n = Ok (point (nearest_quotient (4 * x * micro) n) (nearest_quotient (6 * y * micro) n))

-- uv: the whole numbers as they are.
abbrev pub of_uv : ℕ → ℕ → Converted
of_uv u v = Ok (point u v)

-- u'v': u = u', v = 2v'/3.
abbrev pub of_uv_prime : ℕ → ℕ → Converted
of_uv_prime u v = Ok (point u (nearest_quotient (2 * v) 3))

-- xy: n = 3·10^6 − 2x + 12y, where x is at most 10^6, so that the difference is exact.
abbrev pub of_xy : ℕ → ℕ → Converted
of_xy x y = point_over x y (3 * micro + 12 * y - 2 * x)

-- XYZ: n = X + 15Y + 3Z.
abbrev pub of_xyz : ℕ → ℕ → ℕ → Converted
of_xyz x y z = point_over x y (x + 15 * y + 3 * z)

-- Two coordinates, judged together, and what their whole numbers come to by the rule of their kind.
unfoldable pub of_coordinates : (ℕ → ℕ → Converted) → Float → Float → Converted
of_coordinates rule x y =
    judged (finite x && finite y) (in_range coordinate x && in_range coordinate y)
    (rule (to_whole coordinate x) (to_whole coordinate y))

-- Three tristimulus values, judged together: after refusals 2 and 3, refusal 4 goes by the whole-number Y.
unfoldable pub of_tristimulus : Float → Float → Float → Converted
of_tristimulus x y z =
    judged (finite x && finite y && finite z) (in_range tristimulus x && in_range tristimulus y && in_range tristimulus z)
    (cond (nat_lt (to_whole tristimulus y) least_y) (Err TooDark)
    (of_xyz (to_whole tristimulus x) (to_whole tristimulus y) (to_whole tristimulus z)))

-- "Readings": a reading of each of the four kinds.
unfoldable pub convert_reading : Reading → Converted
convert_reading (Uv u v) = of_coordinates of_uv u v
convert_reading (UvPrime u v) = of_coordinates of_uv_prime u v
convert_reading (Xy x y) = of_coordinates of_xy x y
convert_reading (Xyz x y z) = of_tristimulus x y z

-- "Readings": u and v as whole numbers in micro; refusal 3 over the limit.
abbrev pub convert_micro : ℕ → ℕ → Converted
convert_micro u v = cond (nat_le u micro_limit && nat_le v micro_limit) (Ok (point u v)) (Err OutOfRange)
