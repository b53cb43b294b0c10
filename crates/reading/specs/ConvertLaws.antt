-- How large u and v can come out, so that they fit 32 bits.
use Rattle.std.specs.Prelude.{◌≡◌, ℕ, ◌*◌, ◌≤◌, Bool, true, false, ◌&&◌, refl, Float, Ok, Err}
use Rattle.std.proofs.Common.{arith}
use Rattle.std.specs.Float.Ieee.Scale.{finite}
use Rattle.arith.specs.Units.{micro}
use Rattle.arith.specs.RoundingLaws.{nearest_at_most}
use Rattle.arith.specs.TestLaws.{and_both}
use Rattle.reading.specs.Whole.{coordinate, in_range, to_whole}
use Rattle.reading.specs.WholeLaws.{whole_le}
use Rattle.reading.specs.Convert.{Converted, micro_limit, judged, point_over, of_coordinates}

-- u and v are at most the limit, where there are any
abbrev pub UpTo : ℕ → Converted → Type 0
UpTo limit (Ok p) = (p.u ≤ limit) × (p.v ≤ limit)
UpTo limit (Err r) = Unit

abbrev pub Within : Converted → Type 0
Within c = UpTo micro_limit c

judged_up_to : (limit : ℕ) (all_finite all_in_range : Bool) (c : Converted) → (all_in_range ≡ true → UpTo limit c) → UpTo limit (judged all_finite all_in_range c)
judged_up_to limit false all_in_range c h = tt
judged_up_to limit true false c h = tt
judged_up_to limit true true c h = h refl

pub over_within : (x y n : ℕ) → x ≤ n → 3 * y ≤ 2 * n → Within (point_over x y n)
over_within x y n hx hy = (nearest_at_most _ n _ (omega arith), nearest_at_most _ n _ (omega arith))

-- a coordinate's whole number is at most a million micro
pub coordinates_up_to : (limit : ℕ) (rule : ℕ → ℕ → Converted) → ((a b : ℕ) → a ≤ micro → b ≤ micro → UpTo limit (rule a b)) → (x y : Float) → UpTo limit (of_coordinates rule x y)
unfolding of_coordinates
coordinates_up_to limit rule h x y =
    judged_up_to limit (finite x && finite y) (in_range coordinate x && in_range coordinate y) (rule (to_whole coordinate x) (to_whole coordinate y))
    (λ p. let g = and_both (in_range coordinate x) (in_range coordinate y) p in h _ _ (whole_le coordinate x g.0) (whole_le coordinate y g.1))
