-- The rule of a kind of two coordinates, from what `of_coordinates` returned.
use Rattle.std.proofs.Common.{◌≡◌, ℕ, Bool, true, false, ◌&&◌, sym, refl, Ok, Err}
use lib.Ieee.{Float}
use lib.Ieee.Scale.{finite}
use Rattle.reading.specs.Whole.{coordinate, in_range, to_whole}
use Rattle.reading.specs.Convert.{Converted, point, judged, of_uv, of_coordinates}

-- the rule on a point, and a refusal as it is
abbrev pub on : (ℕ → ℕ → Converted) → Converted → Converted
on rule (Ok p) = rule p.u p.v
on rule (Err r) = Err r

on_judged : (rule : ℕ → ℕ → Converted) (f g : Bool) (a b : ℕ) → on rule (judged f g (Ok (point a b))) ≡ judged f g (rule a b)
on_judged rule false g a b = refl
on_judged rule true false a b = refl
on_judged rule true true a b = refl

pub ruled : (rule : ℕ → ℕ → Converted) (x y : Float) → of_coordinates rule x y ≡ on rule (of_coordinates of_uv x y)
unfolding of_coordinates
ruled rule x y = sym (on_judged rule (finite x && finite y) (in_range coordinate x && in_range coordinate y) (to_whole coordinate x) (to_whole coordinate y))
