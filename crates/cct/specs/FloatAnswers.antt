-- The float answer (document 01, "The search", last paragraph): each float is one rounded division of two whole numbers, which the
-- doubles hold exactly (`FloatLaws.answer_exact`).
use Rattle.std.specs.Prelude.{cond, ℕ, eqb, ℤ, pos, Float}
use Rattle.std.specs.Float.{binary64}
use Rattle.std.specs.Float.Ieee.{div, of_int}
use Rattle.arith.specs.Units.{micro}
use Rattle.classes.specs.Classes.{kelvin_places}
use Rattle.cct.specs.declared.Answer.{Answer}
use Rattle.cct.specs.declared.FloatAnswer.{FloatAnswer}

-- a whole number as a double
abbrev pub double : ℤ → Float
double = of_int binary64

-- the temperature at a place, in kelvin
abbrev pub kelvin_at : ℕ → Float
kelvin_at place = div binary64 (double (pos kelvin_places)) (double (pos place))

-- Duv in micro as a coordinate
abbrev pub duv_float : ℤ → Float
duv_float duv = div binary64 (double duv) (double (pos micro))

-- the two floats of an accepted answer; those of a refused one are 0
unfoldable pub float_answer : Answer → FloatAnswer
float_answer a =
    cond (eqb a.refusal 0)
    (record { kelvin = kelvin_at a.place; duv = duv_float a.duv; whole = a })
    (record { kelvin = double (pos 0); duv = double (pos 0); whole = a })
