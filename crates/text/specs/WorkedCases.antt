-- The cases of document 01 that are marked (P), in one table: its four conversions, and the first eight lines of its listing as bytes
-- in and bytes out. Its third and fourth line look between entries, so their Duv are those of document 02, No. 3; its sixth is accepted since
-- No. 8, to which the two lines after it belong; the last is that of No. 10. One theorem says that the definitions give what is expected, by
-- computation.
use Rattle.std.specs.Prelude.{◌≡◌, refl, false, List, [], ◌∷◌, ◌++◌, map, ℕ, pos, negsuc, Float, Ok}
use Prim.Native.Char.{code}
use Prim.Native.String.{String, [] as []ˢ, ◌∷◌ as ◌∷ˢ◌}
use Rattle.std.specs.Float.{fin}
use Rattle.arith.specs.Root.{root_in}
use Rattle.arith.specs.Least.{least_of}
use Rattle.reading.specs.declared.Reading.TheVariants.{UvPrime, Xy, Xyz}
use Rattle.reading.specs.Whole.{coordinate, tristimulus, in_range, to_whole}
use Rattle.reading.specs.Convert.{Converted, point as at, of_coordinates, of_tristimulus, convert_reading}
use Rattle.locus.specs.Stored.{stored_u, stored_v, table_u, table_v, entry_in}
use Rattle.locus.specs.Locus.{between, locus_at, squared_distance, distance_at, entry_distance}
use Rattle.locus.specs.Admission.{admission}
use Rattle.search.specs.Golden.{fibonacci, start, step, after}
use Rattle.classes.specs.Edges.{edges_valid}
use Rattle.classes.specs.Classes.{last_passing}
use Rattle.cct.specs.Answers.{checked_point, checked, duv_at, accepted, answer}
use Rattle.text.specs.Line.{newline, line_of}
use Rattle.text.specs.Print.{reply_to, answer_line}

-- what a case is about: a float as a whole number, a converted reading, or the bytes printed
pub data Result : Type 0 where
  whole : ℕ → Result
  point : Converted → Result
  printed : List ℕ → Result

-- what the definitions give, and what is expected
pub record Case : Type 0 where
  pub given : Result
  pub expected : Result

infix 5 ◌gives◌
abbrev pub ◌gives◌ : Result → Result → Case
◌gives◌ a b = record { given = a; expected = b }

-- the bytes of a text in ASCII
abbrev pub bytes : String → List ℕ
bytes []ˢ = []
bytes (c ∷ˢ s) = code c ∷ bytes s

-- a line of the input without its newline, and a line of the output, which has one
abbrev line : String → Result
line s = printed (answer_line (bytes s))

abbrev prints : String → Result
prints s = printed (bytes s ++ (newline ∷ []))

-- 2 ^ -n for n = k + 1, and 100
abbrev power : ℕ → Float
power k = fin false 1 (negsuc k)

abbrev hundred : Float
hundred = fin false 25 (pos 2)

unfoldable pub cases : List Case
cases =
    (whole (to_whole coordinate (power 6)) gives whole 7813)
    ∷ (whole (to_whole tristimulus (power 5)) gives whole 1563)
    ∷ (point (convert_reading (Xyz hundred hundred hundred)) gives point (Ok (at 210526 315789)))
    ∷ (point (convert_reading (Xy (power 1) (power 1))) gives point (Ok (at 181818 272727)))
    ∷ (point (convert_reading (UvPrime (power 1) (power 0))) gives point (Ok (at 250000 333333)))
    ∷ (line "255910 349510 0" gives prints "0 36176 33592 38760 0 0 1")
    ∷ (line "219300 327100 0" gives prints "0 23256 20672 25840 -2347 0 -")
    ∷ (line "219300 327100 2" gives prints "0 23112 21892 23866 -2331 2 2")
    ∷ (line "341150 360520 0" gives prints "0 62626 59432 64600 -2061 0 0")
    ∷ (line "345070 330530 0" gives prints "0 64600 62016 64600 -30000 0 0")
    ∷ (line "345070 330529 0" gives prints "0 64600 62016 64600 -30001 0 0")
    ∷ (line "345070 310530 0" gives prints "0 64600 62016 64600 -50000 0 0")
    ∷ (line "345070 310529 0" gives prints "5")
    ∷ (line "183000 276000" gives prints "6")
    ∷ (line "346000 360540" gives prints "7")
    ∷ (line "219300 327100" gives prints "0 23112 22934 23222 -2331 6 2")
    ∷ []

pub worked_cases : map (λ (c : Case). c.given) cases ≡ map (λ (c : Case). c.expected) cases
unfolding cases line_of reply_to to_whole in_range of_coordinates of_tristimulus convert_reading stored_u stored_v table_u table_v entry_in between locus_at squared_distance distance_at entry_distance least_of admission fibonacci start step after edges_valid last_passing root_in checked_point checked duv_at accepted answer
worked_cases = refl
