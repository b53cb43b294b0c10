-- The parts in which the code prints an accepted answer; `PrintLaws.accepted_halves` puts them together.
use Rattle.std.specs.Prelude.{ℕ, List, ◌∷◌, ◌++◌, ℤ}
use Rattle.text.specs.Line.{space, digit_zero}
use Rattle.text.specs.Decimal.{decimal, signed}
use Rattle.text.specs.Print.{class_text}

-- a space and a number
abbrev pub field_text : ℕ → List ℕ
field_text n = space ∷ decimal n

-- the first half of an accepted answer, and the second
abbrev pub places_text : ℕ → ℕ → ℕ → List ℕ
places_text place low high = digit_zero ∷ (field_text place ++ (field_text low ++ field_text high))

abbrev pub rest_text : ℤ → ℕ → ℕ → List ℕ
rest_text duv steps class = space ∷ (signed duv ++ (field_text steps ++ (space ∷ class_text class)))
