-- Document 01, "The text program": the whole output for a whole input.
use Rattle.std.specs.Prelude.{ℕ, List, [], ◌∷◌, ◌++◌}
use Rattle.text.specs.Line.{newline, split}
use Rattle.text.specs.Print.{answer_line}

-- the lines of an input: "a" is one line, and so is "a" with a newline after it, since where nothing follows a newline there is no line
abbrev pub lines : List ℕ → List (List ℕ)
lines input = split newline [] input

-- the replies to lines, in order
abbrev pub replies : List (List ℕ) → List ℕ
replies [] = []
replies (l ∷ ls) = answer_line l ++ replies ls

unfoldable pub output_of : List ℕ → List ℕ
output_of input = replies (lines input)
