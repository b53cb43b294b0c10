-- Document 01, "The text program": the line that answers a line of the input.
use Rattle.std.specs.Prelude.{ℕ, List, [], ◌∷◌, ◌++◌, cond, eqb, Ok, Err}
use Rattle.refusal.specs.Number.{number_of}
use Rattle.reading.specs.Convert.{convert_micro}
use Rattle.classes.specs.Classes.{no_class}
use Rattle.cct.specs.declared.Answer.{Answer}
use Rattle.cct.specs.Answers.{answer}
use Rattle.text.specs.Line.{Line, space, newline, minus_sign, line_of}
use Rattle.text.specs.Decimal.{decimal, signed}

-- words with one space between
abbrev pub spaced : List (List ℕ) → List ℕ
spaced [] = []
spaced (w ∷ []) = w
spaced (w ∷ v ∷ ws) = w ++ (space ∷ spaced (v ∷ ws))

-- the class, or `-` for none
abbrev pub class_text : ℕ → List ℕ
class_text c = cond (eqb c no_class) (minus_sign ∷ []) (decimal c)

-- `0 place o p duv steps class`
abbrev pub accepted_text : Answer → List ℕ
accepted_text a =
    spaced (decimal 0 ∷ decimal a.place ∷ decimal a.low ∷ decimal a.high ∷ signed a.duv ∷ decimal a.steps ∷ class_text a.class ∷ [])

-- that, or the refusal number alone
abbrev pub answer_text : Answer → List ℕ
answer_text a = cond (eqb a.refusal 0) (accepted_text a) (decimal a.refusal)

-- the program's class edges
abbrev pub program_edges : List ℕ
program_edges = 1600 ∷ 2500 ∷ 3500 ∷ 5000 ∷ 20001 ∷ []

-- the answer to what a line says: refusal 8 comes before all others
unfoldable pub reply_to : Line → List ℕ
reply_to (Err refusal) = decimal (number_of refusal)
reply_to (Ok r) = answer_text (answer program_edges (convert_micro r.u r.v) r.max_steps)

-- with its newline
abbrev pub reply_line : Line → List ℕ
reply_line l = reply_to l ++ (newline ∷ [])

-- the line that answers a line of the input
abbrev pub answer_line : List ℕ → List ℕ
answer_line l = reply_line (line_of l)
