-- Laws of the printed line: the parts in which it is printed, and its length.
use Rattle.std.specs.Prelude.{ℕ, ◌≤◌, ◌≡◌, List, ◌∷◌, ◌++◌, length, ℤ, eqb, Ok, Err}
use Rattle.std.proofs.Common.{ap, append_assoc, arith, length-append}
use Rattle.arith.specs.TestLaws.{cond_both}
use Rattle.refusal.specs.Number.{number_of}
use Rattle.reading.specs.Convert.{convert_micro}
use Rattle.classes.specs.Classes.{no_class}
use Rattle.cct.specs.declared.Answer.{Answer}
use Rattle.cct.specs.Answers.{answer}
use Rattle.text.specs.Line.{Line, space}
use Rattle.text.specs.Decimal.{signed}
use Rattle.text.specs.DecimalLaws.{digits_short, signed_short}
use Rattle.text.specs.Code.Halves.{field_text, places_text, rest_text}
use Rattle.text.specs.Print.{program_edges, class_text, accepted_text, answer_text, reply_to}

-- the two halves make up an accepted answer
pub accepted_halves : (a : Answer) → accepted_text a ≡ places_text a.place a.low a.high ++ rest_text a.duv a.steps a.class
accepted_halves a = simp append_assoc

-- lengths
pub field_short : (n : ℕ) → length (field_text n) ≤ 11
field_short n = omega (arith, digits_short 10 n)

class_short : (c : ℕ) → length (class_text c) ≤ 10
class_short c = cond_both (λ (t : List ℕ). length t ≤ 10) (eqb c no_class) (omega arith) (digits_short 10 c)

pub places_short : (place low high : ℕ) → length (places_text place low high) ≤ 34
places_short p l h =
    omega (arith, length-append (field_text p) (field_text l ++ field_text h), length-append (field_text l) (field_text h), field_short p, field_short l, field_short h)

rest_short : (duv : ℤ) (steps class : ℕ) → length (rest_text duv steps class) ≤ 34
rest_short d s c =
    omega (arith, length-append (signed d) (field_text s ++ (space ∷ class_text c)), length-append (field_text s) (space ∷ class_text c), signed_short d, field_short s, class_short c)

answer_short : (a : Answer) → length (answer_text a) ≤ 68
answer_short a =
    let places = places_short a.place a.low a.high in
    let rest = rest_short a.duv a.steps a.class in
    let both = length-append (places_text a.place a.low a.high) (rest_text a.duv a.steps a.class) in
    cond_both (λ (t : List ℕ). length t ≤ 68) (eqb a.refusal 0) (omega (arith, ap length (accepted_halves a), both, places, rest)) (omega (arith, digits_short 10 a.refusal))

pub reply_short : (l : Line) → length (reply_to l) ≤ 68
unfolding reply_to
reply_short (Err refusal) = omega (arith, digits_short 10 (number_of refusal))
reply_short (Ok r) = answer_short (answer program_edges (convert_micro r.u r.v) r.max_steps)
