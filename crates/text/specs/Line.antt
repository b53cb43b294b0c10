-- Document 01, "The text program": what a line of the input says.
use Rattle.std.specs.Prelude.{ℕ, ◌+◌, ◌*◌, ◌-◌, List, [], ◌∷◌, map, Bool, cond, ◌&&◌, length, leb, eqb, Result, Ok, Err}
use Rattle.arith.specs.Every.{every}
use Rattle.refusal.specs.declared.Refusal.{Refusal}
use Rattle.refusal.specs.declared.Refusal.TheVariants.{BadLine}
use Rattle.text.specs.declared.grammar.Request.{Request}

-- what a line says: a request, or why it is refused
abbrev pub Line : Type 0
Line = Result Request Refusal

-- refusal 8
abbrev pub unreadable : Line
unreadable = Err BadLine

-- u and v in micro, and the most steps to take
abbrev pub request : ℕ → ℕ → ℕ → Request
request u v n = record { u = u; v = v; max_steps = n }

abbrev pub numbers : ℕ → ℕ → ℕ → Line
numbers u v n = Ok (request u v n)

-- bytes of ASCII: those that part words and lines, the first and the last digit, and the minus sign
abbrev pub space : ℕ
space = 32

abbrev pub newline : ℕ
newline = 10

abbrev pub digit_zero : ℕ
digit_zero = 48

abbrev pub digit_nine : ℕ
digit_nine = 57

abbrev pub minus_sign : ℕ
minus_sign = 45

-- a byte put in front of the first of some parts
abbrev pub front : ℕ → List (List ℕ) → List (List ℕ)
front x [] = (x ∷ []) ∷ []
front x (p ∷ ps) = (x ∷ p) ∷ ps

-- a list cut at each separator. What follows the last separator is a part too; where nothing follows it, `afterLast` says which parts
-- there are: one that is empty, or none
abbrev pub split : ℕ → List (List ℕ) → List ℕ → List (List ℕ)
split separator afterLast [] = afterLast
split separator afterLast (x ∷ l) =
    cond (eqb x separator) ([] ∷ split separator afterLast l) (front x (split separator afterLast l))

-- the words of a line, with one space between: "a " is the words "a" and "", so a space at the end makes an empty word
abbrev pub words : List ℕ → List (List ℕ)
words l = split space ([] ∷ []) l

-- a decimal digit
abbrev pub is_digit : ℕ → Bool
is_digit x = leb digit_zero x && leb x digit_nine

-- a number has 1 to 7 decimal digits
abbrev pub is_number : List ℕ → Bool
is_number w = every is_digit w && (leb 1 (length w) && leb (length w) 7)

-- the number that digits write, after those that wrote n
abbrev pub value_from : ℕ → List ℕ → ℕ
value_from n [] = n
value_from n (x ∷ w) = value_from (10 * n + (x - digit_zero)) w

abbrev pub value : List ℕ → ℕ
value w = value_from 0 w

-- document 02, No. 10: the allowance for a line of two numbers
abbrev pub default_steps : ℕ
default_steps = 6

-- two numbers, u and v, or three, with the steps allowed
abbrev pub numbers_of : List ℕ → Line
numbers_of [] = unreadable
numbers_of (u ∷ []) = unreadable
numbers_of (u ∷ v ∷ []) = numbers u v default_steps
numbers_of (u ∷ v ∷ n ∷ []) = numbers u v n
numbers_of (u ∷ v ∷ n ∷ m ∷ rest) = unreadable

-- what the words of a line say
abbrev pub words_line : List (List ℕ) → Line
words_line ws = cond (every is_number ws) (numbers_of (map value ws)) unreadable

-- what a line says, where it has 1 to 32 bytes; any other cannot be read
unfoldable pub line_of : List ℕ → Line
line_of l = cond (leb 1 (length l) && leb (length l) 32) (words_line (words l)) unreadable
