-- A line read a byte at a time, in numbers alone; specs/ScanLaws.antt proves that it says what specs/Line.antt says.
use Rattle.std.specs.Prelude.{ℕ, ◌+◌, ◌*◌, ◌-◌, List, [], ◌∷◌, Bool, false, cond, ◌&&◌, ltb, eqb, Option, Some, None, ok_or}
use Rattle.refusal.specs.declared.Refusal.TheVariants.{BadLine}
use Rattle.text.specs.declared.grammar.Request.{Request}
use Rattle.text.specs.declared.grammar.Numbers.{Numbers}
use Rattle.text.specs.declared.grammar.Scan.{Scan}
use Rattle.text.specs.Line.{Line, space, digit_zero, digit_nine, default_steps, request}

-- before the first byte
abbrev pub no_numbers : Numbers
no_numbers = record { earlier = 0; previous = 0; current = 0; spaces = 0; digits = 0 }

-- a space ends a number, and a third number is the last
abbrev pub after_space : Numbers → Option Numbers
after_space n =
    cond (ltb 1 n.spaces) None
    (cond (eqb n.digits 0) None
    (Some (record { earlier = n.previous; previous = n.current; current = 0; spaces = n.spaces + 1; digits = 0 })))

-- one digit more, of 7 at most
abbrev pub after_digit : Numbers → ℕ → Option Numbers
after_digit n d =
    cond (ltb 6 n.digits) None
    (cond (ltb 999999 n.current) None
    (Some (record { earlier = n.earlier; previous = n.previous; current = 10 * n.current + d; spaces = n.spaces; digits = n.digits + 1 })))

abbrev pub after_byte : Numbers → ℕ → Option Numbers
after_byte n x =
    cond (eqb x space) (after_space n)
    (cond (ltb x digit_zero) None
    (cond (ltb digit_nine x) None
    (after_digit n (x - digit_zero))))

-- what the numbers ask for if the line ends here
abbrev pub asked : Numbers → Option Request
asked n =
    cond (eqb n.digits 0) None
    (cond (eqb n.spaces 1) (Some (request n.previous n.current default_steps))
    (cond (eqb n.spaces 2) (Some (request n.earlier n.previous n.current)) None))

-- a step on the numbers of a line; nothing mends one that cannot be read
abbrev pub step_of : {A : Type 0} → (Numbers → Option A) → Option Numbers → Option A
step_of f None = None
step_of f (Some n) = f n

abbrev pub empty_scan : Scan
empty_scan = record { numbers = Some no_numbers }

-- a line that cannot be read, whatever follows
abbrev pub bad_scan : Scan
bad_scan = record { numbers = None }

abbrev pub scan_space : Scan → Scan
scan_space s = record { numbers = step_of after_space s.numbers }

abbrev pub scan_digit : Scan → ℕ → Scan
scan_digit s d = record { numbers = step_of (λ (n : Numbers). after_digit n d) s.numbers }

abbrev pub scan_byte : Scan → ℕ → Scan
scan_byte s x = record { numbers = step_of (λ (n : Numbers). after_byte n x) s.numbers }

-- after the bytes of a list
abbrev pub scanned : Scan → List ℕ → Scan
scanned s [] = s
scanned s (x ∷ l) = scanned (scan_byte s x) l

-- whether no byte has been read
abbrev pub no_byte : Option Numbers → Bool
no_byte None = false
no_byte (Some n) = eqb n.spaces 0 && eqb n.digits 0

abbrev pub is_empty : Scan → Bool
is_empty s = no_byte s.numbers

-- what the line says if it ends here
abbrev pub scan_line : Scan → Line
scan_line s = ok_or (step_of asked s.numbers) BadLine
