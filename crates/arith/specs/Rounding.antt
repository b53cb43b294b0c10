-- Rounding a quotient to the nearest whole number, halves up (document 01, "Readings"; document 02, No. 3).
use Rattle.std.specs.Prelude.{ℕ, ◌+◌, ◌*◌, ◌/◌}

-- floor(a / b + 1 / 2); 0 where b is 0, as `◌/◌` has it
abbrev pub nearest_quotient : ℕ → ℕ → ℕ
nearest_quotient a b = (2 * a + b) / (2 * b)
