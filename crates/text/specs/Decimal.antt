-- Numbers in decimal, as the program prints them.
use Rattle.std.specs.Prelude.{ℕ, zero, suc, ◌+◌, ◌/◌, ◌%◌, List, [], ◌∷◌, ◌++◌, cond, ℤ, pos, negsuc, ltb}
use Rattle.text.specs.Line.{digit_zero, minus_sign}

-- the digits of n with no zero in front, where k are enough; otherwise its last k digits
abbrev pub digits_of : ℕ → ℕ → List ℕ
digits_of zero n = []
digits_of (suc k) n = cond (ltb n 10) ((digit_zero + n) ∷ []) (digits_of k (n / 10) ++ ((digit_zero + n % 10) ∷ []))

-- n in decimal: 10 digits hold every number of 32 bits
abbrev pub decimal : ℕ → List ℕ
decimal n = digits_of 10 n

-- a signed number, with a minus sign where it is below zero
abbrev pub signed : ℤ → List ℕ
signed (pos n) = decimal n
signed (negsuc n) = minus_sign ∷ decimal (suc n)
