-- Laws of decimal numbers: their length, their digits one by one, and that they write the number.
use Rattle.std.specs.Prelude.{ℕ, zero, suc, ◌+◌, ◌-◌, ◌/◌, ◌%◌, ◌^◌, ◌≤◌, ◌<◌, ◌≡◌, refl, List, [], ◌∷◌, ◌++◌, Bool, true, false, cond, length, ℤ, pos, negsuc, ltb}
use Rattle.std.proofs.Common.{ap, ◌∙◌, arith, pow-suc, length-append, lt-ltb, le-ltb}
use Rattle.text.specs.Line.{digit_zero, value}
use Rattle.text.specs.ScanLaws.{value_snoc}
use Rattle.text.specs.Decimal.{digits_of, decimal, signed}

short_at : (t : Bool) (k n : ℕ) (l : List ℕ) → length l ≤ k → length (cond t ((digit_zero + n) ∷ []) (l ++ ((digit_zero + n % 10) ∷ []))) ≤ suc k
short_at true k n l h = omega arith
short_at false k n l h = omega (arith, length-append l ((digit_zero + n % 10) ∷ []))

pub digits_short : (k n : ℕ) → length (digits_of k n) ≤ k
digits_short zero n = omega arith
digits_short (suc k) n = short_at (ltb n 10) k n (digits_of k (n / 10)) (digits_short k (n / 10))

pub signed_short : (z : ℤ) → length (signed z) ≤ 11
signed_short (pos n) = omega (arith, digits_short 10 n)
signed_short (negsuc n) = omega (arith, digits_short 10 (suc n))

-- no digit, the only digit, and the last of several
pub no_digit : (k n : ℕ) → k ≡ 0 → digits_of k n ≡ []
no_digit k n h = ap (λ (z : ℕ). digits_of z n) h

pub only_digit : (k n : ℕ) → (k ≡ 0 → ⊥) → n < 10 → digits_of k n ≡ (digit_zero + n) ∷ []
only_digit zero n h l = absurd (h refl)
only_digit (suc k) n h l = simp (lt-ltb n 10 l)

pub last_digit : (k n : ℕ) → (k ≡ 0 → ⊥) → 10 ≤ n → digits_of k n ≡ digits_of (k - 1) (n / 10) ++ ((digit_zero + n % 10) ∷ [])
last_digit zero n h l = absurd (h refl)
last_digit (suc k) n h l =
    let p : k ≡ suc k - 1 = omega arith in
    simp (le-ltb n 10 l) (ap (λ (z : ℕ). digits_of z (n / 10) ++ ((digit_zero + n % 10) ∷ [])) p)

-- what is printed is read as the same number
value_digits : (k n : ℕ) → n < 10 ^ k → value (digits_of k n) ≡ n
value_digits zero n h = omega arith
value_digits (suc k) n h = by_size (ltb n 10) refl (value_digits k (n / 10) (omega (arith, pow-suc 10 k)))
  where
    by_size : (t : Bool) → ltb n 10 ≡ t → value (digits_of k (n / 10)) ≡ n / 10
        → value (cond t ((digit_zero + n) ∷ []) (digits_of k (n / 10) ++ ((digit_zero + n % 10) ∷ []))) ≡ n
    by_size true e ih = omega arith
    by_size false e ih = value_snoc 0 (digits_of k (n / 10)) (digit_zero + n % 10) ∙ omega (arith, ih)

pub value_decimal : (n : ℕ) → n < 10 ^ 10 → value (decimal n) ≡ n
value_decimal n h = value_digits 10 n h
