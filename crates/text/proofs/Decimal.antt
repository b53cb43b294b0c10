-- The library's text of a number is ours.
use Rattle.std.proofs.Common.{◌≡◌, refl, [], ◌+◌, sym, ◌∙◌, ap, ℕ, suc, ◌^◌, ◌<◌, ◌∷◌, ℤ, pos, negsuc, nat_abs, Fits, SFits, w32, arith, le-ltb, lt-ltb}
use Rattle.std.proofs.Math.Facts.{Fits-nat_abs}
use Rattle.std.proofs.lemmas.Fmt.{AppendsLastDigit, decimal_from_appends, length-decimal-le}
use Rattle.std.specs.Fmt as fmt
use Rattle.arith.specs.SignedLaws.{read, back}
use Rattle.text.specs.Line.{digit_zero, minus_sign}
use Rattle.text.specs.Decimal.{digits_of, decimal, signed}

appends : AppendsLastDigit digits_of
appends = record { one = λ k n h. simp (lt-ltb n 10 h); more = λ k n h. simp (le-ltb n 10 h) }

pub decimal_printed : (n : ℕ) → Fits w32 n → fmt.decimal n ≡ decimal n
decimal_printed n f =
    let h : n < 4294967296 = f.fits in
    let small : n < 2 ^ 64 = omega arith in
    sym (decimal_from_appends digits_of appends 10 n small (length-decimal-le 10 n (omega arith) (omega arith) small))

-- a number of one digit
pub one_digit : (n : ℕ) → n < 10 → (digit_zero + n) ∷ [] ≡ decimal n
one_digit n h = rw (lt-ltb n 10 h) refl

by_sign : (z : ℤ) → Fits w32 (nat_abs z) → fmt.signed_decimal z ≡ signed z
by_sign (pos n) f = decimal_printed n f
by_sign (negsuc n) f = ap (λ l. minus_sign ∷ l) (decimal_printed (suc n) f)

pub signed_printed : (z : ℤ) → SFits w32 z → fmt.signed_decimal (read w32 z) ≡ signed z
signed_printed z f = ap fmt.signed_decimal (back f) ∙ by_sign z (Fits-nat_abs tt f)
