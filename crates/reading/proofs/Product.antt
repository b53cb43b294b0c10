-- An f32 times a whole number up to 2 ^ 29 is exact as an f64: at most 53 binary digits, in units of 2 ^ -1074.
use Rattle.std.proofs.Common.{◌≡◌, ℕ, zero, suc, ◌+◌, ◌-◌, ◌*◌, ◌%◌, ◌^◌, ◌<◌, ◌≤◌, Bool, true, false, not, ◌&&◌, T, eqb, ltb, leb, ℤ, pos, negsuc, sym, ap, ◌∙◌, subst, true≢false, le_trans, le_of_eq, lt_of_lt_of_le, lt_of_le_of_lt, mul-le-mul_right, mul_assoc, mul_comm, lt_of_mul-lt-mul_right, mul-le-mul_left, mul-lt-mul_of_pos_right, mul-pos, one-mul, lt_of_not-le, zero-mul, mul-one, mul_right_comm, not-le_of_lt, mul_left_comm, arith, lit<, lit≤, eqb→eq, ltb→lt, leb→le, pow_pos, pow-add}
use mathlib.Core.Bool.{false≢true}
use lib.Pow.{pow-lt}
use lib.Ieee.{Float, Format, nan, inf, fin, binary32, binary64, prec, up, down, round, mul, of_int, fits, is_nan}
use lib.Ieee.Digits.{back}
use lib.Ieee.Fits.{up_pos, down_pos, and_i, fits_widens}
use lib.Ieee.Exact.{HasValue, round_exact}
use lib.Ieee.Back.{round_whole}
use lib.Ieee.Scale.{finite, round_same}
use Rattle.reading.specs.Code.Product.{IsProduct}

-- a whole number as a float of either format
pub whole_float : (f : Format) (n : ℕ) → n ≤ 2 ^ prec f → HasValue (of_int f (pos n)) false n 1
unfolding of_int
whole_float f n h = round_whole f false n h

-- what an f32 is, as m · up e / down e
record Small (m : ℕ) (e : ℤ) : Type 0 where
  digits : m < 2 ^ 24
  deep : down e ≤ 2 ^ 149
  high : m * up e < 2 ^ 128 * down e

-- what passes four tests passes the last three
last_three : (a b c d : Bool) → T (a && b && c && d) → T b × T c × T d
last_three false b c d t = absurd t
last_three true false c d t = absurd t
last_three true true false d t = absurd t
last_three true true true d t = (tt, tt, t)

small : (s : Bool) (m : ℕ) (e : ℤ) → T (fits binary32 (fin s m e)) → Small m e
unfolding fits
small s zero e t =
    let h : up e * down e ≡ 1 = eqb→eq (up e * down e) 1 t in
    let g : 1 * down e ≤ up e * down e = mul-le-mul_right (down e) (up_pos e) in
    record {
      digits = lit< tt;
      deep = le_trans {m = 1} (omega arith) (lit≤ tt);
      high = subst (λ (x : ℕ). x < 2 ^ 128 * down e) (sym (zero-mul (up e))) (mul-pos (lit< tt) (down_pos e));
    }
small s (suc m) e t =
    let k = last_three (eqb (suc m % 2) 1) (ltb (suc m) (2 ^ 24)) (leb (down e) (2 ^ 149)) (ltb (suc m * up e) (2 ^ 128 * down e)) t in
    record {
      digits = ltb→lt (suc m) (2 ^ 24) k.0;
      deep = leb→le (down e) (2 ^ 149) k.1;
      high = ltb→lt (suc m * up e) (2 ^ 128 * down e) k.2;
    }

-- 2 ^ e in units of 2 ^ -1074 is a power of two
record Shift (e : ℤ) : Type 0 where
  j : ℕ
  is : 2 ^ j * down e ≡ up e * 2 ^ 1074

shift : (e : ℤ) → down e ≤ 2 ^ 149 → Shift e
shift (pos k) h = record { j = k + 1074; is = mul-one (2 ^ (k + 1074)) ∙ pow-add 2 k 1074 }
shift (negsuc k) h =
    let l : suc k < 150 = lt_of_not-le (λ (g : 150 ≤ suc k). not-le_of_lt (pow-lt {i = 149} {j = suc k} g) h) in
    record {
      j = 1074 - suc k;
      is = sym (pow-add 2 (1074 - suc k) (suc k)) ∙ ap (λ (x : ℕ). 2 ^ x) (back 1074 (suc k) (omega arith)) ∙ sym (one-mul (2 ^ 1074));
    }

-- The product, with x = m * u / b and y = n * v / c as plain numbers
crossed : (m u b n v c N : ℕ) → n * v ≡ N * c → m * u * (n * v) * b ≡ m * u * N * (b * c)
crossed m u b n v c N h = rw h (simp (mul_assoc, mul_comm, mul_left_comm))

in_units : (m u b N k l : ℕ) → k * b ≡ u * l → m * u * N * l ≡ m * N * k * b
in_units m u b N k l h = mul_right_comm (m * u) N l ∙ rw (mul_assoc m u l, ← h) (simp (mul_assoc, mul_comm, mul_left_comm))

in_range_lem : (a N b : ℕ) → N ≤ 2 ^ 29 → a < 2 ^ 128 * b → a * N * 2 ^ 1074 < 2 ^ 2098 * b
in_range_lem a N b p q =
    lt_of_le_of_lt (mul-le-mul_right (2 ^ 1074) (mul-le-mul_left a p))
    (lt_of_le_of_lt (le_of_eq (mul_assoc a (2 ^ 29) (2 ^ 1074)))
    (lt_of_lt_of_le (mul-lt-mul_of_pos_right q (pow_pos 1103)) (le_trans (le_of_eq (mul_right_comm (2 ^ 128) b (2 ^ 1103))) (mul-le-mul_right b (lit≤ tt)))))

finite_product : (s : Bool) (m : ℕ) (e : ℤ) (n : ℕ) (d : ℤ) (N : ℕ) → Small m e → N ≤ 2 ^ 29 → n * up d ≡ N * down d
    → HasValue (round binary64 s (m * up e * (n * up d)) (down e * down d)) s (m * up e * N) (down e)
finite_product s m e n d N k h w =
    let r = shift e k.deep in
    let units : m * up e * N * 2 ^ 1074 ≡ m * N * 2 ^ r.j * down e = in_units m (up e) (down e) N (2 ^ r.j) (2 ^ 1074) r.is in
    let few : m * N < 2 ^ 53 = lt_of_le_of_lt (mul-le-mul_left m h) (mul-lt-mul_of_pos_right k.digits (pow_pos 29)) in
    let top : m * N * 2 ^ r.j * down e < 2 ^ 2098 * down e = subst (λ (x : ℕ). x < 2 ^ 2098 * down e) units (in_range_lem (m * up e) N (down e) h k.high) in
    subst (λ (x : Float). HasValue x s (m * up e * N) (down e))
    (sym (round_same binary64 s (m * up e * (n * up d)) (down e * down d) (m * up e * N) (down e) (mul-pos (down_pos e) (down_pos d)) (down_pos e) (crossed m (up e) (down e) n (up d) (down d) N w)))
    (round_exact binary64 s (m * up e * N) (down e) (m * N) r.j (down_pos e) few (lt_of_mul-lt-mul_right (down e) top) units)

product : (s : Bool) (m : ℕ) (e : ℤ) (y : Float) (N : ℕ) → T (fits binary32 (fin s m e)) → N ≤ 2 ^ 29 → HasValue y false N 1
    → HasValue (mul binary64 (fin s m e) y) s (m * up e * N) (down e)
unfolding mul
product s m e nan N f h v = absurd v
product s m e (inf t) N f h v = absurd v
product s m e (fin true n d) N f h v = absurd (true≢false v.0)
product true m e (fin false n d) N f h v = finite_product true m e n d N (small true m e f) h (sym (mul-one (n * up d)) ∙ v.1)
product false m e (fin false n d) N f h v = finite_product false m e n d N (small false m e f) h (sym (mul-one (n * up d)) ∙ v.1)

no_nan : (x : Float) → finite x ≡ true → T (not (is_nan x))
unfolding is_nan
no_nan nan h = absurd (false≢true h)
no_nan (inf s) h = tt
no_nan (fin s m e) h = tt

-- an f32 that is no NaN is an f64 too
pub widened : (x : Float) → T (fits binary32 x) → finite x ≡ true → T (fits binary64 x && not (is_nan x))
widened x f h = and_i (fits binary64 x) (not (is_nan x)) (fits_widens x f) (no_nan x h)

pub product_exact : (x : Float) (n : ℕ) → T (fits binary32 x) → finite x ≡ true → n ≤ 2 ^ 29 → IsProduct x n (mul binary64 x (of_int binary64 (pos n)))
product_exact nan n f h l = absurd (false≢true h)
product_exact (inf s) n f h l = absurd (false≢true h)
product_exact (fin s m e) n f h l = product s m e (of_int binary64 (pos n)) n f l (whole_float binary64 n (omega arith))
