-- Laws of the float answer: the whole numbers that it divides are held exactly, each float is their fraction rounded once, and the
-- whole-number answer is kept.
use Rattle.std.specs.Prelude.{◌≡◌, refl, Bool, true, false, List, ℕ, ◌*◌, ◌^◌, ◌≤◌, ◌<◌, eqb, ℤ, pos, negsuc, nat_abs, Float}
use Rattle.std.proofs.Common.{le_trans, lt_irrefl, mul_assoc, mul_comm, mul_left_comm, mul-pos, zero-mul, arith, lit≤, lit<, eq-eqb, ne_eqb}
use Rattle.std.specs.Float.{nan, inf, fin, binary64}
use Rattle.std.specs.Float.Ieee.{unlike, up, down, round, div, of_int}
use Rattle.std.specs.Float.Ieee.Fits.{down_pos}
use Rattle.std.specs.Float.Ieee.Scale.{round_same}
use Rattle.std.specs.Float.Ieee.Exact.{HasValue}
use Rattle.std.specs.Float.Ieee.Back.{round_whole}
use Rattle.arith.specs.TestLaws.{cond_both}
use Rattle.arith.specs.Units.{micro}
use Rattle.reading.specs.Convert.{Converted}
use Rattle.classes.specs.Classes.{kelvin_places}
use Rattle.cct.specs.declared.Answer.{Answer}
use Rattle.cct.specs.declared.FloatAnswer.{FloatAnswer}
use Rattle.cct.specs.Answers.{answer}
use Rattle.cct.specs.AnswerLaws.{answer_bounded, duv_small}
use Rattle.cct.specs.FloatAnswers.{double, float_answer}

abbrev pub negative : ℤ → Bool
negative (pos n) = false
negative (negsuc n) = true

-- the float x is the whole number z, with nothing rounded away
abbrev pub Holds : Float → ℤ → Type 0
Holds x z = HasValue x (negative z) (nat_abs z) 1

-- a double holds every whole number up to 2 ^ 53 either way
pub double_exact : (z : ℤ) → nat_abs z ≤ 2 ^ 53 → Holds (double z) z
unfolding of_int
double_exact (pos n) h = round_whole binary64 false n h
double_exact (negsuc n) h = round_whole binary64 true _ h

-- document 01's "held exactly": the four whole numbers that the floats of an accepted answer are quotients of
pub record Exact (a : Answer) : Type 0 where
  pub kelvin_over : Holds (double (pos kelvin_places)) (pos kelvin_places)
  pub kelvin_under : Holds (double (pos a.place)) (pos a.place)
  pub duv_over : Holds (double a.duv) a.duv
  pub duv_under : Holds (double (pos micro)) (pos micro)

pub answer_exact : (es : List ℕ) (c : Converted) (n : ℕ) → (answer es c n).refusal ≡ 0 → Exact (answer es c n)
answer_exact es c n e =
    let b = answer_bounded es c n e in
    record {
      kelvin_over = double_exact (pos kelvin_places) (lit≤ tt);
      kelvin_under = double_exact (pos (answer es c n).place) (le_trans b.to (lit≤ tt));
      duv_over = double_exact (answer es c n).duv (le_trans (duv_small b) (lit≤ tt));
      duv_under = double_exact (pos micro) (lit≤ tt);
    }

-- (m / e) / (n / d) is a / b where m / e is a and n / d is b
cross : (a b e d m n : ℕ) → m * 1 ≡ a * e → n * 1 ≡ b * d → m * d * b ≡ a * (n * e)
cross a b e d m n h k =
    let x : m ≡ a * e = omega arith in
    let y : n ≡ b * d = omega arith in
    rw (x, y) (simp (mul_assoc, mul_comm, mul_left_comm))

-- the quotient of two floats that are whole numbers is their fraction, rounded once
quotient : (x y : Float) (s : Bool) (a b : ℕ) → 0 < b → HasValue x s a 1 → HasValue y false b 1 → div binary64 x y ≡ round binary64 s a b
unfolding div
quotient nan y s a b p h k = absurd h
quotient (inf t) y s a b p h k = absurd h
quotient (fin t m e) nan s a b p h k = absurd k
quotient (fin t m e) (inf t') s a b p h k = absurd k
quotient (fin t m e) (fin t' n d) s a b p h k =
    let under : 0 < n * up d = omega (arith, k.1, mul-pos p (down_pos d)) in
    let some : n ≡ 0 → ⊥ = λ z. absurd (lt_irrefl 0 (rw (z, zero-mul (up d)) at under)) in
    rw (ne_eqb n 0 some, h.0, k.0, plus s) (round_same binary64 s (m * up e * down d) (n * up d * down e) a b (mul-pos under (down_pos e)) p (cross a b (down e) (down d) (m * up e) (n * up d) h.1 k.1))
  where
    plus : (z : Bool) → unlike z false ≡ z
    plus true = refl
    plus false = refl

-- so the quotient of two whole numbers as doubles is their fraction, rounded once to a double
pub quotient_rounded : (z : ℤ) (n : ℕ) → nat_abs z ≤ 2 ^ 53 → 0 < n → n ≤ 2 ^ 53 → div binary64 (double z) (double (pos n)) ≡ round binary64 (negative z) (nat_abs z) n
quotient_rounded z n h p l = quotient (double z) (double (pos n)) (negative z) (nat_abs z) n p (double_exact z h) (double_exact (pos n) l)

-- the floats of an accepted answer, as document 01 says them
pub record Rounded (a : Answer) : Type 0 where
  pub kelvin : (float_answer a).kelvin ≡ round binary64 false kelvin_places a.place
  pub duv : (float_answer a).duv ≡ round binary64 (negative a.duv) (nat_abs a.duv) micro

pub answer_rounded : (es : List ℕ) (c : Converted) (n : ℕ) → (answer es c n).refusal ≡ 0 → Rounded (answer es c n)
unfolding float_answer
answer_rounded es c n e =
    let a : Answer = answer es c n in
    let b = answer_bounded es c n e in
    let t = eq-eqb a.refusal 0 e in
    record {
      kelvin = rw t (quotient_rounded (pos kelvin_places) a.place (lit≤ tt) (le_trans (lit≤ tt) b.from) (le_trans b.to (lit≤ tt)));
      duv = rw t (quotient_rounded a.duv micro (le_trans (duv_small b) (lit≤ tt)) (lit< tt) (lit≤ tt));
    }

-- the whole-number part of a float answer is the answer it was made from, so what is proved of `answer` holds of the `.whole` that the
-- entry points and the C functions give
pub float_whole : (a : Answer) → (float_answer a).whole ≡ a
unfolding float_answer
float_whole a = cond_both (λ (f : FloatAnswer). f.whole ≡ a) (eqb a.refusal 0) refl refl
