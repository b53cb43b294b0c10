-- The shift of a number of 64 bits is the least that leaves it under 2^32, and is what its leading zeros say.
use Rattle.std.specs.Prelude.{◌≡◌, refl, Bool, true, false, ℕ, zero, suc, ◌+◌, ◌-◌, ◌/◌, ◌^◌, ◌≤◌, ◌<◌, ltb}
use Rattle.std.proofs.Common.{ap, le_of_suc-le-suc, pow-suc, le-div_iff_mul-le, arith, pow_pos, pow-add, pow_mono, shr_lt, lt-ltb, le-ltb}
use Rattle.std.proofs.Math.Pow.{shr_mono}
use Rattle.std.specs.Int.Count.{count_leading_zeros}
use Rattle.std.proofs.lemmas.Nat.{leading_length}
use Rattle.spectral.specs.declared.Tristimulus.{Tristimulus}
use Rattle.spectral.specs.Samples.{lowest, shift_of, largest, divided}

-- k is the least shift that leaves n under 2^32
pub record LeastShift (n k : ℕ) : Type 0 where
  pub most : k ≤ 32
  pub under : n / 2 ^ k < 2 ^ 32
  pub none_less : (j : ℕ) → j < k → 2 ^ 32 ≤ n / 2 ^ j

-- the lowest at which a test passes is the only number at which it passes and before which it passes at none
lowest_only : (test : ℕ → Bool) (n k : ℕ) → k ≤ n → test k ≡ true → ((j : ℕ) → j < k → test j ≡ false) → k ≡ lowest test n
unfolding lowest
lowest_only test zero k h p q = omega arith
lowest_only test (suc n) zero h p q = rw p refl
lowest_only test (suc n) (suc k) h p q =
    rw (q 0 (omega arith)) (ap suc (lowest_only (λ (j : ℕ). test (suc j)) n k (le_of_suc-le-suc h) p (λ j l. q (suc j) (omega arith))))

-- the search for the shift of n goes far enough
within : (n k : ℕ) → LeastShift n k → k ≤ n
within n zero s = omega arith
within n (suc k) s = omega (arith, s.most, s.none_less 0 (omega arith))

shift_only : (n k : ℕ) → LeastShift n k → k ≡ shift_of n
unfolding shift_of
shift_only n k s =
    lowest_only (λ (j : ℕ). ltb (n / 2 ^ j) (2 ^ 32)) n k (within n k s) (lt-ltb (n / 2 ^ k) (2 ^ 32) s.under)
    (λ j l. le-ltb (n / 2 ^ j) (2 ^ 32) (s.none_less j l))

-- as many bits as n has beyond 32
by_leading : (n : ℕ) → n < 2 ^ 64 → LeastShift n (32 - count_leading_zeros 64 n)
by_leading n h =
    let k : ℕ = 32 - count_leading_zeros 64 n in
    let l = leading_length 64 n h in
    let m : ℕ = l.0 in
    let reach : n < 2 ^ (32 + k) = omega (arith, l.2, pow_mono {i = m} {j = 32 + k} (omega (arith, l.1))) in
    record {
      most = omega arith;
      under = shr_lt 32 k reach;
      none_less = λ j q. (le-div_iff_mul-le (pow_pos j)).1 (omega (arith, l.3, pow-add 2 32 j, pow-suc 2 (32 + j), pow_mono {i = suc (32 + j)} {j = m} (omega (arith, l.1))));
    }

-- the leading zeros give the shift
pub shift_leading : (n : ℕ) → n < 2 ^ 64 → 32 - count_leading_zeros 64 n ≡ shift_of n
shift_leading n h = shift_only n (32 - count_leading_zeros 64 n) (by_leading n h)

-- the shift is the least
pub shift_least : (n : ℕ) → n < 2 ^ 64 → LeastShift n (shift_of n)
shift_least n h = rw (shift_leading n h) at (by_leading n h)

-- what the shift of the largest leaves of a number that is no larger
pub shifted_under : (n a : ℕ) → n < 2 ^ 64 → a ≤ n → a / 2 ^ shift_of n < 2 ^ 32
shifted_under n a h l = omega (arith, (shift_least n h).under, shr_mono {a = a} {b = n} (shift_of n) l)

-- each of X, Y and Z is under 2^32
pub record Under (t : Tristimulus) : Type 0 where
  pub x : t.x < 2 ^ 32
  pub y : t.y < 2 ^ 32
  pub z : t.z < 2 ^ 32

-- where they have 64 bits, they have 32 after the division
pub divided_under : (t : Tristimulus) → largest t < 2 ^ 64 → Under (divided t)
unfolding divided
divided_under t h =
    record {
      x = shifted_under (largest t) t.x h (omega arith);
      y = shifted_under (largest t) t.y h (omega arith);
      z = shifted_under (largest t) t.z h (omega arith);
    }
