-- What the code makes of a table's entries, and of a curve, is what the definitions say.
use mathlib.Core.Path.{◌≡◌, refl}
use Prim.Native.Nat.{ℕ, ◌+◌, ◌*◌, ◌/◌, ◌≤◌}
use native.Mathlib.Omega.{arith}
use lib.Dec.{T}
use lib.IntN.{ℤ, pos, nat_abs, ◌-ℤ◌, ◌*ℤ◌}
use lib.Signed.{non_neg}
use mir.Syntax.{w64}
use mir.Val.{SFits, Fits, to_z}
use mir.Facts.{to_z_pos}
use Rattle.arith.specs.Units.{micro}
use Rattle.arith.specs.IntegerLaws.{gap_within, at_least_nonneg}
use Rattle.arith.specs.SignedLaws.{read, back, Kept, kept_read, kept_times}
use Rattle.locus.specs.Stored.{piece_length}
use Rattle.locus.specs.Locus.{denominator}
use Rattle.locus.specs.CurveLaws.{whole, whole_kept, at_least_half}
use Rattle.locus.specs.Code.Fits.{CurveFits}
use Rattle.locus.specs.Code.Pieces.{half, curve_through, third_difference_at, numerator, curve_at}
use Rattle.locus.specs.declared.Curve.{Curve}

-- the curve through three coordinates
module _ (x y z : ℕ) (hx : x ≤ micro) (hy : y ≤ micro) (hz : z ≤ micro) where
  pub slope_kept : {r : ℤ} → r ≡ pos z -ℤ pos x → Kept (pos 20031168 *ℤ read w64 r) (pos 20031168 *ℤ (pos z -ℤ pos x)) 20031168000000
  slope_kept e = kept_times 20031168 (record { same = e; small = gap_within z x 1000000 (omega arith) (omega arith) }) tt

  pub bend_kept : {r : ℤ} → r ≡ pos (z + x) -ℤ pos (2 * y) → Kept (pos 7752 *ℤ read w64 r) (pos 7752 *ℤ (pos (z + x) -ℤ pos (2 * y))) 15504000000
  bend_kept e = kept_times 7752 (record { same = e; small = gap_within (z + x) (2 * y) 2000000 (omega arith) (omega arith) }) tt

  pub curve_from :
      {b c l r : ℤ} → b ≡ pos z -ℤ pos x → c ≡ pos (z + x) -ℤ pos (2 * y) → SFits w64 l → SFits w64 r
      → ◌≡◌ {A = Curve}
      (record {
        a = to_z w64 (denominator * y + half);
        b = read w64 (pos 20031168 *ℤ read w64 b);
        c = read w64 (pos 7752 *ℤ read w64 c);
        left = read w64 l;
        right = read w64 r;
      })
      (curve_through x y z l r)
  curve_from eb ec fl fr =
      rw
      (to_z_pos w64 {n = denominator * y + half} (omega arith), kept_read (slope_kept eb) tt, kept_read (bend_kept ec) tt, back fl, back fr)
      refl

-- the quotient of what was worked out along a curve
module _ (curve : Curve) (t d : ℤ) (f : CurveFits curve) (h : nat_abs t ≤ piece_length) (chosen : d ≡ third_difference_at curve (read w64 t)) where
  abbrev n : ℤ
  n = read w64 (whole curve t d f h chosen)

  n_read : n ≡ numerator curve.a curve.b curve.c (third_difference_at curve t) t
  n_read = kept_read (whole_kept curve t d f h chosen) tt

  pub whole_fits : T (non_neg n) × Fits w64 (nat_abs n)
  whole_fits = rw n_read (at_least_nonneg (at_least_half curve t f h), record { fits = omega (arith, (whole_kept curve t d f h chosen).small) })

  pub quotient_is : nat_abs n / denominator ≡ curve_at curve t
  quotient_is = rw n_read refl

-- the places past the middle entry, handed on
pub near_read : {r x : ℤ} → r ≡ x → nat_abs x ≤ piece_length → read w64 r ≡ x
near_read e h = kept_read (record { same = e; small = h }) tt
