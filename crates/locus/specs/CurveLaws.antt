-- The numbers by which a curve is followed near its middle entry are small, and its numerator there is at least half of the denominator.
use Rattle.std.specs.Prelude.{◌≡◌, ◌≤◌, ℤ, pos, nat_abs, ◌+ℤ◌, ◌-ℤ◌, ◌*ℤ◌}
use Rattle.std.proofs.Common.{ap, sym, ◌∙◌, arith}
use Rattle.std.specs.Int.Signed.{lt_z}
use Rattle.std.specs.Int.{w64}
use Rattle.arith.specs.TestLaws.{cond_both}
use Rattle.arith.specs.IntegerLaws.{AtLeast, sum_at_least}
use Rattle.arith.specs.SignedLaws.{read, Kept, kept, kept_read, kept_sum, kept_product, kept_less}
use Rattle.locus.specs.Stored.{piece_length}
use Rattle.locus.specs.Code.Bounds.{far_out}
use Rattle.locus.specs.Code.Fits.{CurveFits}
use Rattle.locus.specs.Code.Pieces.{half, third_difference_at, numerator, curve_at}
use Rattle.locus.specs.declared.Curve.{Curve}

-- t places from the middle entry; d is the third difference that the code has chosen there
module _ (curve : Curve) (t d : ℤ) (f : CurveFits curve) (h : nat_abs t ≤ piece_length) (chosen : d ≡ third_difference_at curve (read w64 t)) where
  t_kept : Kept t t 2584
  t_kept = kept t h

  third_kept : Kept d (third_difference_at curve t) 40000
  third_kept =
      record {
        same = chosen ∙ ap (third_difference_at curve) (kept_read t_kept tt);
        small = cond_both (λ (z : ℤ). nat_abs z ≤ 40000) (lt_z t (pos 0)) f.left f.right;
      }

  -- the machine's numbers, in the order of the code; 6677056 is the square of a piece's length
  abbrev square : ℤ
  square = read w64 t *ℤ read w64 t

  abbrev excess : ℤ
  excess = read w64 square -ℤ pos 6677056

  abbrev bend : ℤ
  bend = read w64 t *ℤ read w64 curve.c

  abbrev incline : ℤ
  incline = read w64 curve.b +ℤ read w64 bend

  abbrev third : ℤ
  third = read w64 excess *ℤ read w64 d

  abbrev slope : ℤ
  slope = read w64 incline +ℤ read w64 third

  abbrev rest : ℤ
  rest = read w64 t *ℤ read w64 slope

  abbrev pub whole : ℤ
  whole = read w64 curve.a +ℤ read w64 rest

  pub square_kept : Kept square (t *ℤ t) 6677056
  square_kept = kept_product t_kept t_kept tt tt

  pub excess_kept : Kept excess (t *ℤ t -ℤ pos 6677056) 13354112
  excess_kept = kept_less 6677056 square_kept tt

  pub bend_kept : Kept bend (t *ℤ curve.c) 400623360000
  bend_kept = kept_product t_kept (kept curve.c f.c) tt tt

  pub incline_kept : Kept incline (curve.b +ℤ t *ℤ curve.c) 801246720000
  incline_kept = kept_sum (kept curve.b f.b) bend_kept tt tt

  pub third_term_kept : Kept third ((t *ℤ t -ℤ pos 6677056) *ℤ third_difference_at curve t) 534164480000
  third_term_kept = kept_product excess_kept third_kept tt tt

  pub slope_kept : Kept slope (curve.b +ℤ t *ℤ curve.c +ℤ (t *ℤ t -ℤ pos 6677056) *ℤ third_difference_at curve t) 1335411200000
  slope_kept = kept_sum incline_kept third_term_kept tt tt

  pub rest_kept : Kept rest (t *ℤ (curve.b +ℤ t *ℤ curve.c +ℤ (t *ℤ t -ℤ pos 6677056) *ℤ third_difference_at curve t)) 3450702540800000
  rest_kept = kept_product t_kept slope_kept tt tt

  pub whole_kept : Kept whole (numerator curve.a curve.b curve.c (third_difference_at curve t) t) 203450702540800000
  unfolding numerator
  whole_kept = kept_sum (kept curve.a f.a_small) rest_kept tt tt

-- the numerator is at least the half that it is rounded by, and its quotient is a coordinate
module _ (curve : Curve) (t : ℤ) (f : CurveFits curve) (h : nat_abs t ≤ piece_length) where
  abbrev n : ℤ
  n = numerator curve.a curve.b curve.c (third_difference_at curve t) t

  back_third : third_difference_at curve t ≡ third_difference_at curve (read w64 t)
  back_third = ap (third_difference_at curve) (sym (kept_read (kept t {k = 2584} h) tt))

  pub at_least_half : AtLeast half n
  unfolding numerator
  at_least_half = sum_at_least curve.a _ half f.a_nonneg (omega (arith, (rest_kept curve t (third_difference_at curve t) f h back_third).small, f.a_large))

  pub curve_small : curve_at curve t ≤ far_out
  curve_small = omega (arith, (whole_kept curve t (third_difference_at curve t) f h back_third).small)
