use Rattle.arith.specs.SignedLaws.{kept_fits}
use Rattle.locus.specs.CurveLaws.{third_term_kept, slope_kept, rest_kept, whole_kept}
use Rattle.locus.proofs.Curves.{whole_fits, quotient_is}
use Rattle.locus.proofs.Curve.at.Goals as goal

pub overflow_mul-n-2 : goal.overflow_mul-n-2
overflow_mul-n-2 c = let s = c in kept_fits (third_term_kept s.args.self s.args.t _ s.requires.0 s.requires.1 c.third_difference_at-d.ensures) tt

pub overflow_add-n-2 : goal.overflow_add-n-2
overflow_add-n-2 c = let s = c in kept_fits (slope_kept s.args.self s.args.t _ s.requires.0 s.requires.1 c.third_difference_at-d.ensures) tt

pub overflow_mul-n-3 : goal.overflow_mul-n-3
overflow_mul-n-3 c = let s = c in kept_fits (rest_kept s.args.self s.args.t _ s.requires.0 s.requires.1 c.third_difference_at-d.ensures) tt

pub overflow_add-n-3 : goal.overflow_add-n-3
overflow_add-n-3 c = let s = c in kept_fits (whole_kept s.args.self s.args.t _ s.requires.0 s.requires.1 c.third_difference_at-d.ensures) tt

pub overflow_cast-result : goal.overflow_cast-result
overflow_cast-result c = let s = c in whole_fits s.args.self s.args.t _ s.requires.0 s.requires.1 c.third_difference_at-d.ensures

pub returns : goal.returns
returns c = let s = c in quotient_is s.args.self s.args.t _ s.requires.0 s.requires.1 c.third_difference_at-d.ensures
