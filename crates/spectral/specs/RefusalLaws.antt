-- Refusals 9, 10 and 4 of spectral samples: each is given exactly under its condition, where none before it holds; and otherwise the
-- samples come to a point.
use Rattle.std.specs.Prelude.{◌≡◌, Bool, true, false, List, ℕ, ◌+◌, ◌*◌, eqb, Err}
use Rattle.std.proofs.Math.Path.{refl}
use Rattle.std.proofs.Common.{sym, ◌∙◌, arith}
use borrow.Author.Tests.{eq-eqb, ne_eqb, eqb-true, eqb-false}
use Rattle.arith.specs.TestLaws.{cond_both}
use Rattle.refusal.specs.declared.Refusal.{Refusal}
use Rattle.reading.specs.Convert.{of_xyz}
use Rattle.reading.specs.ConvertLaws.{Within, over_within}
use Rattle.reading.specs.RefusalLaws.{never, of_given}
use Rattle.spectral.specs.declared.Tristimulus.{Tristimulus}
use Rattle.spectral.specs.Samples.{lengths_good, limits_good, sums, divided, of_divided, convert_samples}
use Rattle.spectral.specs.Conditions.{Sound, SamplesCondition, bad_lengths, too_large, too_dark}

-- what the XYZ rule gives for three numbers is within the range of u and v
xyz_within : (x y z : ℕ) → Within (of_xyz x y z)
xyz_within x y z = over_within x y (x + 15 * y + 3 * z) (omega arith) (omega arith)

module _ (s x y z : List ℕ) where
  -- X, Y and Z after the division
  abbrev pub values : Tristimulus
  values = divided (sums s x y z)

  -- under its condition a refusal is given
  pub samples_condition_refused : (r : Refusal) → SamplesCondition s x y z r → convert_samples s x y z ≡ Err r
  unfolding convert_samples of_divided
  samples_condition_refused r (bad_lengths a) = rw a refl
  samples_condition_refused r (too_large a b) = rw (a, b) refl
  samples_condition_refused r (too_dark h c) = rw (h.lengths, h.limits, eq-eqb values.y 0 c) refl

  -- where neither 9 nor 10 is due, the sums decide
  pub sound_converted : Sound s x y z → convert_samples s x y z ≡ of_divided values
  unfolding convert_samples
  sound_converted h = rw (h.lengths, h.limits) refl

  -- where no condition is met, the samples come to the point of the XYZ rule
  pub clear_point : Sound s x y z → (values.y ≡ 0 → ⊥) → convert_samples s x y z ≡ of_xyz values.x values.y values.z
  unfolding of_divided
  clear_point h c = sound_converted h ∙ rw (ne_eqb values.y 0 c) refl

  -- a refusal that is given has its condition
  pub samples_refused_condition : (r : Refusal) → convert_samples s x y z ≡ Err r → SamplesCondition s x y z r
  samples_refused_condition r e = go (lengths_good s x y z) (limits_good s x y z) (eqb values.y 0) refl refl refl
    where
      given : {t : Refusal} → SamplesCondition s x y z t → SamplesCondition s x y z r
      given {t} k = of_given (SamplesCondition s x y z) (samples_condition_refused t k) e k

      go : (l m d : Bool) → lengths_good s x y z ≡ l → limits_good s x y z ≡ m → eqb values.y 0 ≡ d → SamplesCondition s x y z r
      go false m d a b c = given (bad_lengths a)
      go true false d a b c = given (too_large a b)
      go true true true a b c = given (too_dark (record { lengths = a; limits = b }) (eqb-true values.y 0 c))
      go true true false a b c = never refl (sym (clear_point (record { lengths = a; limits = b }) (eqb-false values.y 0 c)) ∙ e)

  -- u and v are at most 4,000,000, as u and v given as whole numbers are
  pub samples_within : Within (convert_samples s x y z)
  unfolding convert_samples of_divided
  samples_within =
      cond_both Within (lengths_good s x y z)
      (cond_both Within (limits_good s x y z) (cond_both Within (eqb values.y 0) tt (xyz_within values.x values.y values.z)) tt)
      tt
