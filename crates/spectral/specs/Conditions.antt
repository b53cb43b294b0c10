-- When refusals 9, 10 and 4 are given for spectral samples: the condition of each, with those before it not met (document 02, No. 1).
use Rattle.std.specs.Prelude.{◌≡◌, true, false, List, ℕ}
use Rattle.refusal.specs.declared.Refusal.{Refusal}
use Rattle.refusal.specs.declared.Refusal.TheVariants.{TooDark, BadLengths, SampleTooLarge}
use Rattle.spectral.specs.Samples.{lengths_good, limits_good, sums, divided}

-- neither 9 nor 10 is due
pub record Sound (s x y z : List ℕ) : Type 0 where
  pub lengths : lengths_good s x y z ≡ true
  pub limits : limits_good s x y z ≡ true

-- the condition of each refusal of samples, with those before it not met
pub data SamplesCondition (s x y z : List ℕ) : Refusal → Type 0 where
  bad_lengths : lengths_good s x y z ≡ false → SamplesCondition s x y z BadLengths
  too_large : lengths_good s x y z ≡ true → limits_good s x y z ≡ false → SamplesCondition s x y z SampleTooLarge
  too_dark : Sound s x y z → (divided (sums s x y z)).y ≡ 0 → SamplesCondition s x y z TooDark
