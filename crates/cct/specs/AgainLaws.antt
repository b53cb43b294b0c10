-- The same answer again: from the u and v of an accepted reading as whole numbers, with the steps that the answer counts.
use Rattle.std.specs.Prelude.{◌≡◌, List, ℕ, Ok}
use Rattle.std.proofs.Math.Path.{refl}
use Rattle.std.proofs.Common.{sym, ap, ◌∙◌, arith, le-leb}
use Rattle.reading.specs.Convert.{Converted, micro_limit, convert_micro}
use Rattle.locus.specs.Locus.{entry_distance}
use Rattle.locus.specs.Admission.{nearest_entry, near, admission}
use Rattle.locus.specs.AdmissionLaws.{admitted_near}
use Rattle.search.specs.Golden.{steps_of}
use Rattle.cct.specs.Answers.{answer}
use Rattle.cct.specs.Conditions.{Clear}
use Rattle.cct.specs.RefinementProof.{is_accepted, counted}

module _ (es : List ℕ) (c : Converted) (u v : ℕ) (k : Clear es c u v) where
  admitted : admission u v ≡ Ok (near (nearest_entry u v) (entry_distance u v (nearest_entry u v)))
  unfolding admission
  admitted = rw (k.near, k.not_hot, k.not_cool) refl

  -- whatever the reading was, its u and v are small enough to be given as whole numbers
  pub accepted_micro : convert_micro u v ≡ c
  accepted_micro =
      let a = admitted_near u v (nearest_entry u v) (entry_distance u v (nearest_entry u v)) admitted in
      rw (le-leb u micro_limit a.u_small, le-leb v micro_limit a.v_small) (sym k.at.point)

  -- they have the same answer, with the steps that it counts
  pub same_again : (n : ℕ) → answer es (convert_micro u v) (answer es c n).steps ≡ answer es c n
  same_again n =
      ap (λ (x : Converted). answer es x (answer es c n).steps) accepted_micro
      ∙ ap (answer es c) (is_accepted es c u v k n).count ∙ counted es c u v k (steps_of n) n (omega arith)
