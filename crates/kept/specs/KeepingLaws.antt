-- Every accepted answer is kept whole, and no refused one is.
use Rattle.std.specs.Prelude.{◌≡◌, refl, Bool, true, false, ◌&&◌, List, ℕ, zero, suc, ◌*◌, ◌≤◌, ◌<◌, leb, ℤ, pos, negsuc, nat_abs, Some, None}
use Rattle.std.proofs.Common.{mul-le-mul, arith, leb-true, leb-false, le-leb, eq-eqb, ne_eqb}
use Rattle.arith.specs.TestLaws.{and_both, both_and, cond_both}
use Rattle.records.specs.BytesLaws.{Holds}
use Rattle.records.specs.Fields.{duv_width}
use Rattle.records.specs.FieldsLaws.{Narrow}
use Rattle.locus.specs.Admission.{nearest_entry, limit}
use Rattle.classes.specs.Classes.{no_class, last_passing, class_count}
use Rattle.reading.specs.Convert.{Converted}
use Rattle.cct.specs.declared.Answer.{Answer}
use Rattle.cct.specs.Answers.{accepted, answer}
use Rattle.cct.specs.AnswerLaws.{answer_bounded}
use Rattle.cct.specs.RefusalLaws.{clear_accepted, accepted_clear}
use Rattle.kept.specs.Keeping.{record_of, fits_record, keep}

-- each place of the answer is small enough to be kept
pub record Fits (a : Answer) : Type 0 where
  pub place : a.place ≤ 65535
  pub low : a.low ≤ 65535
  pub high : a.high ≤ 65535

pub fits_true : (a : Answer) → fits_record a ≡ true → Fits a
unfolding fits_record
fits_true a e =
    let high = and_both (leb a.place 65535 && leb a.low 65535) (leb a.high 65535) e in
    let low = and_both (leb a.place 65535) (leb a.low 65535) high.0 in
    record { place = leb-true a.place 65535 low.0; low = leb-true a.low 65535 low.1; high = leb-true a.high 65535 high.1 }

true_fits : (a : Answer) → Fits a → fits_record a ≡ true
unfolding fits_record
true_fits a f =
    both_and (both_and (le-leb a.place 65535 f.place) (le-leb a.low 65535 f.low)) (le-leb a.high 65535 f.high)

-- those of every accepted answer are
pub accepted_fits : (es : List ℕ) (c : Converted) (n : ℕ) → (answer es c n).refusal ≡ 0 → Fits (answer es c n)
accepted_fits es c n e =
    let b = answer_bounded es c n e in
    record { place = omega (arith, b.to); low = omega (arith, b.order, b.high); high = omega (arith, b.high) }

-- a number whose square is at most the limit of refusal 5 is at most 50,000
within_duv : (n : ℕ) → n * n ≤ limit → n ≤ 50000
within_duv n h = go (leb n 50000) refl
  where
    go : (b : Bool) → leb n 50000 ≡ b → n ≤ 50000
    go true e = leb-true n 50000 e
    go false e =
        let large : 50001 ≤ n = leb-false n 50000 e in
        let square : 50001 * 50001 ≤ n * n = mul-le-mul large large in
        absurd (omega arith)

-- so the Duv of every accepted answer is at most 50,000 either side of zero
pub accepted_duv : (es : List ℕ) (c : Converted) (n : ℕ) → (answer es c n).refusal ≡ 0 → nat_abs (answer es c n).duv ≤ 50000
accepted_duv es c n e = within_duv (nat_abs (answer es c n).duv) (answer_bounded es c n e).duv

-- and every accepted answer is kept, number for number, with the u and v that it is given
pub accepted_kept : (u v : ℕ) (es : List ℕ) (c : Converted) (n : ℕ) → (answer es c n).refusal ≡ 0 → keep u v (answer es c n) ≡ Some (record_of u v (answer es c n))
unfolding keep
accepted_kept u v es c n e =
    rw (eq-eqb (answer es c n).refusal 0 e, true_fits (answer es c n) (accepted_fits es c n e)) refl

-- and nothing is kept of a refused one
pub refused_not_kept : (u v : ℕ) (a : Answer) → (a.refusal ≡ 0 → ⊥) → keep u v a ≡ None
unfolding keep
refused_not_kept u v a h = rw (ne_eqb a.refusal 0 h) refl

holds_duv : (z : ℤ) → nat_abs z ≤ 50000 → Holds duv_width z
holds_duv (pos n) h = omega arith
holds_duv (negsuc n) h = omega arith

small_class : (f : ℕ → Bool) (n : ℕ) → n ≤ no_class → last_passing f n < 256
unfolding last_passing
small_class f zero h = omega arith
small_class f (suc n) h = cond_both (λ (m : ℕ). m < 256) (f n) (omega arith) (small_class f n (omega arith))

small_accepted : (es : List ℕ) (n u v m : ℕ) → ((accepted es n u v m).steps < 256) × ((accepted es n u v m).class < 256)
unfolding accepted
small_accepted es n u v m = (omega arith, small_class _ (class_count es) (omega arith))

-- one byte holds its steps, and its class
accepted_small : (es : List ℕ) (c : Converted) (n : ℕ) → (answer es c n).refusal ≡ 0 → ((answer es c n).steps < 256) × ((answer es c n).class < 256)
accepted_small es c n e = accepted_clear es c n e (λ u v k. rw (clear_accepted es c u v k n) (small_accepted es n u v (nearest_entry u v)))

-- the record of an accepted answer, u and v having 32 bits, is no wider than its fields
pub kept_narrow : (u v : ℕ) (es : List ℕ) (c : Converted) (n : ℕ) → (answer es c n).refusal ≡ 0 → u < 4294967296 → v < 4294967296 → Narrow duv_width (record_of u v (answer es c n))
kept_narrow u v es c n e hu hv =
    let f = accepted_fits es c n e in
    let s = accepted_small es c n e in
    record {
      u = hu;
      v = hv;
      place = omega (arith, f.place);
      low = omega (arith, f.low);
      high = omega (arith, f.high);
      duv = holds_duv (answer es c n).duv (accepted_duv es c n e);
      steps = s.0;
      class = s.1;
    }
