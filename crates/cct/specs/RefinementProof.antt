-- Demand 3, proved of the definition `answer`: the checks do not depend on the steps allowed, every later state of the search refines an
-- earlier one, and a class keeps every refinement of a range that it holds.
use Rattle.std.specs.Prelude.{◌≡◌, List}
use Rattle.std.proofs.Math.Path.{refl}
use Rattle.std.proofs.Common.{sym, ap, ◌∙◌, arith}
use Prim.Native.Nat.{ℕ, ◌≤◌}
use Rattle.reading.specs.declared.Reading.{Reading}
use Rattle.reading.specs.Convert.{Converted, convert_reading, convert_micro}
use Rattle.spectral.specs.Samples.{convert_samples}
use Rattle.locus.specs.Locus.{distance_at}
use Rattle.locus.specs.Admission.{nearest_entry}
use Rattle.locus.specs.AdmissionLaws.{nearest_range}
use Rattle.search.specs.Golden.{steps_of}
use Rattle.search.specs.GoldenLaws.{steps_advance, steps_width}
use Rattle.classes.specs.EdgeLaws.{valid_rise}
use Rattle.classes.specs.Classes.{no_class}
use Rattle.classes.specs.ClassLaws.{class_kept}
use Rattle.cct.specs.Answers.{accepted, answer}
use Rattle.cct.specs.declared.Answer.{Answer}
use Rattle.cct.specs.FloatAnswers.{float_answer}
use Rattle.cct.specs.Conditions.{Clear}
use Rattle.cct.specs.RefusalLaws.{Decided, refusal, clear, decided, condition_refused, clear_accepted}
use Rattle.cct.specs.Refinement.{Accepted, Narrower, Refines, both_refused, both_accepted, Demand3}

-- the accepted answers to one reading
module _ (es : List ℕ) (c : Converted) (u v : ℕ) (k : Clear es c u v) where
  pub is_accepted : (n : ℕ) → Accepted u v n (answer es c n)
  unfolding accepted
  is_accepted n =
      let r = nearest_range u v in
      rw (clear_accepted es c u v k n) (record { number = refl; count = refl; width = steps_width (distance_at u v) (nearest_entry u v) r.0 r.1 n })

  pub narrows : (n₁ n₂ : ℕ) → n₁ ≤ n₂ → Narrower u v (answer es c n₁) (answer es c n₂)
  unfolding accepted
  narrows n₁ n₂ h =
      let m : ℕ = nearest_entry u v in
      let r = nearest_range u v in
      let s = steps_advance (distance_at u v) m r.0 r.1 h in
      let w = steps_width (distance_at u v) m r.0 r.1 n₂ in
      rw (clear_accepted es c u v k n₁, clear_accepted es c u v k n₂)
      (record {
        low = s.low;
        high = s.high;
        nearer = s.nearer;
        class_kept = λ named. class_kept es (valid_rise es k.at.edges) s.low (omega arith) s.high s.best named;
      })

  -- an accepted answer sees only how many steps are counted
  pub counted : (n₁ n₂ : ℕ) → steps_of n₁ ≡ steps_of n₂ → answer es c n₁ ≡ answer es c n₂
  unfolding accepted
  counted n₁ n₂ e = rw (clear_accepted es c u v k n₁, clear_accepted es c u v k n₂, e) refl

-- the same refusal, or both accepted and the second refines the first
refined : (es : List ℕ) (c : Converted) (n₁ n₂ : ℕ) → n₁ ≤ n₂ → Refines c n₁ n₂ (answer es c n₁) (answer es c n₂)
refined es c n₁ n₂ h = go (decided es c)
  where
    go : Decided es c → Refines c n₁ n₂ (answer es c n₁) (answer es c n₂)
    go (refusal r k) = both_refused r (condition_refused es c r k n₁) (condition_refused es c r k n₂)
    go (clear u v k) = both_accepted u v k.at.point (is_accepted es c u v k n₁) (is_accepted es c u v k n₂) (narrows es c u v k n₁ n₂ h)

-- any two numbers of steps allowed from 14 on give the same answer, the floats too
pub settled_any : (es : List ℕ) (c : Converted) (a b : ℕ) → 14 ≤ a → 14 ≤ b → answer es c a ≡ answer es c b
settled_any es c a b h l = go (decided es c)
  where
    go : Decided es c → answer es c a ≡ answer es c b
    go (refusal r k) = condition_refused es c r k a ∙ sym (condition_refused es c r k b)
    go (clear u v k) = counted es c u v k a b (omega arith)

pub settled_floats : (es : List ℕ) (c : Converted) (a b : ℕ) → 14 ≤ a → 14 ≤ b → float_answer (answer es c a) ≡ float_answer (answer es c b)
settled_floats es c a b h l = ap float_answer (settled_any es c a b h l)

-- demand 3, for the edges es and whatever any entry point's reading is converted to
pub demand_3 : (es : List ℕ) (c : Converted) (n₁ n₂ : ℕ) → n₁ ≤ n₂ → Demand3 es c n₁ n₂
demand_3 es c n₁ n₂ h =
    record {
      refines = refined es c n₁ n₂ h;
      same = λ l. settled_any es c n₁ n₂ l (omega arith);
      same_floats = λ l. settled_floats es c n₁ n₂ l (omega arith);
    }

-- for a reading of any of the four kinds
pub reading_refines : (es : List ℕ) (reading : Reading) (n₁ n₂ : ℕ) → n₁ ≤ n₂ → Demand3 es (convert_reading reading) n₁ n₂
reading_refines es reading = demand_3 es (convert_reading reading)

-- for u and v as whole numbers
pub micro_refines : (es : List ℕ) (u v n₁ n₂ : ℕ) → n₁ ≤ n₂ → Demand3 es (convert_micro u v) n₁ n₂
micro_refines es u v = demand_3 es (convert_micro u v)

-- for spectral samples s with the observer's tables x, y and z
pub samples_refines : (es s x y z : List ℕ) (n₁ n₂ : ℕ) → n₁ ≤ n₂ → Demand3 es (convert_samples s x y z) n₁ n₂
samples_refines es s x y z = demand_3 es (convert_samples s x y z)

-- a class that is named is never changed by more steps
pub class_never_changes : (es : List ℕ) (c : Converted) (n₁ n₂ : ℕ) → n₁ ≤ n₂ → ((answer es c n₁).class ≡ no_class → ⊥) → (answer es c n₂).class ≡ (answer es c n₁).class
class_never_changes es c n₁ n₂ h named = go (refined es c n₁ n₂ h) named
  where
    go : {a b : Answer} → Refines c n₁ n₂ a b → (a.class ≡ no_class → ⊥) → b.class ≡ a.class
    go (both_refused r e f) k = ap (λ (x : Answer). x.class) (f ∙ sym e)
    go (both_accepted u v p x y z) k = z.class_kept k
