-- Demand 2: each refusal is given exactly under its condition, when no condition that comes before it holds.
use Rattle.std.specs.Prelude.{◌≡◌, refl, Bool, true, false, List, ℕ, Ok, Err}
use Rattle.std.proofs.Common.{sym, ap, subst, ◌∙◌, arith}
use Rattle.refusal.specs.Number.{number_of}
use Rattle.refusal.specs.NumberLaws.{number_positive, number_injective}
use Rattle.refusal.specs.declared.Refusal.{Refusal}
use Rattle.refusal.specs.declared.Refusal.TheVariants.{BadEdges, TooFar, TooHot, TooCool}
use Rattle.reading.specs.Convert.{Converted}
use Rattle.locus.specs.Admission.{nearest_entry, is_too_far, past, admission}
use Rattle.classes.specs.Edges.{edges_valid}
use Rattle.cct.specs.declared.Answer.{Answer}
use Rattle.cct.specs.Answers.{checked_point, checked, refused, accepted, answer}
use Rattle.cct.specs.Conditions.{At, Condition, bad_edges, not_converted, too_far, too_hot, too_cool, Clear}

-- under its condition a refusal is given, whatever the steps allowed
pub condition_refused : (es : List ℕ) (c : Converted) (r : Refusal) → Condition es c r → (n : ℕ) → answer es c n ≡ refused r
unfolding answer checked checked_point admission
condition_refused es c r (bad_edges e) n = rw e refl
condition_refused es c r (not_converted s e f) n = rw (e, f) refl
condition_refused es c r (too_far u v a f) n = rw (a.edges, a.point, f) refl
condition_refused es c r (too_hot u v a f h) n = rw (a.edges, a.point, f, h) refl
condition_refused es c r (too_cool u v a f h k) n = rw (a.edges, a.point, f, h, k) refl

-- where no condition is met, the reading gets the accepted answer about its nearest entry
pub clear_accepted : (es : List ℕ) (c : Converted) (u v : ℕ) → Clear es c u v → (n : ℕ) → answer es c n ≡ accepted es n u v (nearest_entry u v)
unfolding answer checked checked_point admission
clear_accepted es c u v k n = rw (k.at.edges, k.at.point, k.near, k.not_hot, k.not_cool) refl

-- either a refusal's condition is met, or none is
pub data Decided (es : List ℕ) (c : Converted) : Type 0 where
  refusal : (r : Refusal) → Condition es c r → Decided es c
  clear : (u v : ℕ) → Clear es c u v → Decided es c

at_point : (es : List ℕ) (c : Converted) (u v : ℕ) → At es c u v → (far hot cool : Bool) → is_too_far u v ≡ far → past u v 1 2 ≡ hot → past u v 24 23 ≡ cool → Decided es c
at_point es c u v a true hot cool e f g = refusal TooFar (too_far u v a e)
at_point es c u v a false true cool e f g = refusal TooHot (too_hot u v a e f)
at_point es c u v a false false true e f g = refusal TooCool (too_cool u v a e f g)
at_point es c u v a false false false e f g = clear u v (record { at = a; near = e; not_hot = f; not_cool = g })

-- one of the two holds, whatever the input
pub decided : (es : List ℕ) (c : Converted) → Decided es c
decided es c = go (edges_valid es) refl c refl
  where
    go : (b : Bool) → edges_valid es ≡ b → (k : Converted) → c ≡ k → Decided es c
    go false e k f = refusal BadEdges (bad_edges e)
    go true e (Err r) f = refusal r (not_converted r e f)
    go true e (Ok p) f = at_point es c p.u p.v (record { edges = e; point = f }) (is_too_far p.u p.v) (past p.u p.v 1 2) (past p.u p.v 24 23) refl refl refl

-- what holds of every reading that no check refuses holds where an answer is accepted
pub accepted_clear : {A : Type 0} (es : List ℕ) (c : Converted) (n : ℕ) → (answer es c n).refusal ≡ 0 → ((u v : ℕ) → Clear es c u v → A) → A
accepted_clear {A} es c n e f = go (decided es c)
  where
    go : Decided es c → A
    go (refusal r k) = absurd (omega (arith, number_positive r, sym e ∙ ap (λ (a : Answer). a.refusal) (condition_refused es c r k n)))
    go (clear u v k) = f u v k

-- a refusal that is given has its condition
pub refused_condition : (es : List ℕ) (c : Converted) (n : ℕ) (r : Refusal) → answer es c n ≡ refused r → Condition es c r
unfolding accepted
refused_condition es c n r e = go (decided es c)
  where
    number : {a : Answer} → a ≡ refused r → a.refusal ≡ number_of r
    number f = ap (λ (x : Answer). x.refusal) f

    go : Decided es c → Condition es c r
    go (refusal s k) = subst (Condition es c) (number_injective s r (number (sym (condition_refused es c s k n) ∙ e))) k
    go (clear u v k) =
        let z : 0 ≡ number_of r = number (sym (clear_accepted es c u v k n) ∙ e) in
        absurd (omega (arith, number_positive r))
