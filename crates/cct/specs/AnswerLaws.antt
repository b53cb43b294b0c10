-- Laws of the answer: where an accepted one lies, and that every entry point's answer is the answer to what it converts its reading to.
use Rattle.std.specs.Prelude.{◌≡◌, refl, Bool, true, false, cond, List, ℕ, zero, suc, ◌*◌, ◌≤◌, leb, pos, neg_ℤ, nat_abs}
use Rattle.std.proofs.Common.{ap, ◌∙◌, le_trans, mul-le-mul_left, arith, ltb-false}
use Rattle.arith.specs.Root.{root}
use Rattle.arith.specs.RootLaws.{root_law}
use Rattle.reading.specs.Convert.{Converted}
use Rattle.locus.specs.Stored.{first_place, last_place}
use Rattle.locus.specs.Locus.{locus_v, distance_at, entry_distance}
use Rattle.locus.specs.LocusLaws.{entry_distance_lem}
use Rattle.locus.specs.Admission.{nearest_entry, limit}
use Rattle.locus.specs.AdmissionLaws.{nearest_range}
use Rattle.search.specs.Golden.{after, steps_of}
use Rattle.search.specs.GoldenLaws.{after_range, after_near}
use Rattle.cct.specs.declared.Answer.{Answer}
use Rattle.cct.specs.Answers.{duv_at, accepted, answer}
use Rattle.cct.specs.Conditions.{Clear}
use Rattle.cct.specs.RefusalLaws.{clear_accepted, accepted_clear}

-- a place and a bracket of the locus, and a Duv no farther than the limit of refusal 5
pub record Bounded (a : Answer) : Type 0 where
  pub from : first_place ≤ a.place
  pub to : a.place ≤ last_place
  pub low : first_place ≤ a.low
  pub order : a.low ≤ a.high
  pub high : a.high ≤ last_place
  pub duv : nat_abs a.duv * nat_abs a.duv ≤ limit

sign_size : (b : Bool) (r : ℕ) → nat_abs (cond b (pos r) (neg_ℤ (pos r))) ≡ r
sign_size true r = refl
sign_size false zero = refl
sign_size false (suc r) = refl

duv_near : (u v place : ℕ) → distance_at u v place ≤ limit → nat_abs (duv_at u v place) * nat_abs (duv_at u v place) ≤ limit
unfolding duv_at
duv_near u v place h =
    let d : ℕ = distance_at u v place in
    rw (sign_size (leb (locus_v place) v) (root d)) (le_trans (root_law d (omega arith)).low h)

accepted_bounded : (es : List ℕ) (c : Converted) (u v n : ℕ) → Clear es c u v → Bounded (accepted es n u v (nearest_entry u v))
unfolding accepted
accepted_bounded es c u v n k =
    let m : ℕ = nearest_entry u v in
    let r = nearest_range u v in
    let i = after_range (distance_at u v) m r.0 r.1 (steps_of n) (omega arith) in
    let f = after_near (distance_at u v) m r.0 r.1 (steps_of n) (omega arith) in
    let near : entry_distance u v m ≤ limit = ltb-false limit (entry_distance u v m) k.near in
    record { from = i.best_low; to = i.best_high; low = i.low; order = i.order; high = i.high; duv = duv_near u v (after (distance_at u v) m (steps_of n)).best (omega (arith, entry_distance_lem u v m r.0 r.1)) }

-- every accepted answer lies there
pub answer_bounded : (es : List ℕ) (c : Converted) (n : ℕ) → (answer es c n).refusal ≡ 0 → Bounded (answer es c n)
answer_bounded es c n e = accepted_clear es c n e (λ u v k. rw (clear_accepted es c u v k n) (accepted_bounded es c u v n k))

le_square : (n : ℕ) → n ≤ n * n
le_square zero = omega arith
le_square (suc n) = omega (arith, mul-le-mul_left {m = 1} {n = suc n} (suc n) (omega arith))

-- its Duv is therefore a small number
pub duv_small : {a : Answer} → Bounded a → nat_abs a.duv ≤ limit
duv_small {a} b = le_trans (le_square (nat_abs a.duv)) b.duv

-- f is `float_answer`, or leaves the answer as it is; k is what the code converted the reading to, and c what the definition says
pub answer_to_lem : {A : Type 0} (f : Answer → A) (es : List ℕ) (n : ℕ) {k c : Converted} {r : A} → r ≡ f (answer es k n) → k ≡ c → r ≡ f (answer es c n)
answer_to_lem f es n e same = e ∙ ap (λ (x : Converted). f (answer es x n)) same
