-- The search and the coarse reader accept the same readings and refuse the rest with the same number.
use Rattle.std.specs.Prelude.{◌≡◌, refl, true, List, ℕ, Result, Ok, Err}
use Rattle.std.proofs.Common.{sym, ap, ◌∙◌}
use Rattle.reading.specs.declared.Reading.{Reading}
use Rattle.reading.specs.Convert.{Converted, convert_reading, convert_micro}
use Rattle.refusal.specs.declared.Refusal.{Refusal}
use Rattle.locus.specs.declared.Nearest.{Nearest}
use Rattle.locus.specs.Admission.{admission}
use Rattle.table.specs.ReadyLaws.{nearest_ready_lem}
use Rattle.classes.specs.Edges.{edges_valid}
use Rattle.cct.specs.declared.Answer.{Answer}
use Rattle.cct.specs.Answers.{checked_at, checked_point, checked, accepted, answered, answer}
use Rattle.nearest.specs.declared.Coarse.{Coarse}
use Rattle.nearest.specs.Coarse.{coarse_of, coarse}
use Rattle.nearest.specs.Agreement.{Agree, both_refused, both_accepted}

-- after the same checks
checked_agree : (es : List ℕ) (c : Converted) (n : ℕ) → Agree c (answered es n (checked_point c)) (coarse_of (checked_point c))
unfolding checked_point accepted
checked_agree es (Err r) n = both_refused r refl refl
checked_agree es (Ok p) n = go (admission p.u p.v)
  where
    go : (a : Result Nearest Refusal) → Agree (Ok p) (answered es n (checked_at p.u p.v a)) (coarse_of (checked_at p.u p.v a))
    go (Err r) = both_refused r refl refl
    go (Ok near) = both_accepted p.u p.v refl refl refl (nearest_ready_lem p.u p.v)

-- with any valid edges, and whatever the steps allowed
pub agree : (es : List ℕ) (c : Converted) (n : ℕ) → edges_valid es ≡ true → Agree c (answer es c n) (coarse c)
unfolding answer checked coarse
agree es c n valid = rw valid (checked_agree es c n)

-- so for a reading of any of the four kinds, and for u and v in micro
pub reading_agrees : (es : List ℕ) (r : Reading) (n : ℕ) → edges_valid es ≡ true → Agree (convert_reading r) (answer es (convert_reading r) n) (coarse (convert_reading r))
reading_agrees es r = agree es (convert_reading r)

pub micro_agrees : (es : List ℕ) (u v n : ℕ) → edges_valid es ≡ true → Agree (convert_micro u v) (answer es (convert_micro u v) n) (coarse (convert_micro u v))
micro_agrees es u v = agree es (convert_micro u v)

-- in one line: the same number, which is 0 where the reading is accepted
pub same_refusal : (es : List ℕ) (c : Converted) (n : ℕ) → edges_valid es ≡ true → (answer es c n).refusal ≡ (coarse c).refusal
same_refusal es c n valid = go (agree es c n valid)
  where
    go : {a : Answer} {b : Coarse} → Agree c a b → a.refusal ≡ b.refusal
    go (both_refused r e f) = ap (λ (x : Answer). x.refusal) e ∙ sym (ap (λ (x : Coarse). x.refusal) f)
    go (both_accepted u v p e f q) = e ∙ sym f
