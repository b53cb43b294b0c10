-- Demand 3: what two answers to the same edges and reading, at n₁ ≤ n₂ steps allowed, have in common.
-- `RefinementProof.demand_3` proves it of the definition `answer`, for whatever any entry point converts its reading to.
use Rattle.std.specs.Prelude.{◌≡◌, List, ℕ, ◌+◌, ◌-◌, ◌*◌, ◌≤◌, min, Ok}
use Rattle.refusal.specs.declared.Refusal.{Refusal}
use Rattle.reading.specs.Convert.{Converted, point}
use Rattle.locus.specs.Locus.{distance_at}
use Rattle.locus.specs.Admission.{nearest_entry}
use Rattle.search.specs.Golden.{fibonacci, pieces}
use Rattle.classes.specs.Classes.{no_class}
use Rattle.cct.specs.declared.Answer.{Answer}
use Rattle.cct.specs.Answers.{refused, answer}
use Rattle.cct.specs.FloatAnswers.{float_answer}

-- an accepted answer a to the reading (u, v) at n steps allowed: it counts the smaller of n and 14, and its width is g·F(18 − count)
pub record Accepted (u v n : ℕ) (a : Answer) : Type 0 where
  pub number : a.refusal ≡ 0
  pub count : a.steps ≡ min n 14
  pub width : a.high ≡ a.low + pieces (nearest_entry u v) * fibonacci (18 - a.steps)

-- of two accepted answers to the reading (u, v), b refines a: its range lies within a's, its place is no farther from the reading,
-- and it names the class that a names, if a names one
pub record Narrower (u v : ℕ) (a b : Answer) : Type 0 where
  pub low : a.low ≤ b.low
  pub high : b.high ≤ a.high
  pub nearer : distance_at u v b.place ≤ distance_at u v a.place
  pub class_kept : (a.class ≡ no_class → ⊥) → b.class ≡ a.class

-- the same refusal in both, whose number is never 0, or both accepted and the second refines the first
pub data Refines (c : Converted) (n₁ n₂ : ℕ) (a b : Answer) : Type 0 where
  both_refused : (r : Refusal) → a ≡ refused r → b ≡ refused r → Refines c n₁ n₂ a b
  both_accepted : (u v : ℕ) → c ≡ Ok (point u v) → Accepted u v n₁ a → Accepted u v n₂ b → Narrower u v a b → Refines c n₁ n₂ a b

-- demand 3 for the edges es and a converted reading c. `FloatLaws.float_whole` carries what it says of `answer` to the whole-number part of
-- a float answer
pub record Demand3 (es : List ℕ) (c : Converted) (n₁ n₂ : ℕ) : Type 0 where
  pub refines : Refines c n₁ n₂ (answer es c n₁) (answer es c n₂)
  -- from 14 steps on nothing changes; `RefinementProof.settled_any` says so of any two numbers of steps from 14 on
  pub same : 14 ≤ n₁ → answer es c n₁ ≡ answer es c n₂
  pub same_floats : 14 ≤ n₁ → float_answer (answer es c n₁) ≡ float_answer (answer es c n₂)
