-- When each refusal is given: its condition, with those before it not met (document 01's table; 9 and 10 from document 02, No. 1).
use Rattle.std.specs.Prelude.{◌≡◌, true, false, List, ℕ, Ok, Err}
use Rattle.refusal.specs.declared.Refusal.{Refusal}
use Rattle.refusal.specs.declared.Refusal.TheVariants.{BadEdges, TooFar, TooHot, TooCool}
use Rattle.reading.specs.Convert.{Converted, point}
use Rattle.locus.specs.Admission.{is_too_far, past}
use Rattle.classes.specs.Edges.{edges_valid}

-- the edges are valid, and the reading was converted to the point (u, v)
pub record At (es : List ℕ) (c : Converted) (u v : ℕ) : Type 0 where
  pub edges : edges_valid es ≡ true
  pub point : c ≡ Ok (point u v)

-- the condition of each refusal, with those before it not met. Between 1 and 5 comes what the conversion refused: 2, 3 or 4 of a
-- reading, whose conditions stand in `reading`; 9, 10 or 4 of spectral samples, whose conditions stand in `spectral`
pub data Condition (es : List ℕ) (c : Converted) : Refusal → Type 0 where
  bad_edges : edges_valid es ≡ false → Condition es c BadEdges
  not_converted : (r : Refusal) → edges_valid es ≡ true → c ≡ Err r → Condition es c r
  too_far : (u v : ℕ) → At es c u v → is_too_far u v ≡ true → Condition es c TooFar
  too_hot : (u v : ℕ) → At es c u v → is_too_far u v ≡ false → past u v 1 2 ≡ true → Condition es c TooHot
  too_cool : (u v : ℕ) → At es c u v → is_too_far u v ≡ false → past u v 1 2 ≡ false → past u v 24 23 ≡ true → Condition es c TooCool

-- no condition is met: the reading is answered
pub record Clear (es : List ℕ) (c : Converted) (u v : ℕ) : Type 0 where
  pub at : At es c u v
  pub near : is_too_far u v ≡ false
  pub not_hot : past u v 1 2 ≡ false
  pub not_cool : past u v 24 23 ≡ false
