-- What document 01 answers to class edges, what a reading was converted to, and the steps allowed (its "allowance").
use Rattle.std.specs.Prelude.{cond, List, ℕ, leb, ℤ, pos, neg_ℤ, Result, Ok, Err}
use Rattle.arith.specs.Root.{root}
use Rattle.refusal.specs.Number.{number_of}
use Rattle.refusal.specs.declared.Refusal.{Refusal}
use Rattle.refusal.specs.declared.Refusal.TheVariants.{BadEdges}
use Rattle.reading.specs.Convert.{Converted}
use Rattle.locus.specs.declared.Nearest.{Nearest}
use Rattle.locus.specs.Locus.{locus_v, distance_at}
use Rattle.locus.specs.Admission.{admission}
use Rattle.search.specs.Golden.{State, after, steps_of}
use Rattle.classes.specs.Edges.{edges_valid}
use Rattle.classes.specs.Classes.{class_of}
use Rattle.cct.specs.declared.Answer.{Answer}

-- what the checks come to: a refusal, or the reading's u and v with its nearest entry m. No check sees the steps allowed
pub data Checked : Type 0 where
  refused_by : Refusal → Checked
  passed : ℕ → ℕ → ℕ → Checked

-- the last checks of the point (u, v): refusals 5, 6 and 7
abbrev pub checked_at : ℕ → ℕ → Result Nearest Refusal → Checked
checked_at u v (Ok n) = passed u v n.entry
checked_at u v (Err r) = refused_by r

-- before them stands a refusal that the conversion found: 2, 3 or 4 of a reading, 9, 10 or 4 of spectral samples
unfoldable pub checked_point : Converted → Checked
checked_point (Ok p) = checked_at p.u p.v (admission p.u p.v)
checked_point (Err r) = refused_by r

-- refusal 1 comes before all others
unfoldable pub checked : List ℕ → Converted → Checked
checked es c = cond (edges_valid es) (checked_point c) (refused_by BadEdges)

-- Duv of the reading (u, v) against the locus at a place, in micro: the root of the distance, signed by v
unfoldable pub duv_at : ℕ → ℕ → ℕ → ℤ
duv_at u v place =
    let d : ℤ = pos (root (distance_at u v place)) in
    cond (leb (locus_v place) v) d (neg_ℤ d)

-- a refused answer: the refusal's number, and zero in every other field
abbrev pub refused : Refusal → Answer
refused r = record { place = 0; low = 0; high = 0; duv = pos 0; refusal = number_of r; steps = 0; class = 0 }

-- an accepted answer to the reading (u, v) with nearest entry m: the search's state, Duv, the steps counted and the class
unfoldable pub accepted : List ℕ → ℕ → ℕ → ℕ → ℕ → Answer
accepted es max_steps u v m =
    let s : State = after (distance_at u v) m (steps_of max_steps) in
    record {
      place = s.best;
      low = s.low;
      high = s.high;
      duv = duv_at u v s.best;
      refusal = 0;
      steps = steps_of max_steps;
      class = class_of es s.low s.high s.best;
    }

-- the answer that follows from the checks
abbrev pub answered : List ℕ → ℕ → Checked → Answer
answered es max_steps (refused_by r) = refused r
answered es max_steps (passed u v m) = accepted es max_steps u v m

-- the answer to the edges es, a converted reading c and the steps allowed
unfoldable pub answer : List ℕ → Converted → ℕ → Answer
answer es c max_steps = answered es max_steps (checked es c)
