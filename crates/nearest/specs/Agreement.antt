-- What the coarse reader has in common with the search, and what it answers where both accept (document 02, No. 12).
use Rattle.std.specs.Prelude.{◌≡◌, ℕ, Ok}
use Rattle.refusal.specs.declared.Refusal.{Refusal}
use Rattle.reading.specs.Convert.{Converted, point}
use Rattle.table.specs.Ready.{NearestReady}
use Rattle.cct.specs.declared.Answer.{Answer}
use Rattle.cct.specs.Answers.{refused}
use Rattle.nearest.specs.declared.Coarse.{Coarse}
use Rattle.nearest.specs.Coarse.{refused_coarse}

-- the search's answer a and the coarse answer b to one reading: both refused with one refusal, or both accepted, and then b has the
-- nearest ready place of the point that the reading was converted to
pub data Agree (c : Converted) (a : Answer) (b : Coarse) : Type 0 where
  both_refused : (r : Refusal) → a ≡ refused r → b ≡ refused_coarse r → Agree c a b
  both_accepted : (u v : ℕ) → c ≡ Ok (point u v) → a.refusal ≡ 0 → b.refusal ≡ 0 → NearestReady u v b.place → Agree c a b
