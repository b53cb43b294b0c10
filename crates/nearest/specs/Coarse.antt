-- What the coarse reader answers to what a reading was converted to (document 02, No. 12).
use Rattle.refusal.specs.Number.{number_of}
use Rattle.refusal.specs.declared.Refusal.{Refusal}
use Rattle.reading.specs.Convert.{Converted}
use Rattle.table.specs.Ready.{nearest_ready}
use Rattle.cct.specs.Answers.{Checked, refused_by, passed, checked_point}
use Rattle.nearest.specs.declared.Coarse.{Coarse}

-- a refused answer: the refusal's number, and zero as its place
abbrev pub refused_coarse : Refusal → Coarse
refused_coarse r = record { place = 0; refusal = number_of r }

-- the answer that follows from the checks: the nearest ready place of a reading (u, v) that has passed, whatever its nearest entry
abbrev pub coarse_of : Checked → Coarse
coarse_of (refused_by r) = refused_coarse r
coarse_of (passed u v m) = record { place = nearest_ready u v; refusal = 0 }

-- the coarse answer: what follows from checks 2 to 7, which are the search's, in its order
unfoldable pub coarse : Converted → Coarse
coarse c = coarse_of (checked_point c)
