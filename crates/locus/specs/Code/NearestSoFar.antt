-- What the loop over the entries keeps, for each half of them.
use Rattle.std.specs.Prelude.{cond, ℕ, ◌+◌, ltb}
use Rattle.arith.specs.Least.{least_of}
use Rattle.locus.specs.Locus.{entry_distance}
use Rattle.locus.specs.Admission.{near}
use Rattle.locus.specs.declared.Nearest.{Nearest}

-- entry i with its distance
abbrev pub near_at : ℕ → ℕ → ℕ → Nearest
near_at u v i = near i (entry_distance u v i)

-- the nearer of two entries; of equals, the first
abbrev pub nearer_of : Nearest → Nearest → Nearest
nearer_of first second = cond (ltb second.distance first.distance) second first

-- the nearest of entries 1 to n + 1; of equals, the lowest. Of all 24 it is `nearest_entry`
abbrev pub nearest_of : ℕ → ℕ → ℕ → Nearest
nearest_of u v n = near_at u v (least_of (λ k. entry_distance u v (k + 1)) n + 1)
