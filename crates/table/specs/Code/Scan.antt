-- What the scan of the ready table begins with, and what it keeps.
use Rattle.std.specs.Prelude.{cond, ℕ, zero, suc, ◌+◌, ◌≤◌, ltb, Option, Some, None}
use Rattle.arith.specs.Least.{least_of}
use Rattle.table.specs.Ready.{last_ready, ready_distance}
use Rattle.table.specs.declared.Nearest.{Nearest}

-- some ready point is no farther than `near` from the reading (u, v)
pub record Within (u v near : ℕ) : Type 0 where
  pub number : ℕ
  pub among : number ≤ last_ready
  pub close : ready_distance u v number ≤ near

-- the values of f with the bound s before them: s is number 0, and what f has at k is number k + 1
unfoldable pub bounded : ℕ → (ℕ → ℕ) → ℕ → ℕ
bounded s f zero = s
bounded s f (suc k) = f k

-- the number that comes before one, which 0 has not: that of a value of f among the bounded
abbrev pub before : ℕ → Option ℕ
before zero = None
before (suc k) = Some k

-- the nearest of the first n ready points, of those within `near`, and its distance; where there is none, `near` + 1
abbrev pub nearest_of : ℕ → ℕ → ℕ → ℕ → Nearest
nearest_of u v near n =
    let m : ℕ = least_of (bounded (near + 1) (ready_distance u v)) n in
    record { number = before m; distance = bounded (near + 1) (ready_distance u v) m }

-- the nearer of what was kept and ready point k; of equals, what was kept
abbrev pub nearer_of : ℕ → ℕ → Nearest → ℕ → Nearest
nearer_of u v kept k = cond (ltb (ready_distance u v k) kept.distance) (record { number = Some k; distance = ready_distance u v k }) kept
