-- The ready table and the nearest of its points (document 02, No. 12, whose "stored" points and places they are; here "stored" is said of the 24).
use Rattle.std.specs.Prelude.{◌≡◌, List, [], ◌∷◌, ℕ, zero, suc, ◌+◌, ◌*◌, ◌≤◌, ◌<◌, get_or}
use Rattle.arith.specs.Least.{least_of}
use Rattle.locus.specs.Stored.{first_place}
use Rattle.locus.specs.Locus.{locus_u, locus_v, distance_at}

-- the number of the last ready point; the first is 0
abbrev pub last_ready : ℕ
last_ready = 1564

-- the place of ready point k: every 38th, from 5168 to 64600
abbrev pub ready_place : ℕ → ℕ
ready_place k = first_place + 38 * k

-- u and v of the locus at n ready points, from point k on
unfoldable pub ready_from : ℕ → ℕ → List ℕ
ready_from k zero = []
ready_from k (suc n) = locus_u (ready_place k) ∷ locus_v (ready_place k) ∷ ready_from (suc k) n

-- the ready table: all 1,565 points, 3,130 numbers
abbrev pub ready_table : List ℕ
ready_table = ready_from 0 (last_ready + 1)

-- the table's rule: numbers 2k and 2k + 1 of a list, from 0, are u and v of the locus at ready point k
pub record Holds (table : List ℕ) (k : ℕ) : Type 0 where
  pub u : get_or table (2 * k) 0 ≡ locus_u (ready_place k)
  pub v : get_or table (2 * k + 1) 0 ≡ locus_v (ready_place k)

-- the distance of the reading (u, v) from ready point k
abbrev pub ready_distance : ℕ → ℕ → ℕ → ℕ
ready_distance u v k = distance_at u v (ready_place k)

-- the place of the ready point nearest to the reading (u, v); of equals, the lowest
unfoldable pub nearest_ready : ℕ → ℕ → ℕ
nearest_ready u v = ready_place (least_of (ready_distance u v) last_ready)

-- what `nearest_ready_lem` proves of it: the place is that of a ready point, none of these is nearer to the reading (u, v), and none before it is as near
pub record NearestReady (u v place : ℕ) : Type 0 where
  pub number : ℕ
  pub among : number ≤ last_ready
  pub is : place ≡ ready_place number
  pub none_nearer : (k : ℕ) → k ≤ last_ready → distance_at u v place ≤ ready_distance u v k
  pub lowest : (k : ℕ) → ready_place k < place → distance_at u v place < ready_distance u v k
