-- The ready table's rule carried to each of its points, and the nearest of them.
use Rattle.std.specs.Prelude.{◌≡◌, refl, List, ℕ, zero, suc, ◌+◌, ◌*◌, ◌≤◌, ◌<◌, get_or}
use Rattle.std.proofs.Common.{le_of_suc-le-suc, not-suc-le-zero, arith}
use Rattle.arith.specs.Least.{least_of}
use Rattle.arith.specs.LeastLaws.{least}
use Rattle.locus.specs.Stored.{first_place, last_place}
use Rattle.locus.specs.Locus.{locus_u, locus_v, difference, squared_distance, distance_at}
use Rattle.locus.specs.PieceLaws.{locus_small}
use Rattle.locus.specs.Code.Bounds.{far_out}
use Rattle.table.specs.Ready.{last_ready, ready_place, ready_from, ready_table, ready_distance, nearest_ready, Holds, NearestReady}

-- point i of those from ready point k on
record HoldsFrom (k i : ℕ) (table : List ℕ) : Type 0 where
  u : get_or table (2 * i) 0 ≡ locus_u (ready_place (k + i))
  v : get_or table (2 * i + 1) 0 ≡ locus_v (ready_place (k + i))

holds_from : (k n i : ℕ) → i < n → HoldsFrom k i (ready_from k n)
unfolding ready_from
holds_from k zero i h = absurd (not-suc-le-zero h)
holds_from k (suc n) zero h = let e : k + 0 ≡ k = omega arith in record { u = rw e refl; v = rw e refl }
holds_from k (suc n) (suc i) h =
    let e : k + suc i ≡ suc k + i = omega arith in
    let a : 2 * suc i ≡ suc (suc (2 * i)) = omega arith in
    let b : 2 * suc i + 1 ≡ suc (suc (2 * i + 1)) = omega arith in
    let r = holds_from (suc k) n i (le_of_suc-le-suc h) in
    record { u = rw (e, a) r.u; v = rw (e, b) r.v }

-- a list that is the ready table holds the locus at each ready point
pub ready_holds : {table : List ℕ} → table ≡ ready_table → (k : ℕ) → k ≤ last_ready → Holds table k
ready_holds e k h =
    let z : 0 + k ≡ k = omega arith in
    let r = holds_from 0 (last_ready + 1) k (omega arith) in
    rw e (record { u = rw z at r.u; v = rw z at r.v })

-- the ready places run from the first place of the locus to the last
pub ready_range : (k : ℕ) → k ≤ last_ready → (first_place ≤ ready_place k) × (ready_place k ≤ last_place)
ready_range k h = (omega arith, omega arith)

pub ready_ends : (ready_place 0 ≡ first_place) × (ready_place last_ready ≡ last_place)
ready_ends = (refl, refl)

-- the numbers of a ready point are small, and its distance is the sum of their squared differences from the reading's
pub ready_small : {table : List ℕ} → table ≡ ready_table → (k : ℕ) → k ≤ last_ready → (get_or table (2 * k) 0 ≤ far_out) × (get_or table (2 * k + 1) 0 ≤ far_out)
ready_small e k h =
    let r = ready_range k h in
    let l = locus_small (ready_place k) r.0 r.1 in
    let p = ready_holds e k h in
    (omega (arith, p.u, l.0), omega (arith, p.v, l.1))

pub ready_squares :
    {table : List ℕ} → table ≡ ready_table → (k : ℕ) → k ≤ last_ready → (u v : ℕ) {a b : ℕ}
    → a ≡ difference u (get_or table (2 * k) 0) * difference u (get_or table (2 * k) 0)
    → b ≡ difference v (get_or table (2 * k + 1) 0) * difference v (get_or table (2 * k + 1) 0)
    → ready_distance u v k ≡ a + b
unfolding distance_at squared_distance
ready_squares e k h u v x y = let p = ready_holds e k h in rw (x, y, p.u, p.v) refl

-- the nearest ready place is what it is said to be
pub nearest_ready_lem : (u v : ℕ) → NearestReady u v (nearest_ready u v)
unfolding nearest_ready
nearest_ready_lem u v =
    let l = least (ready_distance u v) last_ready in
    record {
      number = least_of (ready_distance u v) last_ready;
      among = l.among;
      is = refl;
      none_nearer = λ k h. l.none_less k h;
      lowest = λ k h. l.lowest k (omega arith);
    }
