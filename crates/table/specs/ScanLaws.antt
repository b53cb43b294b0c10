-- The scan of the ready table goes on as `least_of` does, and ends with the nearest ready place.
use Rattle.std.specs.Prelude.{◌≡◌, refl, Bool, true, false, cond, ℕ, zero, suc, ◌+◌, ◌*◌, ◌-◌, ◌≤◌, ◌<◌, ltb, Ok, Some}
use Rattle.std.proofs.Common.{ap, add-one, arith, lt-ltb, le-ltb}
use Rattle.arith.specs.Least.{least_of}
use Rattle.arith.specs.LeastLaws.{Least, least, least_only}
use Rattle.locus.specs.Stored.{entry_place}
use Rattle.locus.specs.LocusLaws.{entry_distance_lem}
use Rattle.locus.specs.Admission.{near, admission}
use Rattle.locus.specs.AdmissionLaws.{admitted_near}
use Rattle.table.specs.Ready.{last_ready, ready_place, ready_distance}
use Rattle.table.specs.Code.Scan.{Within, bounded, before, nearest_of, nearer_of}
use Rattle.table.specs.declared.Nearest.{Nearest}

-- what was kept stays where ready point k is as far, and gives way where it is nearer
pub kept_stays : (u v k : ℕ) (kept : Nearest) → kept.distance ≤ ready_distance u v k → kept ≡ nearer_of u v kept k
kept_stays u v k kept h = rw (le-ltb (ready_distance u v k) kept.distance h) refl

pub kept_gives_way :
    (u v k : ℕ) (kept : Nearest) {d : ℕ} → d ≡ ready_distance u v k → d < kept.distance
    → record { number = Some k; distance = d } ≡ nearer_of u v kept k
kept_gives_way u v k kept e h = let l = rw e at h in rw (e, lt-ltb (ready_distance u v k) kept.distance l) refl

-- one ready point more
pub scan_next : (u v near k : ℕ) → nearer_of u v (nearest_of u v near k) k ≡ nearest_of u v near (k + 1)
unfolding least_of bounded
scan_next u v near k = rw (add-one k) (go (ltb (ready_distance u v k) (g (least_of g k))))
  where
    g : ℕ → ℕ
    g = bounded (near + 1) (ready_distance u v)

    at : ℕ → Nearest
    at m = record { number = before m; distance = g m }

    go : (b : Bool) → cond b (record { number = Some k; distance = ready_distance u v k }) (at (least_of g k)) ≡ at (cond b (suc k) (least_of g k))
    go true = refl
    go false = refl

-- where some value is below the bound, the least of the bounded values is the least value, one number on
bounded_least : (s : ℕ) (f : ℕ → ℕ) (n i : ℕ) → i ≤ n → f i < s → least_of (bounded s f) (n + 1) ≡ least_of f n + 1
unfolding bounded
bounded_least s f n i h below = go (least_of (bounded s f) (n + 1)) (least (bounded s f) (n + 1))
  where
    go : (m : ℕ) → Least (bounded s f) (n + 1) m → m ≡ least_of f n + 1
    go zero l = let x = l.none_less (suc i) (omega arith) in absurd (omega arith)
    go (suc j) l =
        rw (add-one (least_of f n))
        (ap suc
        (least_only f n j (record {
          among = omega (arith, l.among);
          none_less = λ k le. l.none_less (suc k) (omega arith);
          lowest = λ k lt. l.lowest (suc k) (omega arith);
        })))

-- after the last ready point
pub scan_last : (u v near : ℕ) → Within u v near → (nearest_of u v near 1565).number ≡ Some (least_of (ready_distance u v) last_ready)
scan_last u v near w =
    let m : ℕ = least_of (ready_distance u v) last_ready in
    ap before (rw (add-one m) at (bounded_least (near + 1) (ready_distance u v) last_ready w.number w.among (omega (arith, w.close))))

-- the entry that a reading was admitted by is itself a ready point
pub admitted_within : (u v m d : ℕ) → admission u v ≡ Ok (near m d) → Within u v d
admitted_within u v m d e =
    let a = admitted_near u v m d e in
    let p : ready_place (68 * (m - 1)) ≡ entry_place m = omega (arith, a.first) in
    record {
      number = 68 * (m - 1);
      among = omega (arith, a.last);
      close = rw p (omega (arith, entry_distance_lem u v m a.first a.last, a.distance));
    }
