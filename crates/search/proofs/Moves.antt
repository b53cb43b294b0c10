-- The code's search is that of the rules: at its start, after a step whichever way it goes, and in what it answers.
use mathlib.Core.Path.{◌≡◌, refl, ap, sym, ◌∙◌}
use mathlib.Core.Bool.{Bool, true, false, cond}
use Prim.Native.Nat.{ℕ, ◌+◌, ◌*◌, ◌≤◌}
use native.Mathlib.Omega.{arith}
use lib.Dec.{ltb}
use Rattle.std.specs.Prelude.{Ok}
use Rattle.locus.specs.Stored.{entry_place, first_entry}
use Rattle.locus.specs.declared.Nearest.{Nearest}
use Rattle.locus.specs.Admission.{admission}
use Rattle.locus.specs.AdmissionLaws.{admitted_near}
use Rattle.locus.specs.Code.Pieces.{span_about}
use Rattle.locus.specs.PieceLaws.{span_ends, span_range}
use Rattle.locus.specs.declared.Span.{Span}
use Rattle.search.specs.Golden.{pieces, fibonacci, inner_low, inner_high, State, nearer, start, step, after, most_steps, steps_of}
use Rattle.search.specs.Code.Found.{found}
use Rattle.search.specs.GoldenLaws.{lengths, after_next, after_inside}
use Rattle.search.specs.Code.Progress.{Begins, state_of, Tracks, Lies, moved}
use Rattle.search.specs.declared.Progress.{Progress}

same_state : {s t : State} → s.low ≡ t.low → s.high ≡ t.high → s.best ≡ t.best → s ≡ t
same_state x y z = λ i. record { low = x i; high = y i; best = z i }

-- rule 6 by a kept distance: the best point, and the distance kept with it
chosen : (d : ℕ → ℕ) (b : Bool) (place best : ℕ) → cond b (d place) (d best) ≡ d (cond b place best)
chosen d true place best = refl
chosen d false place best = refl

kept_best : (d : ℕ → ℕ) {place place' best least : ℕ} → place ≡ place' → least ≡ d best → cond (ltb (d place) least) place best ≡ nearer d place' best
kept_best d x y = rw (x, y) refl

kept_least : (d : ℕ → ℕ) (place : ℕ) {best least : ℕ} → least ≡ d best → cond (ltb (d place) least) (d place) least ≡ d (cond (ltb (d place) least) place best)
kept_least d place {best} y = rw y (chosen d (ltb (d place) (d best)) place best)

-- a step
module _ (d : ℕ → ℕ) (m j : ℕ) (p : Progress) (h : j ≤ most_steps) (k : Tracks d m j p) where
  -- rule 4's two ways
  abbrev left_state : State
  left_state = record { low = p.low; high = inner_high (pieces m) j p.low; best = nearer d (inner_low (pieces m) (j + 1) p.low) p.best }

  abbrev right_state : State
  right_state = record { low = inner_low (pieces m) j p.low; high = (state_of p).high; best = nearer d (inner_high (pieces m) (j + 1) (inner_low (pieces m) j p.low)) p.best }

  state_next : (b : Bool) → state_of (moved b d p) ≡ cond b left_state right_state
  unfolding moved
  state_next true = let l = lengths (pieces m) j h in same_state refl (omega arith) (kept_best d (omega arith) k.least)
  state_next false = let l = lengths (pieces m) j h in same_state (omega arith) (omega arith) (kept_best d (omega arith) k.least)

  left_next : (b : Bool) → (moved b d p).left ≡ d (inner_low (pieces m) (j + 1) (moved b d p).low)
  unfolding moved
  left_next true = let l = lengths (pieces m) j h in ap d (omega arith)
  left_next false = let l = lengths (pieces m) j h in k.right ∙ ap d (omega arith)

  right_next : (b : Bool) → (moved b d p).right ≡ d (inner_high (pieces m) (j + 1) (moved b d p).low)
  unfolding moved
  right_next true = let l = lengths (pieces m) j h in k.left ∙ ap d (omega arith)
  right_next false = let l = lengths (pieces m) j h in ap d (omega arith)

  rule_4 : state_of (moved (ltb p.left p.right) d p) ≡ step d (pieces m) j (state_of p)
  unfolding step
  rule_4 = state_next (ltb p.left p.right) ∙ rw (k.left, k.right) refl

  pub tracks_next : Tracks d m (j + 1) (moved (ltb p.left p.right) d p)
  unfolding moved
  tracks_next =
      let l = lengths (pieces m) j h in
      record {
        state = rule_4 ∙ ap (step d (pieces m) j) k.state ∙ sym (after_next d m j);
        long = omega arith;
        short = omega arith;
        left = left_next (ltb p.left p.right);
        right = right_next (ltb p.left p.right);
        least = kept_least d _ k.least;
      }

-- an admitted reading and the span about its entry are what a search begins with
pub begins : (u v : ℕ) (near : Nearest) (span : Span) → admission u v ≡ Ok near → span ≡ span_about near.entry → Begins u v span near.entry near.distance
begins u v near span h e =
    let a = admitted_near u v near.entry near.distance h in
    let ends = span_ends near.entry span e in
    record { admitted = a; about = record { entry = near.entry; first = a.first; last = a.last; is = e }; from = ends.0; to = ends.1 }

-- where the bracket lies
pub lies : (d : ℕ → ℕ) {u v m distance j : ℕ} {span : Span} {p : Progress} → Begins u v span m distance → j ≤ most_steps → Tracks d m j p → Lies span p
lies d {m = m} {j = j} {p = p} b h k =
    let i = after_inside d m b.admitted.first b.admitted.last j h in
    let low = ap (λ (s : State). s.low) k.state in
    let high = ap (λ (s : State). s.high) k.state in
    record { about = b.about; on_locus = (span_range b.about).1; low = omega arith; high = omega arith; lengths = omega (arith, (lengths (pieces m) j h).low, k.long, k.short) }

-- the answer, once the steps are done
pub answers : (d : ℕ → ℕ) (m max_steps : ℕ) {steps : ℕ} (p : Progress) → steps ≡ steps_of max_steps → Tracks d m (steps_of max_steps) p → record { low = p.low; high = p.low + 2 * p.long + p.short; best = p.best; distance = p.least; steps = steps } ≡ found d m max_steps
unfolding found
answers d m max_steps p e k =
    let distance : p.least ≡ d (after d m (steps_of max_steps)).best = k.least ∙ ap (λ (s : State). d s.best) k.state in
    λ i. record { low = (k.state i).low; high = (k.state i).high; best = (k.state i).best; distance = distance i; steps = e i }

-- the start, by the numbers that the code computes
pub begun : (d : ℕ → ℕ) (m : ℕ) (r : Progress) {a b distance best least : ℕ} → 1 ≤ m → m ≤ 24 → r.low ≡ entry_place (first_entry m) → r.long ≡ 987 * pieces m → r.short ≡ 610 * pieces m
    → a ≡ r.low + r.long → b ≡ a + r.short → distance ≡ d (entry_place m) → r.left ≡ d a → r.right ≡ d b
    → best ≡ cond (ltb r.left distance) a (entry_place m) → least ≡ cond (ltb r.left distance) r.left distance
    → r.best ≡ cond (ltb r.right least) b best → r.least ≡ cond (ltb r.right least) r.right least → Tracks d m 0 r
unfolding after start fibonacci
begun d m r {a} {b} {distance} {best} {least} m≥1 m≤24 low long short ea eb away left right hbest hleast rbest rleast =
    let o : ℕ = entry_place (first_entry m) in
    let e : least ≡ d best = hleast ∙ rw left (kept_least d a away) ∙ ap d (sym (rw left at hbest)) in
    record {
      state = same_state low (omega arith) (rbest ∙ rw right (kept_best d {place = b} {place' = inner_high (pieces m) 0 o} (omega arith) e) ∙ ap (nearer d (inner_high (pieces m) 0 o)) (hbest ∙ rw left (kept_best d {place = a} {place' = inner_low (pieces m) 0 o} (omega arith) away)));
      long = omega arith;
      short = omega arith;
      left = left ∙ ap d (omega arith);
      right = right ∙ ap d (omega arith);
      least = rleast ∙ rw right (kept_least d b e) ∙ ap d (sym (rw right at rbest));
    }
