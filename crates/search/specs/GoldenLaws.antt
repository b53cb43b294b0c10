-- Laws of the search, for any distance d: the width, that later states advance on earlier ones, where the places lie, how far the best point is.
use Rattle.std.specs.Prelude.{◌≡◌, refl, Bool, true, false, cond, ◌⊎◌, ltb}
use Rattle.std.proofs.Common.{ap, ◌∙◌, inl, inr, mul-add, add-zero, add-one, ltb-true}
use Rattle.std.proofs.Math.Logic.{⊎_elim}
use Prim.Native.Nat.{ℕ, zero, suc, ◌+◌, ◌-◌, ◌*◌, ◌≤◌, ◌<◌}
use Rattle.std.proofs.Math.Nat.{le_refl, le_trans, zero-add}
use native.Mathlib.Omega.{arith}
use Rattle.arith.specs.TestLaws.{cond_both}
use Rattle.locus.specs.Stored.{entry_place, first_place, last_place, first_entry, last_entry}
use Rattle.search.specs.Golden.{pieces, fibonacci, width, inner_low, inner_high, State, nearer, start, step, after, most_steps, steps_of}

-- rule 2: g is 1 about the first and the last entry, otherwise 2
pub pieces_end : (m : ℕ) → (m ≡ 1) ⊎ (m ≡ 24) → pieces m ≡ 1
pieces_end m h = ⊎_elim (λ e. omega arith) (λ e. omega arith) h

pub pieces_inner : (m : ℕ) → 1 < m → m < 24 → pieces m ≡ 2
pieces_inner m h l = omega arith

-- F(n + 2) = F(n + 1) + F(n), and equal numbers, g times
sum : (g c : ℕ) {a b : ℕ} → a ≡ c + 2 → b ≡ c + 1 → g * fibonacci a ≡ g * fibonacci b + g * fibonacci c
unfolding fibonacci
sum g c {a} {b} x y =
    let x' : a ≡ suc (suc c) = omega arith in
    let y' : b ≡ suc c = omega arith in
    rw (x', y') (mul-add g (fibonacci (suc c)) (fibonacci c))

times : (g : ℕ) {a b : ℕ} → a ≡ b → g * fibonacci a ≡ g * fibonacci b
times g e = ap (λ (n : ℕ). g * fibonacci n) e

-- rule 3: how the lengths about step j + 1 go together
pub record Lengths (g j : ℕ) : Type 0 where
  pub whole : width g j ≡ g * fibonacci (17 - j) + g * fibonacci (16 - j)
  pub high : g * fibonacci (17 - j) ≡ g * fibonacci (16 - j) + g * fibonacci (15 - j)
  pub low : g * fibonacci (16 - j) ≡ g * fibonacci (15 - j) + g * fibonacci (15 - (j + 1))
  pub next_whole : width g (j + 1) ≡ g * fibonacci (17 - j)
  pub next_high : g * fibonacci (17 - (j + 1)) ≡ g * fibonacci (16 - j)
  pub next_low : g * fibonacci (16 - (j + 1)) ≡ g * fibonacci (15 - j)

pub lengths : (g j : ℕ) → j ≤ most_steps → Lengths g j
lengths g j h =
    record {
      whole = sum g (16 - j) (omega arith) (omega arith);
      high = sum g (15 - j) (omega arith) (omega arith);
      low = sum g (15 - (j + 1)) (omega arith) (omega arith);
      next_whole = times g (omega arith);
      next_high = times g (omega arith);
      next_low = times g (omega arith);
    }

-- rule 6: a place that is looked at brings nothing farther; it becomes the best point or leaves it
nearer_le : (d : ℕ → ℕ) (place best : ℕ) → d (nearer d place best) ≤ d best
nearer_le d place best = go (ltb (d place) (d best)) refl
  where
    go : (b : Bool) → ltb (d place) (d best) ≡ b → d (cond b place best) ≤ d best
    go true e = omega (arith, ltb-true (d place) (d best) e)
    go false e = le_refl _

nearer_one : (P : ℕ → Type 0) (d : ℕ → ℕ) (place best : ℕ) → P place → (nearer d place best ≡ best) ⊎ P (nearer d place best)
nearer_one P d place best h = cond_both (λ (n : ℕ). (n ≡ best) ⊎ P n) (ltb (d place) (d best)) (inr h) (inl refl)

-- rule 3: the bracket has the width of j steps
abbrev pub Wide : ℕ → ℕ → State → Type 0
Wide g j s = s.high ≡ s.low + width g j

-- a later state t advances on s: its bracket lies within that of s, its best point is no farther, and is that of s or lies in the bracket of s
pub record Advances (d : ℕ → ℕ) (s t : State) : Type 0 where
  pub low : s.low ≤ t.low
  pub high : t.high ≤ s.high
  pub nearer : d t.best ≤ d s.best
  pub best : (t.best ≡ s.best) ⊎ ((s.low ≤ t.best) × (t.best ≤ s.high))

advances_refl : (d : ℕ → ℕ) (s : State) → Advances d s s
advances_refl d s = record { low = le_refl _; high = le_refl _; nearer = le_refl _; best = inl refl }

advances_trans : {d : ℕ → ℕ} {r s t : State} → Advances d r s → Advances d s t → Advances d r t
advances_trans {d} {r} {s} {t} x y =
    record {
      low = le_trans x.low y.low;
      high = le_trans y.high x.high;
      nearer = le_trans y.nearer x.nearer;
      best = ⊎_elim (λ e. ⊎_elim (λ e'. inl (e ∙ e')) (λ i. inr (omega arith)) x.best) (λ i. inr (omega arith)) y.best;
    }

-- a step, whichever way it goes, keeps rule 3's width and advances on the state before it
module _ (d : ℕ → ℕ) (g j : ℕ) (s : State) (h : j ≤ most_steps) (w : Wide g j s) where
  step_wide : Wide g (j + 1) (step d g j s)
  unfolding step
  step_wide =
      let l = lengths g j h in
      cond_both (Wide g (j + 1)) (ltb (d (inner_low g j s.low)) (d (inner_high g j s.low))) (omega arith) (omega arith)

  step_advances : Advances d s (step d g j s)
  unfolding step
  step_advances =
      let l = lengths g j h in
      let a : ℕ = inner_low g j s.low in
      let b : ℕ = inner_high g j s.low in
      let a' : ℕ = inner_low g (j + 1) s.low in
      let b' : ℕ = inner_high g (j + 1) a in
      cond_both (Advances d s) (ltb (d a) (d b))
      (record {
        low = le_refl _;
        high = omega arith;
        nearer = nearer_le d a' s.best;
        best = nearer_one (λ (n : ℕ). (s.low ≤ n) × (n ≤ s.high)) d a' s.best (omega arith);
      })
      (record {
        low = omega arith;
        high = le_refl _;
        nearer = nearer_le d b' s.best;
        best = nearer_one (λ (n : ℕ). (s.low ≤ n) × (n ≤ s.high)) d b' s.best (omega arith);
      })

-- one step more, as code counts
pub after_next : (d : ℕ → ℕ) (m j : ℕ) → after d m (j + 1) ≡ step d (pieces m) j (after d m j)
unfolding after
after_next d m j = rw (add-one j) refl

-- the places of a state lie from one place to another
pub record Inside (from to : ℕ) (s : State) : Type 0 where
  pub low : from ≤ s.low
  pub order : s.low ≤ s.high
  pub high : s.high ≤ to
  pub best_low : from ≤ s.best
  pub best_high : s.best ≤ to

-- the search about entry m, from 1 to 24
module _ (d : ℕ → ℕ) (m : ℕ) (m≥1 : 1 ≤ m) (m≤24 : m ≤ 24) where
  -- rule 3: the width after j steps
  pub after_width : (j : ℕ) → j ≤ most_steps → Wide (pieces m) j (after d m j)
  unfolding after start fibonacci
  after_width zero h = omega arith
  after_width (suc j) h = rw (add-one j) at (step_wide d (pieces m) j (after d m j) (omega arith) (after_width j (omega arith)))

  -- after more steps the state advances on the earlier one
  pub after_advances : (i k : ℕ) → i + k ≤ most_steps → Advances d (after d m i) (after d m (i + k))
  after_advances i zero h = rw add-zero (advances_refl d (after d m i))
  after_advances i (suc k) h =
      let n : ℕ = i + k in
      let w = after_width n (omega arith) in
      let e : i + suc k ≡ n + 1 = omega arith in
      advances_trans (after_advances i k (omega arith)) (rw (e, after_next d m n) (step_advances d (pieces m) n (after d m n) (omega arith) w))

  start_inside : Inside (entry_place (first_entry m)) (entry_place (last_entry m)) (start d m)
  unfolding start fibonacci
  start_inside =
      let low : ℕ = entry_place (first_entry m) in
      let high : ℕ = entry_place (last_entry m) in
      let a : ℕ = inner_low (pieces m) 0 low in
      let b : ℕ = inner_high (pieces m) 0 low in
      let x = cond_both (λ (n : ℕ). (low ≤ n) × (n ≤ high)) (ltb (d a) (d (entry_place m))) {x = a} {y = entry_place m} (omega arith) (omega arith) in
      let y = cond_both (λ (n : ℕ). (low ≤ n) × (n ≤ high)) (ltb (d b) (d (nearer d a (entry_place m)))) {x = b} (omega arith) x in
      record { low = le_refl _; order = omega arith; high = le_refl _; best_low = y.0; best_high = y.1 }

  -- the state at any step advances on the start
  from_start : (j : ℕ) → j ≤ most_steps → Advances d (start d m) (after d m j)
  unfolding after
  from_start j h = rw zero-add at (after_advances 0 j (omega arith))

  -- all places lie in the first bracket
  pub after_inside : (j : ℕ) → j ≤ most_steps → Inside (entry_place (first_entry m)) (entry_place (last_entry m)) (after d m j)
  unfolding start
  after_inside j h =
      let r = from_start j h in
      let s = start_inside in
      let w = after_width j h in
      let b : (entry_place (first_entry m) ≤ (after d m j).best) × ((after d m j).best ≤ entry_place (last_entry m)) =
      ⊎_elim (λ e. omega arith) (λ i. omega arith) r.best in
      record { low = r.low; order = omega arith; high = r.high; best_low = b.0; best_high = b.1 }

  -- all places lie on the locus
  pub after_range : (j : ℕ) → j ≤ most_steps → Inside first_place last_place (after d m j)
  after_range j h =
      let i = after_inside j h in
      record { low = omega arith; order = i.order; high = omega arith; best_low = omega arith; best_high = omega arith }

  -- the best point is no farther than entry m
  pub after_near : (j : ℕ) → j ≤ most_steps → d (after d m j).best ≤ d (entry_place m)
  unfolding start
  after_near j h =
      let low : ℕ = entry_place (first_entry m) in
      let a : ℕ = inner_low (pieces m) 0 low in
      let b : ℕ = inner_high (pieces m) 0 low in
      le_trans (from_start j h).nearer (le_trans (nearer_le d b (nearer d a (entry_place m))) (nearer_le d a (entry_place m)))

  -- demand 3: with more steps allowed the state advances
  pub steps_advance : {n₁ n₂ : ℕ} → n₁ ≤ n₂ → Advances d (after d m (steps_of n₁)) (after d m (steps_of n₂))
  steps_advance {n₁} {n₂} h =
      let e : steps_of n₁ + (steps_of n₂ - steps_of n₁) ≡ steps_of n₂ = omega arith in
      rw e at (after_advances (steps_of n₁) (steps_of n₂ - steps_of n₁) (omega arith))

  -- demand 3: the width for the count reported
  pub steps_width : (n : ℕ) → Wide (pieces m) (steps_of n) (after d m (steps_of n))
  steps_width n = after_width (steps_of n) (omega arith)
