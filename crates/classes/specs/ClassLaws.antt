-- Laws of the classes: at most one holds a place, one is named exactly when it holds all three places, and it stays named when the bracket narrows.
use Rattle.std.specs.Prelude.{◌≡◌, refl, Bool, true, false, ◌&&◌, cond, List, ◌⊎◌, ℕ, zero, suc, ◌+◌, ◌-◌, ◌*◌, ◌≤◌, ◌<◌, length}
use Rattle.std.proofs.Common.{sym, ◌∙◌, ⊎_elim, mul-le-mul_left, mul-le-mul_right, not-suc-le-zero, le_of_suc-le-suc, eq-or-lt_of_le, le_refl, add-one, arith, leb-true, le-leb, ltb-true, lt-ltb}
use Rattle.arith.specs.TestLaws.{and_both, both_and}
use Rattle.classes.specs.Edges.{edge, rising, edges_valid}
use Rattle.classes.specs.EdgeLaws.{edge_le, valid_short}
use Rattle.classes.specs.Classes.{kelvin_places, at_least, below, holds, holds_all, no_class, last_passing, class_count, class_of}

-- it is hotter at a lower place
pub at_least_lower : (e : ℕ) {x y : ℕ} → x ≤ y → at_least e y ≡ true → at_least e x ≡ true
at_least_lower e {x} {y} l h = le-leb (e * x) kelvin_places (omega (arith, leb-true (e * y) kelvin_places h, mul-le-mul_left e l))

pub below_higher : (e : ℕ) {x y : ℕ} → x ≤ y → below e x ≡ true → below e y ≡ true
below_higher e {x} {y} l h = lt-ltb kelvin_places (e * y) (omega (arith, ltb-true kelvin_places (e * x) h, mul-le-mul_left e l))

-- what lies between two places of a class lies in it
pub holds_between : (es : List ℕ) (j : ℕ) {x y : ℕ} (z : ℕ) → holds es j x ≡ true → holds es j y ≡ true → x ≤ z → z ≤ y → holds es j z ≡ true
holds_between es j {x} {y} z a b h l =
    both_and
    (at_least_lower (edge es j) l (and_both (at_least (edge es j) y) (below (edge es (j + 1)) y) b).0)
    (below_higher (edge es (j + 1)) h (and_both (at_least (edge es j) x) (below (edge es (j + 1)) x) a).1)

module _ (es : List ℕ) (up : rising es ≡ true) where
  apart : (place j k : ℕ) → j < k → k < length es - 1 → holds es j place ≡ true → holds es k place ≡ true → ⊥
  apart place j k l h x y =
      let e : j + 1 + (k - (j + 1)) ≡ k = omega arith in
      let c : edge es (j + 1) ≤ edge es k = rw e at (edge_le es up (j + 1) (k - (j + 1)) (omega arith)) in
      let a = and_both (at_least (edge es j) place) (below (edge es (j + 1)) place) x in
      let b = and_both (at_least (edge es k) place) (below (edge es (k + 1)) place) y in
      omega (arith, mul-le-mul_right place c, leb-true (edge es k * place) kelvin_places b.0, ltb-true kelvin_places (edge es (j + 1) * place) a.1)

  -- where the edges rise, at most one class holds a place
  pub one_class : (place j k : ℕ) → j < length es - 1 → k < length es - 1 → holds es j place ≡ true → holds es k place ≡ true → j ≡ k
  one_class place j k h l x y =
      let f : ¬ (j < k) = λ t. apart place j k t l x y in
      let f' : ¬ (k < j) = λ t. apart place k j t h y x in
      omega arith

-- class j is one of the classes, and holds the bracket's ends and its best point
pub record InClass (es : List ℕ) (low high best j : ℕ) : Type 0 where
  pub below : j < class_count es
  pub holds_low : holds es j low ≡ true
  pub holds_high : holds es j high ≡ true
  pub holds_best : holds es j best ≡ true

-- one number more, as code counts
pub last_next : (f : ℕ → Bool) (n : ℕ) {b : Bool} → f n ≡ b → last_passing f (n + 1) ≡ cond b n (last_passing f n)
unfolding last_passing
last_next f n e = rw (add-one n, e) refl

-- a number that `last_passing` gives passes the test
abbrev Passes : (ℕ → Bool) → ℕ → ℕ → Type 0
Passes f n k = (k < n) × (f k ≡ true)

last_passes : (f : ℕ → Bool) (n : ℕ) → (last_passing f n ≡ no_class → ⊥) → Passes f n (last_passing f n)
unfolding last_passing
last_passes f zero w = absurd (w refl)
last_passes f (suc n) w = go (f n) refl w (last_passes f n)
  where
    go : (b : Bool) → f n ≡ b → (cond b n (last_passing f n) ≡ no_class → ⊥) → ((last_passing f n ≡ no_class → ⊥) → Passes f n (last_passing f n)) → Passes f (suc n) (cond b n (last_passing f n))
    go true x v r = (omega arith, x)
    go false x v r = (omega (arith, (r v).0), (r v).1)

-- a number that passes the test is given, where no other below n passes
passing_last : (f : ℕ → Bool) (n k : ℕ) → k < n → f k ≡ true → ((i : ℕ) → i < n → f i ≡ true → i ≡ k) → last_passing f n ≡ k
unfolding last_passing
passing_last f zero k l e only = absurd (not-suc-le-zero l)
passing_last f (suc n) k l e only = go (f n) refl (λ t. passing_last f n k t e (λ i h. only i (omega arith)))
  where
    go : (b : Bool) → f n ≡ b → (k < n → last_passing f n ≡ k) → cond b n (last_passing f n) ≡ k
    go true x r = only n (le_refl _) x
    go false x r = ⊎_elim (λ q. let z : f n ≡ true = rw (← q) e in let y : true ≡ false = sym z ∙ x in cc) r (eq-or-lt_of_le (le_of_suc-le-suc l))

module _ (es : List ℕ) (low high best : ℕ) where
  -- a class that is named holds all three places
  pub named_holds : (class_of es low high best ≡ no_class → ⊥) → InClass es low high best (class_of es low high best)
  named_holds w =
      let j : ℕ = class_of es low high best in
      let r = last_passes (holds_all es low high best) (class_count es) w in
      let x = and_both (holds es j low && holds es j high) (holds es j best) r.1 in
      let y = and_both (holds es j low) (holds es j high) x.0 in
      record { below = r.0; holds_low = y.0; holds_high = y.1; holds_best = x.1 }

  -- where the edges rise, a class that holds all three places is named
  pub holds_named : rising es ≡ true → {j : ℕ} → InClass es low high best j → class_of es low high best ≡ j
  holds_named up {j} h =
      passing_last (holds_all es low high best) (class_count es) j h.below (both_and (both_and h.holds_low h.holds_high) h.holds_best)
      (λ i l p. one_class es up low i j (omega arith) (omega (arith, h.below)) (and_both (holds es i low) (holds es i high) (and_both (holds es i low && holds es i high) (holds es i best) p).0).0 h.holds_low)

-- every class of valid edges is looked at
pub valid_count : (es : List ℕ) → edges_valid es ≡ true → class_count es ≡ length es - 1
valid_count es v = let h = valid_short es v in omega arith

-- a class that is named for a bracket is named for every bracket within it whose best point is the same or lies in the first bracket
pub class_kept :
    (es : List ℕ) {low high best low' high' best' : ℕ} → rising es ≡ true → low ≤ low' → low' ≤ high' → high' ≤ high
    → (best' ≡ best) ⊎ ((low ≤ best') × (best' ≤ high)) → (class_of es low high best ≡ no_class → ⊥) → class_of es low' high' best' ≡ class_of es low high best
class_kept es {low} {high} {best} {low'} {high'} {best'} up a b c w named =
    let j : ℕ = class_of es low high best in
    let h = named_holds es low high best named in
    let mid : (z : ℕ) → low ≤ z → z ≤ high → holds es j z ≡ true = λ z l m. holds_between es j z h.holds_low h.holds_high l m in
    holds_named es low' high' best' up
    (record {
      below = h.below;
      holds_low = mid low' a (omega arith);
      holds_high = mid high' (omega arith) c;
      holds_best = ⊎_elim (λ e. rw e h.holds_best) (λ i. mid best' i.0 i.1) w;
    })
