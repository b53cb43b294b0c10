-- A class holds three places exactly when it holds the hottest and the coolest of them: the test is monotone in the place.
use mathlib.Core.Path.{◌≡◌, refl, sym, ap, ◌∙◌}
use mathlib.Core.Bool.{Bool, true, false, ◌&&◌, and_comm}
use mathlib.Core.List.{List, [], ◌∷◌}
use Rattle.std.specs.Prelude.{drop}
use Rattle.std.specs.List.{zip}
use mathlib.Core.Logic.{◌⊎◌, inl, inr, ⊎_elim}
use Prim.Native.Nat.{ℕ, ◌+◌, ◌≤◌, min, max}
use native.Mathlib.Omega.{arith}
use lib.Dec.{leb}
use borrow.Author.Tests.{leb-true, leb-false}
use Rattle.classes.specs.Edges.{edge, neighbours}
use Rattle.classes.specs.Classes.{at_least, below, holds_all}
use Rattle.classes.specs.ClassLaws.{at_least_lower, below_higher}

le_total : (a b : ℕ) → (a ≤ b) ⊎ (b ≤ a)
le_total a b = go (leb a b) refl
  where
    go : (t : Bool) → leb a b ≡ t → (a ≤ b) ⊎ (b ≤ a)
    go true e = inl (leb-true a b e)
    go false e = inr (omega (arith, leb-false a b e))

-- a test that implies another stands for both
absorb : (x y : Bool) → (x ≡ true → y ≡ true) → x ≡ x && y
absorb true y h = sym (h refl)
absorb false y h = refl

module _ (e a b : ℕ) where
  at_least_max : at_least e (max a b) ≡ at_least e a && at_least e b
  at_least_max =
      ⊎_elim
      (λ l. let q : max a b ≡ b = omega arith in rw q (absorb (at_least e b) (at_least e a) (at_least_lower e l) ∙ and_comm (at_least e b) (at_least e a)))
      (λ l. let q : max a b ≡ a = omega arith in rw q (absorb (at_least e a) (at_least e b) (at_least_lower e l)))
      (le_total a b)

  below_min : below e (min a b) ≡ below e a && below e b
  below_min =
      ⊎_elim
      (λ l. let q : min a b ≡ a = omega arith in rw q (absorb (below e a) (below e b) (below_higher e l)))
      (λ l. let q : min a b ≡ b = omega arith in rw q (absorb (below e b) (below e a) (below_higher e l) ∙ and_comm (below e b) (below e a)))
      (le_total a b)

regroup : (a x b y c z : Bool) → (a && x) && (b && y) && (c && z) ≡ (a && b && c) && (x && y && z)
regroup true x true y true z = refl
regroup true true true true false z = refl
regroup true true true false false z = refl
regroup true false true y false z = refl
regroup true true false y c z = refl
regroup true false false y c z = refl
regroup false x b y c z = refl

-- the class's test by the numbers that the code computes
pub holds_ends :
    (es : List ℕ) (low high best j : ℕ) {lo lo' hi hi' : ℕ} {r : Bool} → lo ≡ min low high → lo' ≡ min lo best → hi ≡ max low high → hi' ≡ max hi best
    → r ≡ at_least (edge es j) hi' && below (edge es (j + 1)) lo' → holds_all es low high best j ≡ r
holds_ends es low high best j a b c d e =
    let from : ℕ = edge es j in
    let to : ℕ = edge es (j + 1) in
    regroup (at_least from low) (below to low) (at_least from high) (below to high) (at_least from best) (below to best)
    ∙ rw (e, d, c, b, a, at_least_max from (max low high) best, at_least_max from low high, below_min to (min low high) best, below_min to low high) refl

-- the pairs of an edge and what stands one place later are the neighbours
pub zip_next : (es : List ℕ) → zip es (drop 1 es) ≡ neighbours es
zip_next [] = refl
zip_next (x ∷ []) = refl
zip_next (x ∷ y ∷ l) = ap (◌∷◌ (x, y)) (zip_next (y ∷ l))
