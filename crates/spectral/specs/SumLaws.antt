-- Laws of the sum of products: one product more, as a loop counts, and how large it can be.
use Rattle.std.specs.Prelude.{◌≡◌, true, ◌&&◌, List, [], ◌∷◌, leb, eqb, length, get_or, take}
use Rattle.std.proofs.Common.{sym, le_of_suc-le-suc, not-suc-le-zero, mul-le-mul, add-one, take_all, leb-true, eqb-true}
use Prim.Native.Nat.{ℕ, zero, suc, ◌+◌, ◌*◌, ◌^◌, ◌≤◌, ◌<◌}
use native.Mathlib.Omega.{arith}
use Rattle.arith.specs.TestLaws.{and_both}
use Rattle.std.proofs.lemmas.List.Sums.{AllPass-from_list_all}
use Rattle.spectral.specs.Samples.{most_samples, sample_limit, table_limit, lengths_good, all_at_most, limits_good, sum_of_products, sums, largest}
use Rattle.spectral.specs.Conditions.{Sound}
use Rattle.spectral.specs.Code.Summable.{Summable}

next_suc :
    (s t : List ℕ) (k : ℕ) → k < length s → k < length t
    → sum_of_products (take (suc k) s) (take (suc k) t) ≡ sum_of_products (take k s) (take k t) + get_or s k 0 * get_or t k 0
unfolding sum_of_products
next_suc [] t k h l = absurd (not-suc-le-zero h)
next_suc (a ∷ s) [] k h l = absurd (not-suc-le-zero l)
next_suc (a ∷ s) (b ∷ t) zero h l = omega arith
next_suc (a ∷ s) (b ∷ t) (suc k) h l = omega (arith, next_suc s t k (le_of_suc-le-suc h) (le_of_suc-le-suc l))

-- an element of a list whose numbers are at most the limit
element_at_most : (limit : ℕ) (l : List ℕ) → all_at_most limit l ≡ true → (k : ℕ) → k < length l → get_or l k 0 ≤ limit
element_at_most limit l e k h = leb-true (get_or l k 0) limit (AllPass-from_list_all (λ (n : ℕ). leb n limit) l e k 0 h)

-- what may be added up
module _ (s t : List ℕ) (h : Summable s t) where
  -- a product is at most that of the two limits
  product_at_most : (k : ℕ) → k < length s → get_or s k 0 * get_or t k 0 ≤ sample_limit * table_limit
  product_at_most k l = mul-le-mul (element_at_most sample_limit s h.samples k l) (element_at_most table_limit t h.table k (omega arith))

  -- the sum of k products is at most k times as much
  pub sum_at_most : (k : ℕ) → k ≤ length s → sum_of_products (take k s) (take k t) ≤ k * (sample_limit * table_limit)
  unfolding sum_of_products
  sum_at_most zero l = omega arith
  sum_at_most (suc k) l = omega (arith, next_suc s t k l (omega arith), product_at_most k l, sum_at_most k (omega arith))

  -- a loop's sum with one product more is the next sum
  pub sum_next : {n p : ℕ} (k : ℕ) → k < length s → n ≡ sum_of_products (take k s) (take k t) → p ≡ get_or s k 0 * get_or t k 0 → n + p ≡ sum_of_products (take (k + 1) s) (take (k + 1) t)
  sum_next k l e f = rw (e, f, add-one k) (sym (next_suc s t k l (omega arith)))

  -- and 64 bits hold it
  pub sum_fits : {n p : ℕ} (k : ℕ) → k < length s → n ≡ sum_of_products (take k s) (take k t) → p ≡ get_or s k 0 * get_or t k 0 → n + p < 2 ^ 64
  sum_fits k l e f = omega (arith, product_at_most k l, sum_at_most k (omega arith))

-- where neither refusal 9 nor refusal 10 is due, each of the three sums may be made
pub summable : (s x y z : List ℕ) → Sound s x y z → (Summable s x) × (Summable s y) × (Summable s z)
unfolding lengths_good limits_good
summable s x y z h =
    let n : ℕ = length s in
    let p = and_both (leb 1 n && leb n most_samples && eqb (length x) n && eqb (length y) n) (eqb (length z) n) h.lengths in
    let q = and_both (leb 1 n && leb n most_samples && eqb (length x) n) (eqb (length y) n) p.0 in
    let r = and_both (leb 1 n && leb n most_samples) (eqb (length x) n) q.0 in
    let few = leb-true n most_samples (and_both (leb 1 n) (leb n most_samples) r.0).1 in
    let a = and_both (all_at_most sample_limit s && all_at_most table_limit x && all_at_most table_limit y) (all_at_most table_limit z) h.limits in
    let b = and_both (all_at_most sample_limit s && all_at_most table_limit x) (all_at_most table_limit y) a.0 in
    let c = and_both (all_at_most sample_limit s) (all_at_most table_limit x) b.0 in
    let with : (t : List ℕ) → eqb (length t) n ≡ true → all_at_most table_limit t ≡ true → Summable s t = λ t e l. record { same = eqb-true (length t) n e; few = few; samples = c.0; table = l } in
    (with x r.1 c.1, with y q.1 b.1, with z p.1 a.1)

-- 64 bits then hold X, Y and Z, so that `ShiftLaws.shift_least` speaks of all samples that are not refused with 9 or 10
pub sums_fit : (s x y z : List ℕ) → Sound s x y z → largest (sums s x y z) < 2 ^ 64
sums_fit s x y z h =
    let t = summable s x y z h in
    omega (arith, whole t.0, whole t.1, whole t.2, t.0.few)
  where
    whole : {t : List ℕ} → Summable s t → sum_of_products s t ≤ length s * (sample_limit * table_limit)
    whole {t} k = rw (take_all (length s) s (omega arith), take_all (length s) t (omega arith)) at (sum_at_most s t k (length s) (omega arith))
