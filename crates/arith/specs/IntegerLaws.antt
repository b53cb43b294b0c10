-- Whole numbers with a sign as differences of two without one, which `omega` reads, and how far they are from 0.
use Rattle.std.specs.Prelude.{◌≡◌, refl, Bool, true, false, cond, ℕ, zero, suc, ◌+◌, ◌-◌, ◌*◌, ◌≤◌, T, ltb, ℤ, pos, negsuc, neg_ℤ, nat_abs, ◌+ℤ◌, ◌-ℤ◌, ◌*ℤ◌}
use Rattle.std.proofs.Common.{ap, sym, ◌∙◌, mul-add, add-mul, arith, lt-ltb, le-ltb, ltb-true, ltb-false}
use Rattle.std.proofs.Math.IntN.{sub_ℕ}
use Rattle.std.specs.Int.Signed.{lt_z, non_neg}

-- p is n and z together, or n is p and what z lacks of 0
abbrev pub Counts : ℤ → ℕ → ℕ → Type 0
Counts (pos k) p n = p ≡ k + n
Counts (negsuc k) p n = n ≡ p + suc k

-- z is p − n, as a record, so that z, p and n are found from it
pub record Is (z : ℤ) (p n : ℕ) : Type 0 where
  pub is : Counts z p n

pub is_number : (k : ℕ) → Is (pos k) k 0
is_number k = record { is = omega arith }

-- how far a number is above 0 and below it, one of which is 0
abbrev pub above : ℤ → ℕ
above (pos k) = k
above (negsuc k) = 0

abbrev pub below : ℤ → ℕ
below (pos k) = 0
below (negsuc k) = suc k

pub is_parts : (z : ℤ) → Is z (above z) (below z)
is_parts (pos k) = record { is = omega arith }
is_parts (negsuc k) = record { is = omega arith }

is_sub : (a b p n : ℕ) → p + b ≡ n + a → Is (sub_ℕ a b) p n
is_sub a b p n e = go (ltb a b) refl
  where
    go : (t : Bool) → ltb a b ≡ t → Is (cond t (negsuc (b - suc a)) (pos (a - b))) p n
    go true h = let l = ltb-true a b h in record { is = omega arith }
    go false h = let l = ltb-false a b h in record { is = omega arith }

is_negative : (k p n : ℕ) → n ≡ p + k → Is (neg_ℤ (pos k)) p n
is_negative zero p n e = record { is = omega arith }
is_negative (suc k) p n e = record { is = e }

pub is_sum : {z w : ℤ} {p n q m : ℕ} → Is z p n → Is w q m → Is (z +ℤ w) (p + q) (n + m)
is_sum {z = pos a} {w = pos b} h k = record { is = omega arith }
is_sum {z = pos a} {w = negsuc b} h k = is_sub a (suc b) _ _ (omega arith)
is_sum {z = negsuc a} {w = pos b} h k = is_sub b (suc a) _ _ (omega arith)
is_sum {z = negsuc a} {w = negsuc b} h k = record { is = omega arith }

is_minus : {z : ℤ} {p n : ℕ} → Is z p n → Is (neg_ℤ z) n p
is_minus {z = pos k} h = is_negative k _ _ (omega arith)
is_minus {z = negsuc k} h = record { is = omega arith }

pub is_difference : {z w : ℤ} {p n q m : ℕ} → Is z p n → Is w q m → Is (z -ℤ w) (p + m) (n + q)
is_difference h k = is_sum h (is_minus k)

-- (x + c)(y + d), multiplied out
cross : (x y c d : ℕ) → (x + c) * (y + d) + x * y ≡ c * d + (x * (y + d) + (x + c) * y)
cross x y c d = omega (arith, add-mul x c (y + d), mul-add x y d, mul-add c y d, add-mul x c y)

pub is_product : {z w : ℤ} {p n q m : ℕ} → Is z p n → Is w q m → Is (z *ℤ w) (p * q + n * m) (p * m + n * q)
is_product {z = pos a} {w = pos b} {p = p} {n = n} {q = q} {m = m} h k =
    let f : p ≡ n + a = omega arith in
    let g : q ≡ m + b = omega arith in
    rw (f, g) (record { is = omega (arith, cross n m a b) })
is_product {z = pos a} {w = negsuc b} {p = p} {n = n} {q = q} {m = m} h k =
    let f : p ≡ n + a = omega arith in
    is_negative (a * suc b) (p * q + n * m) (p * m + n * q) (rw (f, k.is) (omega (arith, cross n q a (suc b))))
is_product {z = negsuc a} {w = pos b} {p = p} {n = n} {q = q} {m = m} h k =
    let g : q ≡ m + b = omega arith in
    is_negative (suc a * b) (p * q + n * m) (p * m + n * q) (rw (h.is, g) (omega (arith, cross p m (suc a) b)))
is_product {z = negsuc a} {w = negsuc b} {p = p} {n = n} {q = q} {m = m} h k = rw (h.is, k.is) (record { is = omega (arith, cross p q (suc a) (suc b)) })

-- the same number as another difference
pub is_also : {z : ℤ} {p n : ℕ} (q m : ℕ) → Is z p n → p + m ≡ q + n → Is z q m
is_also {z = pos k} q m h e = record { is = omega arith }
is_also {z = negsuc k} q m h e = record { is = omega arith }

pub is_gap : (p n : ℕ) → Is (pos p -ℤ pos n) p n
is_gap p n = is_also p n (is_difference (is_number p) (is_number n)) (omega arith)

-- equal differences are equal numbers
pub is_same : {z w : ℤ} {p n q m : ℕ} → Is z p n → Is w q m → p + m ≡ q + n → z ≡ w
is_same {z = pos a} {w = pos b} h k e = ap pos (omega arith)
is_same {z = pos a} {w = negsuc b} h k e = absurd (omega arith)
is_same {z = negsuc a} {w = pos b} h k e = absurd (omega arith)
is_same {z = negsuc a} {w = negsuc b} h k e = ap negsuc (omega arith)

-- the sign of a difference
pub below_zero : {z : ℤ} {p n : ℕ} → Is z p n → lt_z z (pos 0) ≡ ltb p n
below_zero {z = pos k} {p = p} {n = n} h = le-ltb k 0 (omega arith) ∙ sym (le-ltb p n (omega arith))
below_zero {z = negsuc k} {p = p} {n = n} h = sym (lt-ltb p n (omega arith))

pub is_nonneg : {z : ℤ} {p n : ℕ} → Is z p n → n ≤ p → T (non_neg z)
is_nonneg {z = pos k} h l = tt
is_nonneg {z = negsuc k} h l = absurd (omega arith)

-- how far a number is from 0
pub abs_whole : {z : ℤ} {p n : ℕ} → Is z p n → n ≤ p → nat_abs z ≡ p - n
abs_whole {z = pos a} h l = omega arith
abs_whole {z = negsuc a} h l = absurd (omega arith)

pub abs_gap : (p n : ℕ) → nat_abs (pos p -ℤ pos n) ≡ (p - n) + (n - p)
abs_gap p n = go (pos p -ℤ pos n) (is_gap p n)
  where
    go : (z : ℤ) → Is z p n → nat_abs z ≡ (p - n) + (n - p)
    go (pos a) h = omega arith
    go (negsuc a) h = omega arith

pub gap_within : (p n k : ℕ) → p ≤ n + k → n ≤ p + k → nat_abs (pos p -ℤ pos n) ≤ k
gap_within p n k l r = omega (arith, abs_gap p n)

sub_within : (a b : ℕ) → nat_abs (sub_ℕ a b) ≤ a + b
sub_within a b = go (ltb a b) refl
  where
    go : (t : Bool) → ltb a b ≡ t → nat_abs (cond t (negsuc (b - suc a)) (pos (a - b))) ≤ a + b
    go true h = let l = ltb-true a b h in omega arith
    go false h = let l = ltb-false a b h in omega arith

pub abs_sum : (z w : ℤ) → nat_abs (z +ℤ w) ≤ nat_abs z + nat_abs w
abs_sum (pos a) (pos b) = omega arith
abs_sum (pos a) (negsuc b) = omega (arith, sub_within a (suc b))
abs_sum (negsuc a) (pos b) = omega (arith, sub_within b (suc a))
abs_sum (negsuc a) (negsuc b) = omega arith

pub abs_minus : (z : ℤ) → nat_abs (neg_ℤ z) ≡ nat_abs z
abs_minus (pos zero) = refl
abs_minus (pos (suc k)) = refl
abs_minus (negsuc k) = refl

pub abs_difference : (z w : ℤ) → nat_abs (z -ℤ w) ≤ nat_abs z + nat_abs w
abs_difference z w = omega (arith, abs_sum z (neg_ℤ w), abs_minus w)

pub abs_product : (z w : ℤ) → nat_abs (z *ℤ w) ≡ nat_abs z * nat_abs w
abs_product (pos a) (pos b) = refl
abs_product (pos a) (negsuc b) = abs_minus (pos (a * suc b))
abs_product (negsuc a) (pos b) = abs_minus (pos (suc a * b))
abs_product (negsuc a) (negsuc b) = refl

pub square_nonneg : (z : ℤ) → T (non_neg (z *ℤ z))
square_nonneg (pos a) = tt
square_nonneg (negsuc a) = tt

-- z is at least j
pub record AtLeast (j : ℕ) (z : ℤ) : Type 0 where
  pub more : ℕ
  pub is : z ≡ pos (more + j)

pub at_least_nonneg : {j : ℕ} {z : ℤ} → AtLeast j z → T (non_neg z)
at_least_nonneg l = rw l.is tt

pub at_least_is : {j p n : ℕ} {z : ℤ} → AtLeast j z → Is z p n → n + j ≤ p
at_least_is l i = omega (arith, (rw l.is at i).is)

-- a sum is at least j where its first number is above 0 by j more than the second is from 0
pub sum_at_least : (z w : ℤ) (j : ℕ) → T (non_neg z) → nat_abs w + j ≤ nat_abs z → AtLeast j (z +ℤ w)
sum_at_least (pos a) (pos b) j t h = record { more = a + b - j; is = ap pos (omega arith) }
sum_at_least (pos a) (negsuc b) j t h = go (ltb a (suc b)) refl
  where
    go : (s : Bool) → ltb a (suc b) ≡ s → AtLeast j (cond s (negsuc (suc b - suc a)) (pos (a - suc b)))
    go true e = let l = ltb-true a (suc b) e in absurd (omega arith)
    go false e = record { more = a - suc b - j; is = ap pos (omega arith) }
sum_at_least (negsuc a) w j t h = absurd t
