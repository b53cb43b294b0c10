-- `least_of` is among the numbers, no value is less, and all before it are greater; and how a loop that keeps it goes on.
use Rattle.std.specs.Prelude.{◌≡◌, refl, Bool, true, false, cond, ℕ, zero, suc, ◌+◌, ◌≤◌, ◌<◌, ltb}
use Rattle.std.proofs.Common.{⊎_elim, le_refl, lt_of_not-le, eq-or-lt_of_le, le_of_suc-le-suc, not-suc-le-zero, add-one, arith, lt-ltb, le-ltb, ltb-true, ltb-false}
use Rattle.arith.specs.Least.{least_of}

pub record Least (f : ℕ → ℕ) (n m : ℕ) : Type 0 where
  pub among : m ≤ n
  pub none_less : (k : ℕ) → k ≤ n → f m ≤ f k
  pub lowest : (k : ℕ) → k < m → f m < f k

pub least : (f : ℕ → ℕ) (n : ℕ) → Least f n (least_of f n)
unfolding least_of
least f zero = record { among = le_refl 0; none_less = λ k h. let e : k ≡ 0 = omega arith in rw e (le_refl _); lowest = λ k h. absurd (not-suc-le-zero h) }
least f (suc n) = go (ltb (f (suc n)) (f (least_of f n))) refl (least f n)
  where
    go : (b : Bool) → ltb (f (suc n)) (f (least_of f n)) ≡ b → Least f n (least_of f n) → Least f (suc n) (cond b (suc n) (least_of f n))
    go true e l =
        let t = ltb-true (f (suc n)) (f (least_of f n)) e in
        record {
          among = le_refl _;
          none_less = λ k h. ⊎_elim (λ q. rw q (le_refl _)) (λ s. omega (arith, l.none_less k (le_of_suc-le-suc s))) (eq-or-lt_of_le h);
          lowest = λ k h. omega (arith, l.none_less k (le_of_suc-le-suc h));
        }
    go false e l =
        let t = ltb-false (f (suc n)) (f (least_of f n)) e in
        record {
          among = omega (arith, l.among);
          none_less = λ k h. ⊎_elim (λ q. rw q t) (λ s. l.none_less k (le_of_suc-le-suc s)) (eq-or-lt_of_le h);
          lowest = λ k h. l.lowest k h;
        }

-- no other number is the least, and the lowest of equals
pub least_only : (f : ℕ → ℕ) (n m : ℕ) → Least f n m → m ≡ least_of f n
least_only f n m l =
    let i : ℕ = least_of f n in
    let k = least f n in
    let a : m < suc i = lt_of_not-le {n = suc i} {m = m} (λ h. omega (arith, l.lowest i h, k.none_less m l.among)) in
    let b : i < suc m = lt_of_not-le {n = suc m} {m = i} (λ h. omega (arith, k.lowest m h, l.none_less i k.among)) in
    omega arith

-- one number more, as code counts: a loop keeps the least so far, m, with its value d, and looks at the next value e
pub least_new : (f : ℕ → ℕ) (n : ℕ) {m d e : ℕ} → m ≡ least_of f n → d ≡ f m → e ≡ f (n + 1) → e < d → least_of f (n + 1) ≡ n + 1
unfolding least_of
least_new f n {m} {d} {e} a b c h =
    let x : d ≡ f (least_of f n) = cc in
    let y : f (n + 1) < f (least_of f n) = omega arith in
    rw (add-one n) (rw (lt-ltb (f (suc n)) (f (least_of f n)) (rw (add-one n) at y)) refl)

pub least_old : (f : ℕ → ℕ) (n : ℕ) {m d e : ℕ} → m ≡ least_of f n → d ≡ f m → e ≡ f (n + 1) → d ≤ e → least_of f (n + 1) ≡ m
unfolding least_of
least_old f n {m} {d} {e} a b c h =
    let x : d ≡ f (least_of f n) = cc in
    let y : f (least_of f n) ≤ f (n + 1) = omega arith in
    let z : least_of f (n + 1) ≡ least_of f n = rw (add-one n) (rw (le-ltb (f (suc n)) (f (least_of f n)) (rw (add-one n) at y)) refl) in
    cc
