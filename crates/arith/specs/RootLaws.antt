-- `root n` is the largest whole number whose square is at most n, for every n below 2 ^ 64, and the only one.
use Rattle.std.specs.Prelude.{◌≡◌, refl, Bool, true, false, cond, ℕ, zero, suc, ◌+◌, ◌*◌, ◌^◌, ◌/◌, ◌≤◌, ◌<◌, leb}
use Rattle.std.proofs.Common.{mul-le-mul, pow-suc, arith, leb-true, leb-false}
use Rattle.arith.specs.Root.{root_in, root}

-- r is the root of n
pub record IsRoot (n r : ℕ) : Type 0 where
  pub low : r * r ≤ n
  pub high : n < (r + 1) * (r + 1)

-- from the root r of n / 4: twice r or one more is the root of n
step : (n r : ℕ) → IsRoot (n / 4) r → (b : Bool) → leb ((2 * r + 1) * (2 * r + 1)) n ≡ b → IsRoot n (cond b (2 * r + 1) (2 * r))
step n r h true e = record { low = leb-true _ n e; high = omega arith }
step n r h false e = record { low = omega arith; high = leb-false _ n e }

is_root : (k n : ℕ) → n < 4 ^ k → IsRoot n (root_in k n)
unfolding root_in
is_root zero n h = record { low = omega arith; high = omega arith }
is_root (suc k) n h = step n (root_in k (n / 4)) (is_root k (n / 4) (omega (arith, pow-suc 4 k))) _ refl

pub root_law : (n : ℕ) → n < 2 ^ 64 → IsRoot n (root n)
root_law n h = is_root 32 n h

-- no other number is the root
pub root_only : (n r : ℕ) → n < 2 ^ 64 → IsRoot n r → r ≡ root n
root_only n r h l =
    let m = root_law n h in
    let x : ¬ (r < root n) = λ t. omega (arith, mul-le-mul {n₁ = r + 1} {m₁ = r + 1} {n₂ = root n} {m₂ = root n} (omega arith) (omega arith)) in
    let y : ¬ (root n < r) = λ t. omega (arith, mul-le-mul {n₁ = root n + 1} {m₁ = root n + 1} {n₂ = r} {m₂ = r} (omega arith) (omega arith)) in
    omega arith

-- the root of a number below a square is below the square's root
pub root_below : (n b : ℕ) → n < 2 ^ 64 → n < b * b → root n < b
root_below n b h l =
    let m = root_law n h in
    let x : ¬ (b ≤ root n) = λ t. omega (arith, mul-le-mul t t) in
    omega arith
