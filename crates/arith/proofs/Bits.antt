-- The rounds of `root_by_bits`: what it keeps of n with k rounds to go, and what one round makes of that.
use mathlib.Core.Path.{◌≡◌, sym, ◌∙◌}
use Prim.Native.Nat.{ℕ, suc, ◌+◌, ◌*◌, ◌^◌, ◌-◌, ◌/◌, ◌%◌, ◌≤◌, ◌<◌}
use native.Mathlib.Nat.{pow-suc, mul-le-mul}
use native.Mathlib.Omega.{arith}
use lib.Pow.{pow_pos, pow_mono, pow-add, shl_exact}
use Rattle.arith.specs.Root.{root}
use Rattle.arith.specs.RootLaws.{root_only}

-- the bits from bit k up are found: n is at least the square of found, and below that of found + 2 ^ k
pub record Rooting (n k rest root square : ℕ) : Type 0 where
  pub found : ℕ
  pub above : rest + found * found ≡ n
  pub below : n < (found + 2 ^ k) * (found + 2 ^ k)
  pub short : found + 2 ^ k ≤ 2 ^ 32
  pub scaled : root ≡ found * 2 ^ k
  pub squared : square ≡ 2 ^ k * 2 ^ k / 4

-- before the first round no bit is found, and the square is the shift of 1 that the code makes
pub begun : {n k : ℕ} → 1 ≤ k → k ≤ 32 → n < 2 ^ (k + k) → Rooting n k n 0 (1 * 2 ^ (k + k - 2) % 2 ^ 64)
begun {n} {k} p l h =
    let a : 1 * 2 ^ (k + k - 2) % 2 ^ 64 ≡ 1 * 2 ^ (k + k - 2) = shl_exact 1 (k + k - 2) 64 (omega arith) (omega arith) in
    let f : k + k - 2 + 2 ≡ k + k = omega arith in
    let b : 2 ^ (k + k - 2) * 4 ≡ 2 ^ (k + k) = rw f at (sym (pow-add 2 (k + k - 2) 2)) in
    let d = pow-add 2 k k in
    record { found = 0; above = omega arith; below = omega arith; short = omega (arith, pow_mono l); scaled = omega arith; squared = omega arith }

-- 2 ^ k, root and square in terms of the next bit, p
pub halved : {n k rest root square : ℕ} → 0 < k → (s : Rooting n k rest root square) → let p = 2 ^ (k - 1) in (2 ^ k ≡ 2 * p) × (0 < p) × (root ≡ 2 * (s.found * p)) × (square ≡ p * p)
halved {k = k} pos s =
    let f : suc (k - 1) ≡ k = omega arith in
    let two : 2 ^ k ≡ 2 ^ (k - 1) * 2 = rw f at (pow-suc 2 (k - 1)) in
    (omega arith, pow_pos (k - 1), omega (arith, rw two at s.scaled), omega (arith, rw two at s.squared))

-- the growth of the square fits 64 bits
pub fits : {n k rest root square : ℕ} → 0 < k → Rooting n k rest root square → root + square < 2 ^ 64
fits {k = k} pos s =
    let q = halved pos s in
    let l : s.found + 2 ^ (k - 1) ≤ 4294967295 = omega arith in
    omega (arith, mul-le-mul l l)

-- one round: the next bit is 1, or it is 0
pub taken : {n k rest root square rest' root' : ℕ} → 0 < k → Rooting n k rest root square → rest' + (root + square) ≡ rest → root' + root / 2 ≡ root + square → Rooting n (k - 1) rest' root' (square / 4)
taken {k = k} pos s a b =
    let q = halved pos s in
    record { found = s.found + 2 ^ (k - 1); above = omega arith; below = omega (arith, rw q.0 at s.below); short = omega arith; scaled = omega arith; squared = omega arith }

pub passed : {n k rest root square rest' root' : ℕ} → 0 < k → Rooting n k rest root square → rest < root + square → rest' ≡ rest → root' ≡ root / 2 → Rooting n (k - 1) rest' root' (square / 4)
passed pos s h a b =
    let q = halved pos s in
    record { found = s.found; above = omega arith; below = omega arith; short = omega arith; scaled = omega arith; squared = omega arith }

-- after the last round
pub ended : {n rest r square : ℕ} → n < 2 ^ 64 → Rooting n 0 rest r square → r ≡ root n
ended {n} {r = r} h s =
    let e : r ≡ s.found = omega arith in
    e ∙ root_only n s.found h (record { low = omega arith; high = omega arith })
