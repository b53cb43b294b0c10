-- A signed number as the machine reads it back from its bits, and what is worked out from such numbers where they are small.
use Rattle.std.specs.Prelude.{◌≡◌, refl, ℕ, ◌+◌, ◌*◌, ◌≤◌, T, leb, ℤ, pos, negsuc, nat_abs, ◌+ℤ◌, ◌-ℤ◌, ◌*ℤ◌}
use Rattle.std.proofs.Common.{◌∙◌, mul-le-mul, arith, leb→le, SFits, to_z, of_z, to_z-of_z}
use Rattle.std.specs.Int.{Width, w64}
use Rattle.std.proofs.Math.Facts.{to_z_pos}
use Rattle.arith.specs.IntegerLaws.{gap_within, abs_sum, abs_difference, abs_product}

-- what w bits hold of z
abbrev pub read : Width → ℤ → ℤ
read w z = to_z w (of_z w z)

-- a number that fits is read back as it was
pub back : {w : Width} {z : ℤ} → SFits w z → read w z ≡ z
back fits = to_z-of_z fits

-- as far from 0 as sums and products of 64 bits are followed here; 64 bits hold more
abbrev pub farthest : ℕ
farthest = 9000000000000000000

-- the machine's z is the number x, at most k from 0
pub record Kept (z x : ℤ) (k : ℕ) : Type 0 where
  pub same : z ≡ x
  pub small : nat_abs x ≤ k

fits : (z : ℤ) → nat_abs z ≤ farthest → SFits w64 z
fits (pos n) h = record { sfits = omega arith }
fits (negsuc n) h = record { sfits = omega arith }

pub kept : (z : ℤ) {k : ℕ} → nat_abs z ≤ k → Kept z z k
kept z h = record { same = refl; small = h }

module _ {z x : ℤ} {k : ℕ} (a : Kept z x k) (l : T (leb k farthest)) where
  pub kept_fits : SFits w64 z
  kept_fits = rw a.same (fits x (omega (arith, a.small, leb→le k farthest l)))

  pub kept_read : read w64 z ≡ x
  kept_read = back kept_fits ∙ a.same

-- what is worked out from numbers that are kept
module _ {z x y w : ℤ} {k j : ℕ} (a : Kept z x k) (b : Kept w y j) (l : T (leb k farthest)) (m : T (leb j farthest)) where
  pub kept_sum : Kept (read w64 z +ℤ read w64 w) (x +ℤ y) (k + j)
  kept_sum = record { same = rw (kept_read a l, kept_read b m) refl; small = omega (arith, abs_sum x y, a.small, b.small) }

  pub kept_product : Kept (read w64 z *ℤ read w64 w) (x *ℤ y) (k * j)
  kept_product = record { same = rw (kept_read a l, kept_read b m) refl; small = rw (abs_product x y) (mul-le-mul a.small b.small) }

pub kept_less : {z x : ℤ} {k : ℕ} (n : ℕ) → Kept z x k → T (leb k farthest) → Kept (read w64 z -ℤ pos n) (x -ℤ pos n) (k + n)
kept_less {x = x} n a l = record { same = rw (kept_read a l) refl; small = omega (arith, abs_difference x (pos n), a.small) }

pub kept_times : {z x : ℤ} {k : ℕ} (n : ℕ) → Kept z x k → T (leb k farthest) → Kept (pos n *ℤ read w64 z) (pos n *ℤ x) (n * k)
kept_times {x = x} n a l = record { same = rw (kept_read a l) refl; small = rw (abs_product (pos n) x) (mul-le-mul {n₁ = n} {n₂ = n} (omega arith) a.small) }

-- the difference of two numbers of 32 bits
pub gap_kept : (x y : ℕ) → x ≤ 4294967295 → y ≤ 4294967295 → Kept (to_z w64 x -ℤ to_z w64 y) (pos x -ℤ pos y) 4294967295
gap_kept x y a b =
    record {
      same = rw (to_z_pos w64 {n = x} (omega arith), to_z_pos w64 {n = y} (omega arith)) refl;
      small = gap_within x y 4294967295 (omega arith) (omega arith);
    }
