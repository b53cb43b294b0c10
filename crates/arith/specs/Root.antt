-- The whole-number square root (document 01, "The search": Duv). `RootLaws.root_law` says that it is the largest whole d with d² ≤ n.
use Rattle.std.specs.Prelude.{ℕ, zero, suc, ◌+◌, ◌*◌, ◌/◌, cond, leb}

-- the root of an n below 4 ^ k: twice the root of n / 4, or one more
unfoldable pub root_in : ℕ → ℕ → ℕ
root_in zero n = 0
root_in (suc k) n =
    let twice : ℕ = 2 * root_in k (n / 4) in
    cond (leb ((twice + 1) * (twice + 1)) n) (twice + 1) twice

-- 64 bits are 32 digits to base 4
abbrev pub root : ℕ → ℕ
root n = root_in 32 n
