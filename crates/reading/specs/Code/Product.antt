-- The exact product of a float and a whole number, for the contract of `exact_product`.
use Rattle.std.specs.Prelude.{ℕ, ◌*◌, Float}
use Rattle.std.specs.Float.{nan, inf, fin}
use Rattle.std.specs.Float.Ieee.{up, down}
use Rattle.std.specs.Float.Ieee.Exact.{HasValue}

-- r is x · n, of a finite x, with no rounding
abbrev pub IsProduct : Float → ℕ → Float → Type 0
IsProduct nan n r = ⊥
IsProduct (inf s) n r = ⊥
IsProduct (fin s m e) n r = HasValue r s (m * up e * n) (down e)
