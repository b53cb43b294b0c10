-- The least of finitely many values (document 01, rule 1 of "The search": of equals, the lowest).
use Rattle.std.specs.Prelude.{ℕ, zero, suc, cond, ltb}

-- of the numbers 0 to n, the one at which f is least; of equals, the lowest
unfoldable pub least_of : (ℕ → ℕ) → ℕ → ℕ
least_of f zero = 0
least_of f (suc n) =
    let m : ℕ = least_of f n in
    cond (ltb (f (suc n)) (f m)) (suc n) m
