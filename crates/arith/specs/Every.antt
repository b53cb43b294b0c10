-- A test of each element of a list, with or without the element's number.
use Rattle.std.specs.Prelude.{Bool, List, [], ◌∷◌, ℕ, suc}
use Rattle.std.specs.List.{list_all}

-- the test passes at each element
abbrev pub every : {A : Type 0} → (A → Bool) → List A → Bool
every test l = list_all test l

-- the elements with their numbers, the first of which is n
abbrev pub numbered_from : {A : Type 0} → ℕ → List A → List (ℕ × A)
numbered_from n [] = []
numbered_from n (x ∷ l) = (n, x) ∷ numbered_from (suc n) l

-- the test passes at each element with its number, counted from 0
abbrev pub every_entry : {A : Type 0} → (ℕ → A → Bool) → List A → Bool
every_entry {A} test l = every (λ (p : ℕ × A). test p.0 p.1) (numbered_from 0 l)
