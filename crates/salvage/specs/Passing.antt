-- The elements of a list that pass a test, and the numbers of the others. Definitions only.
use Rattle.std.specs.Prelude.{◌≡◌, Bool, cond, List, [], ◌∷◌, ℕ, suc, ◌<◌, length, get_or}

-- the elements that pass, in order
abbrev pub passing : {A : Type 0} → (A → Bool) → List A → List A
passing f [] = []
passing f (x ∷ xs) = cond (f x) (x ∷ passing f xs) (passing f xs)

-- the numbers of the others, the first element being number i
abbrev pub failing : {A : Type 0} → (A → Bool) → ℕ → List A → List ℕ
failing f i [] = []
failing f i (x ∷ xs) = cond (f x) (failing f (suc i) xs) (i ∷ failing f (suc i) xs)

-- n stands in a list of numbers
pub record Listed (n : ℕ) (ns : List ℕ) : Type 0 where
  pub place : ℕ
  pub below : place < length ns
  pub is : get_or ns place 0 ≡ n
