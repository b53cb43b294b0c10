-- The folds that the code's chains compute, in the words of the definitions.
use Rattle.std.proofs.Common.{◌≡◌, ℕ, Bool, true, false, ◌&&◌, leb, List, [], ◌∷◌, refl}
use Rattle.std.specs.List.{fold}
use Rattle.spectral.specs.Samples.{all_at_most}

all_from : (limit : ℕ) (good : Bool) (l : List ℕ) → fold (λ (b : Bool) (n : ℕ). b && leb n limit) good l ≡ good && all_at_most limit l
all_from limit true [] = refl
all_from limit false [] = refl
all_from limit true (n ∷ l) = all_from limit (leb n limit) l
all_from limit false (n ∷ l) = all_from limit false l

pub all_fold : (limit : ℕ) (l : List ℕ) → fold (λ (b : Bool) (n : ℕ). b && leb n limit) true l ≡ all_at_most limit l
all_fold limit l = all_from limit true l
