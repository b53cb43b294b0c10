-- No refusal has the number 0, and no two have the same.
use Rattle.std.specs.Prelude.{◌≡◌, refl, List, [], ◌∷◌, ℕ, ◌-◌, ◌<◌, get_or}
use Rattle.std.proofs.Common.{sym, ap, ◌∙◌, lit<}
use Rattle.refusal.specs.Number.{number_of}
use Rattle.refusal.specs.declared.Refusal.{Refusal}
use Rattle.refusal.specs.declared.Refusal.TheVariants.{BadEdges, NotFinite, OutOfRange, TooDark, TooFar, TooHot, TooCool, BadLine, BadLengths, SampleTooLarge, TooManyRecords, NoRoom, NoTrailer, BadRecordLength, BadTrailer, TooManyLots, NoSuchPlace, StaleStamp, LastStamp}

-- no refusal has the number of an accepted answer, 0
pub number_positive : (r : Refusal) → 0 < number_of r
number_positive BadEdges = lit< tt
number_positive NotFinite = lit< tt
number_positive OutOfRange = lit< tt
number_positive TooDark = lit< tt
number_positive TooFar = lit< tt
number_positive TooHot = lit< tt
number_positive TooCool = lit< tt
number_positive BadLine = lit< tt
number_positive BadLengths = lit< tt
number_positive SampleTooLarge = lit< tt
number_positive TooManyRecords = lit< tt
number_positive NoRoom = lit< tt
number_positive NoTrailer = lit< tt
number_positive BadRecordLength = lit< tt
number_positive BadTrailer = lit< tt
number_positive TooManyLots = lit< tt
number_positive NoSuchPlace = lit< tt
number_positive StaleStamp = lit< tt
number_positive LastStamp = lit< tt

-- the refusals in the order of their numbers
refusals : List Refusal
refusals =
    BadEdges ∷ NotFinite ∷ OutOfRange ∷ TooDark ∷ TooFar ∷ TooHot ∷ TooCool ∷ BadLine ∷ BadLengths ∷ SampleTooLarge
    ∷ TooManyRecords ∷ NoRoom ∷ NoTrailer ∷ BadRecordLength ∷ BadTrailer
    ∷ TooManyLots ∷ NoSuchPlace ∷ StaleStamp ∷ LastStamp ∷ []

-- the refusal that has the number n
refusal_of : ℕ → Refusal
refusal_of n = get_or refusals (n - 1) BadEdges

of_number : (r : Refusal) → refusal_of (number_of r) ≡ r
unfolding refusals refusal_of
of_number BadEdges = refl
of_number NotFinite = refl
of_number OutOfRange = refl
of_number TooDark = refl
of_number TooFar = refl
of_number TooHot = refl
of_number TooCool = refl
of_number BadLine = refl
of_number BadLengths = refl
of_number SampleTooLarge = refl
of_number TooManyRecords = refl
of_number NoRoom = refl
of_number NoTrailer = refl
of_number BadRecordLength = refl
of_number BadTrailer = refl
of_number TooManyLots = refl
of_number NoSuchPlace = refl
of_number StaleStamp = refl
of_number LastStamp = refl

-- two refusals with one number are one refusal
pub number_injective : (r s : Refusal) → number_of r ≡ number_of s → r ≡ s
number_injective r s e = sym (of_number r) ∙ ap refusal_of e ∙ of_number s
