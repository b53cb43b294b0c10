-- What spectral samples come to (document 02, No. 1): u and v in micro, or a refusal. Definitions only. Of four lists, s has the samples, and
-- x, y and z are the observer's tables, its colour-matching functions in millionths.
use Rattle.std.specs.Prelude.{ℕ, zero, suc, ◌+◌, ◌*◌, ◌/◌, ◌^◌, max, Bool, ◌&&◌, cond, List, [], ◌∷◌, leb, ltb, eqb, length, Err}
use Rattle.std.specs.List.{list_all}
use Rattle.refusal.specs.declared.Refusal.TheVariants.{TooDark, BadLengths, SampleTooLarge}
use Rattle.reading.specs.Convert.{Converted, of_xyz}
use Rattle.spectral.specs.declared.Tristimulus.{Tristimulus}

-- There are 1 to 471 samples.
abbrev pub most_samples : ℕ
most_samples = 471

-- A sample is at most 16,777,215.
abbrev pub sample_limit : ℕ
sample_limit = 16777215

-- A table's number is at most 4,000,000 millionths.
abbrev pub table_limit : ℕ
table_limit = 4000000

-- Refusal 9 is given where this fails: 1 to 471 samples, and as many numbers in each table.
unfoldable pub lengths_good : (s x y z : List ℕ) → Bool
lengths_good s x y z =
    leb 1 (length s) && leb (length s) most_samples && eqb (length x) (length s) && eqb (length y) (length s) && eqb (length z) (length s)

-- each number of the list is at most the limit
abbrev pub all_at_most : ℕ → List ℕ → Bool
all_at_most limit l = list_all (λ (n : ℕ). leb n limit) l

-- Refusal 10 is given where this fails: every sample and every table's number is at most its limit.
unfoldable pub limits_good : (s x y z : List ℕ) → Bool
limits_good s x y z = all_at_most sample_limit s && all_at_most table_limit x && all_at_most table_limit y && all_at_most table_limit z

-- the plain sum of the products of the samples with a table
unfoldable pub sum_of_products : List ℕ → List ℕ → ℕ
sum_of_products (a ∷ s) (b ∷ t) = a * b + sum_of_products s t
sum_of_products [] t = 0
sum_of_products (a ∷ s) [] = 0

-- X, Y and Z, one sum with each table
abbrev pub sums : (s x y z : List ℕ) → Tristimulus
sums s x y z = record { x = sum_of_products s x; y = sum_of_products s y; z = sum_of_products s z }

-- the lowest of 0, 1, .., n at which the test passes; n where it passes at none before
unfoldable pub lowest : (ℕ → Bool) → ℕ → ℕ
lowest test zero = 0
lowest test (suc n) = cond (test 0) 0 (suc (lowest (λ (k : ℕ). test (suc k)) n))

-- the least k for which n / 2^k, rounded down, is under 2^32; n itself is such a k
unfoldable pub shift_of : ℕ → ℕ
shift_of n = lowest (λ (k : ℕ). ltb (n / 2 ^ k) (2 ^ 32)) n

-- the largest of X, Y and Z
abbrev pub largest : Tristimulus → ℕ
largest t = max (max t.x t.y) t.z

-- X, Y and Z divided, rounding down, by the least power of two that leaves the largest under 2^32
unfoldable pub divided : Tristimulus → Tristimulus
divided t =
    let k : ℕ = shift_of (largest t) in
    record { x = t.x / 2 ^ k; y = t.y / 2 ^ k; z = t.z / 2 ^ k }

-- document 01's XYZ rule on the divided sums; refusal 4 only where their Y is zero
unfoldable pub of_divided : Tristimulus → Converted
of_divided t = cond (eqb t.y 0) (Err TooDark) (of_xyz t.x t.y t.z)

-- what the samples come to: refusals 9 and 10, in this order, stand before any sum
unfoldable pub convert_samples : (s x y z : List ℕ) → Converted
convert_samples s x y z =
    cond (lengths_good s x y z)
    (cond (limits_good s x y z) (of_divided (divided (sums s x y z))) (Err SampleTooLarge))
    (Err BadLengths)
