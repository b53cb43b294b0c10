-- The class of a bracket with its best point (document 01, "Shelf classes").
use Rattle.std.specs.Prelude.{Bool, ◌&&◌, cond, List, ℕ, zero, suc, ◌+◌, ◌-◌, ◌*◌, min, leb, ltb, length}
use Rattle.classes.specs.Edges.{edge}

-- the temperature at a place is kelvin_places / place kelvin
abbrev pub kelvin_places : ℕ
kelvin_places = 103360000

-- e ≤ kelvin_places / place, as exact fractions: the temperature at the place is e kelvin or more
abbrev pub at_least : ℕ → ℕ → Bool
at_least e place = leb (e * place) kelvin_places

-- kelvin_places / place < e, as exact fractions: the temperature at the place is below e kelvin
abbrev pub below : ℕ → ℕ → Bool
below e place = ltb kelvin_places (e * place)

-- class j, counted from 0, holds a place: its temperature is at least edge j and below edge j + 1
abbrev pub holds : List ℕ → ℕ → ℕ → Bool
holds es j place = at_least (edge es j) place && below (edge es (j + 1)) place

-- the bracket's ends (document 01's o and p) and its best point (the nearest point seen) all lie in class j
abbrev pub holds_all : List ℕ → ℕ → ℕ → ℕ → ℕ → Bool
holds_all es low high best j = holds es j low && holds es j high && holds es j best

-- given where no class is named
abbrev pub no_class : ℕ
no_class = 255

-- of the numbers below n the last at which the test f passes, otherwise no_class
unfoldable pub last_passing : (ℕ → Bool) → ℕ → ℕ
last_passing f zero = no_class
last_passing f (suc n) = cond (f n) n (last_passing f n)

-- how many classes are looked at: one less than there are edges, and each with a number below no_class. (`ClassLaws.valid_count`: of valid
-- edges, all)
abbrev pub class_count : List ℕ → ℕ
class_count es = min no_class (length es - 1)

-- the class that holds all three places, otherwise no_class. (Where the edges rise, at most one class holds a place)
abbrev pub class_of : List ℕ → ℕ → ℕ → ℕ → ℕ
class_of es low high best = last_passing (holds_all es low high best) (class_count es)
