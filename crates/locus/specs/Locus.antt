-- The locus at every place, and the distance of a reading from it (document 01, "The stored locus" and "The search";
-- document 02, No. 3).
use Rattle.std.specs.Prelude.{ℕ, ◌+◌, ◌-◌, ◌*◌, ◌/◌, min, max, ℤ, pos, nat_abs, ◌+ℤ◌, ◌-ℤ◌, ◌*ℤ◌}
use Rattle.arith.specs.Rounding.{nearest_quotient}
use Rattle.locus.specs.Stored.{entry_u, entry_v, piece_length, entry_place}
use Rattle.reading.specs.declared.Chromaticity.{Chromaticity}

-- the piece that holds a place: piece i runs from entry i to entry i + 1. An entry is in the piece that it starts, the last in piece 23
abbrev pub piece_of : ℕ → ℕ
piece_of place = min 23 (place / piece_length - 1)

-- the first of the four entries that piece i goes through: i − 1 to i + 2, but 1 to 4 for the first piece and 21 to 24 for the last
abbrev pub first_of_four : ℕ → ℕ
first_of_four i = min 21 (max 1 (i - 1))

-- a coordinate of the locus is an exact fraction over this
abbrev pub denominator : ℕ
denominator = 6 * piece_length * piece_length * piece_length

-- `denominator` times the cubic that is w, x, y and z at 0, 1, 2 and 3 lengths of a piece, at s places. This is Lagrange's form: beside each value
-- stand the factors that are 0 at the other three places. `cubic_only` in LocusLaws proves that no other has these values
-- and whole coefficients
abbrev pub cubic : ℕ → ℕ → ℕ → ℕ → ℕ → ℤ
cubic w x y z s =
    let a : ℤ = pos s in
    let b : ℤ = pos s -ℤ pos piece_length in
    let c : ℤ = pos s -ℤ pos (2 * piece_length) in
    let d : ℤ = pos s -ℤ pos (3 * piece_length) in
    pos z *ℤ (a *ℤ b *ℤ c) -ℤ pos (3 * y) *ℤ (a *ℤ b *ℤ d) +ℤ pos (3 * x) *ℤ (a *ℤ c *ℤ d) -ℤ pos w *ℤ (b *ℤ c *ℤ d)

-- one coordinate of piece i at a place not before the first of its four entries, times `denominator`: the cubic in the place through these
-- four. The argument `entry` gives that coordinate of each entry
unfoldable pub between : (ℕ → ℕ) → ℕ → ℕ → ℤ
between entry i place =
    let k : ℕ = first_of_four i in
    cubic (entry k) (entry (k + 1)) (entry (k + 2)) (entry (k + 3)) (place - entry_place k)

-- one coordinate of the locus at a place from the first to the last: that fraction rounded once to nearest, halves up. None is below 0 on
-- the locus (`not_below` in PieceLaws), so that no sign is lost
unfoldable pub locus_at : (ℕ → ℕ) → ℕ → ℕ
locus_at entry place = nearest_quotient (nat_abs (between entry (piece_of place) place)) denominator

-- u and v of the locus at a place
abbrev pub locus_u : ℕ → ℕ
locus_u = locus_at entry_u

abbrev pub locus_v : ℕ → ℕ
locus_v = locus_at entry_v

abbrev pub locus_point : ℕ → Chromaticity
locus_point place = record { u = locus_u place; v = locus_v place }

-- the difference of two numbers, without its sign
abbrev pub difference : ℕ → ℕ → ℕ
difference x y = (x - y) + (y - x)

-- document 01's "distance" of the points (u, v) and (x, y): du² + dv²
unfoldable pub squared_distance : ℕ → ℕ → ℕ → ℕ → ℕ
squared_distance u v x y = difference u x * difference u x + difference v y * difference v y

-- the distance of the reading (u, v) from the locus at a place
unfoldable pub distance_at : ℕ → ℕ → ℕ → ℕ
distance_at u v place = squared_distance u v (locus_u place) (locus_v place)

-- the distance of the reading (u, v) from entry i
unfoldable pub entry_distance : ℕ → ℕ → ℕ → ℕ
entry_distance u v i = squared_distance u v (entry_u i) (entry_v i)
