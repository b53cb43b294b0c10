-- Golden-section search (document 01, "The search", rules 2 to 6). The argument d gives the distance of the reading at each place.
use Rattle.std.specs.Prelude.{ℕ, zero, suc, ◌+◌, ◌-◌, ◌*◌, min, cond, ltb}
use Rattle.locus.specs.Stored.{entry_place, first_entry, last_entry}

-- rule 2: document 01's g, the number of pieces in the bracket about entry m
abbrev pub pieces : ℕ → ℕ
pieces m = last_entry m - first_entry m

-- rule 3: document 01's F, Fibonacci's numbers, of which the first two are 1
unfoldable pub fibonacci : ℕ → ℕ
fibonacci zero = 0
fibonacci (suc zero) = 1
fibonacci (suc (suc n)) = fibonacci (suc n) + fibonacci n

-- rule 3: the width of the bracket after j steps
abbrev pub width : ℕ → ℕ → ℕ
width g j = g * fibonacci (18 - j)

-- rule 3: the two inner points, document 01's a and b, of a bracket that starts at low after j steps
abbrev pub inner_low : ℕ → ℕ → ℕ → ℕ
inner_low g j low = low + g * fibonacci (16 - j)

abbrev pub inner_high : ℕ → ℕ → ℕ → ℕ
inner_high g j low = low + g * fibonacci (17 - j)

-- the bracket, document 01's [o, p], and the best point, its "nearest point seen"
pub record State : Type 0 where
  pub low : ℕ
  pub high : ℕ
  pub best : ℕ

-- rule 6: a place that is looked at becomes the best point where its distance is strictly smaller
abbrev pub nearer : (ℕ → ℕ) → ℕ → ℕ → ℕ
nearer d place best = cond (ltb (d place) (d best)) place best

-- rules 2 and 6: the bracket about entry m; the best point starts as entry m, and a and then b are looked at
unfoldable pub start : (ℕ → ℕ) → ℕ → State
start d m =
    let low : ℕ = entry_place (first_entry m) in
    let a : ℕ = inner_low (pieces m) 0 low in
    let b : ℕ = inner_high (pieces m) 0 low in
    record { low = low; high = entry_place (last_entry m); best = nearer d b (nearer d a (entry_place m)) }

-- rules 4 and 6: a step after the first j. Where a is nearer than b, b becomes the high end and the new a is looked at; where it is
-- not, on equal distances too, a becomes the low end and the new b is looked at
unfoldable pub step : (ℕ → ℕ) → ℕ → ℕ → State → State
step d g j s =
    let a : ℕ = inner_low g j s.low in
    let b : ℕ = inner_high g j s.low in
    cond (ltb (d a) (d b))
    (record { low = s.low; high = b; best = nearer d (inner_low g (j + 1) s.low) s.best })
    (record { low = a; high = s.high; best = nearer d (inner_high g (j + 1) a) s.best })

-- the search about entry m after j steps
unfoldable pub after : (ℕ → ℕ) → ℕ → ℕ → State
after d m zero = start d m
after d m (suc j) = step d (pieces m) j (after d m j)

-- rule 5: the most steps
abbrev pub most_steps : ℕ
most_steps = 14

-- rule 5: the number of steps, for document 01's allowance
abbrev pub steps_of : ℕ → ℕ
steps_of max_steps = min max_steps most_steps
