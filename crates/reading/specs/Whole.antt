-- How a float becomes a whole number (document 01, "Readings"; document 02, No. 2). Definitions only.
-- A float is `nan`, `inf s`, or `fin s m e`: m · 2^e, where 2^e is the fraction up e / down e, negative where s is true.
use Rattle.std.specs.Prelude.{ℕ, ◌*◌, Bool, true, false, nat_lt, Float}
use Rattle.std.specs.Float.{nan, inf, fin}
use Rattle.std.specs.Float.Ieee.{up, down}
use Rattle.arith.specs.Units.{micro}
use Rattle.arith.specs.Rounding.{nearest_quotient}
use Rattle.reading.specs.declared.Quantity.{Quantity}

-- "Readings": S is 1,000,000 for coordinates, which are below 1.
abbrev pub coordinate : Quantity
coordinate = record { scale = micro; bound = 1 }

-- "Readings": S is 100,000 for tristimulus values, which are below 4096.
abbrev pub tristimulus : Quantity
tristimulus = record { scale = 100000; bound = 4096 }

-- Refusal 3 is given for a finite float of which this fails. It goes by the exact value: with a minus sign −1/2 < x·S, so that x is above
-- −1/2 of its unit 1/S, as minus zero is (document 02, No. 2); without one x < bound.
unfoldable pub in_range : Quantity → Float → Bool
in_range q nan = false
in_range q (inf s) = false
in_range q (fin true m e) = nat_lt (2 * (m * up e * q.scale)) (down e)
in_range q (fin false m e) = nat_lt (m * up e) (q.bound * down e)

-- "Readings": floor(x·S + 1/2) of the exact value, for an x in its range; one below zero counts as 0 (document 02, No. 2).
unfoldable pub to_whole : Quantity → Float → ℕ
to_whole q nan = 0
to_whole q (inf s) = 0
to_whole q (fin true m e) = 0
to_whole q (fin false m e) = nearest_quotient (m * up e * q.scale) (down e)
