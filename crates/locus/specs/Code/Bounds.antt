-- How large the coordinates are that the code calculates with.
use Rattle.std.specs.Prelude.{ℕ}

-- a point with a coordinate over this is too far from every entry; sums and products of coordinates up to it fit 64 bits
abbrev pub far_out : ℕ
far_out = 4000000
