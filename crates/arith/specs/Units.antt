-- The unit in which the software counts u, v and Duv (document 01, "Readings").
use Rattle.std.specs.Prelude.{ℕ}

-- document 01's "micro" is 0.000001: so many make 1
abbrev pub micro : ℕ
micro = 1000000
