-- What a comparison of two files answers, as plain numbers for C. Definitions only.
use Rattle.std.specs.Prelude.{ℕ, Result, Ok, Err}
use Rattle.refusal.specs.Number.{number_of}
use Rattle.refusal.specs.declared.Refusal.{Refusal}
use Rattle.compare.specs.Comparison.{refusal_of}
use Rattle.compare.specs.declared.NotCompared.{NotCompared}
use Rattle.compare.specs.declared.NotCompared.TheVariants.{First, Second, NoRoom}
use Rattle.cct_c.specs.declared.comparison.PlainCompared.{PlainCompared}

-- the refusal's number, with the number of the file that it is of
abbrev pub refused_file : (file : ℕ) → Refusal → PlainCompared
refused_file k r = record { count = 0; refusal = number_of r; file = k }

-- the first file is 1 and the second 2; 0 is neither
abbrev pub file_of : NotCompared → ℕ
file_of (First r) = 1
file_of (Second r) = 2
file_of NoRoom = 0

abbrev pub plain_compared : Result ℕ NotCompared → PlainCompared
plain_compared (Err e) = refused_file (file_of e) (refusal_of e)
plain_compared (Ok n) = record { count = n; refusal = 0; file = 0 }
