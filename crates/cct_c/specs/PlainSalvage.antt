-- What a salvage answers, as plain numbers for C. Definitions only.
use Rattle.std.specs.Prelude.{Result, Ok, Err}
use Rattle.refusal.specs.Number.{number_of}
use Rattle.refusal.specs.declared.Refusal.{Refusal}
use Rattle.salvage.specs.declared.Salvaged.{Salvaged}
use Rattle.cct_c.specs.declared.salvaging.PlainSalvaged.{PlainSalvaged}

-- the counts, or the refusal's number and zeros
abbrev pub plain_salvaged : Result Salvaged Refusal → PlainSalvaged
plain_salvaged (Err r) = record { kept = 0; dropped = 0; leftover = 0; refusal = number_of r }
plain_salvaged (Ok s) = record { kept = s.kept; dropped = s.dropped; leftover = s.leftover; refusal = 0 }
