-- What the functions on files answer, as plain numbers for C. Definitions only.
use Rattle.std.specs.Prelude.{ℕ, Option, Some, None, Result, Ok, Err}
use Rattle.refusal.specs.Number.{number_of}
use Rattle.refusal.specs.declared.Refusal.{Refusal}
use Rattle.records.specs.Files.{zero_record}
use Rattle.records.specs.declared.fields.Record.{Record}
use Rattle.records.specs.declared.files.Form.{Form}
use Rattle.cct_c.specs.declared.files.Done.{Done}
use Rattle.cct_c.specs.declared.files.KeptRecord.{KeptRecord}

-- a count, or the refusal's number and a count of 0
abbrev pub done : ℕ → Done
done n = record { count = n; refusal = 0 }

abbrev pub refused : Refusal → Done
refused r = record { count = 0; refusal = number_of r }

abbrev pub plain_outcome : Result ℕ Refusal → Done
plain_outcome (Err r) = refused r
plain_outcome (Ok n) = done n

abbrev pub plain_form : Result Form Refusal → Done
plain_form (Err r) = refused r
plain_form (Ok form) = done form.count

-- the record with a 1, or zeros
abbrev pub plain_kept : Option Record → KeptRecord
plain_kept (Some r) = record { fields = r; kept = 1 }
plain_kept None = record { fields = zero_record; kept = 0 }
