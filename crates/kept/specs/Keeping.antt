-- The record that is kept of a reading and its answer (document 02, No. 4 and No. 8). Definitions only.
use Rattle.std.specs.Prelude.{Bool, ◌&&◌, cond, ℕ, leb, eqb, Option, Some, None}
use Rattle.records.specs.declared.fields.Record.{Record}
use Rattle.cct.specs.declared.Answer.{Answer}

-- u, v and the answer, number for number
abbrev pub record_of : ℕ → ℕ → Answer → Record
record_of u v a =
    record { u = u; v = v; place = a.place; low = a.low; high = a.high; duv = a.duv; steps = a.steps; class = a.class }

-- the places are at most 65,535; Duv, steps and class have as many bytes in an answer as in a record
unfoldable pub fits_record : Answer → Bool
fits_record a = leb a.place 65535 && leb a.low 65535 && leb a.high 65535

-- what is kept: the record, or nothing of an answer that is refused or has too large a place
unfoldable pub keep : ℕ → ℕ → Answer → Option Record
keep u v a = cond (eqb a.refusal 0 && fits_record a) (Some (record_of u v a)) None
