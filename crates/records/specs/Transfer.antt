-- What the writer and the reader answer, and what their targets hold afterwards (document 02, No. 4 and No. 8). Definitions only.
use Rattle.std.specs.Prelude.{ℕ, ◌*◌, ◌/◌, Bool, cond, List, leb, ltb, length, Result, Ok, Err}
use Rattle.std.proofs.lemmas.List.Edits.{sets}
use Rattle.refusal.specs.declared.Refusal.{Refusal}
use Rattle.refusal.specs.declared.Refusal.TheVariants.{TooManyRecords, NoRoom}
use Rattle.records.specs.Fields.{duv_width, record_length_of, record_bytes}
use Rattle.records.specs.Files.{most_written, trailer_bytes, file_of, file_length, form_of, records_of}
use Rattle.records.specs.Columns.{Columns, over, filled}
use Rattle.records.specs.declared.fields.Record.{Record}
use Rattle.records.specs.declared.files.Form.{Form}

-- the writer, of n records into a target with this room: refusals 11 and 12, in this order, or how many bytes it writes
unfoldable pub write_outcome : (n room : ℕ) → Result ℕ Refusal
write_outcome n room =
    cond (leb n most_written)
    (cond (leb (file_length duv_width n) room) (Ok (file_length duv_width n)) (Err NoRoom))
    (Err TooManyRecords)

-- the writer's target: the file, and beyond it what the target held; a refusal leaves it as it was
abbrev pub written : Result ℕ Refusal → List Record → List ℕ → List ℕ
written (Err r) rs old = old
written (Ok n) rs old = over (file_of duv_width rs) old

-- a target has room for record i of a file, and so for all before it
abbrev pub has_record_room : ℕ → List ℕ → Bool
has_record_room i old = ltb i (length old / record_length_of duv_width)

-- a target in which record i is written at its place; as it was where it has no room for it
abbrev pub stored_into : ℕ → Record → List ℕ → List ℕ
stored_into i r old = cond (has_record_room i old) (sets old (record_length_of duv_width * i) (record_bytes duv_width r)) old

-- a target in which the trailer is written after n records; a refusal leaves it as it was
abbrev pub closed_into : Result ℕ Refusal → ℕ → List ℕ → List ℕ
closed_into (Err r) n old = old
closed_into (Ok k) n old = sets old (record_length_of duv_width * n) (trailer_bytes duv_width n)

-- the reader, of a file of this form into columns with this room: what refuses the form, then refusal 12, or how many records it reads
abbrev pub read_form : Result Form Refusal → ℕ → Result ℕ Refusal
read_form (Err r) room = Err r
read_form (Ok form) room = cond (leb form.count room) (Ok form.count) (Err NoRoom)

unfoldable pub read_outcome : List ℕ → ℕ → Result ℕ Refusal
read_outcome l room = read_form (form_of l) room

-- the reader's columns: the records of the file, and beyond them what the columns held; a refusal leaves them as they were
abbrev pub read_into : Result ℕ Refusal → List ℕ → Columns → Columns
read_into (Err r) l c = c
read_into (Ok n) l c = filled (records_of l) c
