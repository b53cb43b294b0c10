-- Which records of a file without a trailer are kept, and what a salvage answers and writes (document 02, No. 9). Definitions only.
use Rattle.std.specs.Prelude.{Bool, ◌&&◌, cond, List, ℕ, ◌%◌, leb, eqb, length, Result, Ok, Err}
use Rattle.arith.specs.Same.{same}
use Rattle.refusal.specs.declared.Refusal.{Refusal}
use Rattle.refusal.specs.declared.Refusal.TheVariants.{BadEdges, TooManyRecords, NoRoom, BadRecordLength}
use Rattle.reading.specs.Convert.{convert_micro}
use Rattle.classes.specs.Edges.{edges_valid}
use Rattle.cct.specs.Answers.{answer}
use Rattle.cct.specs.declared.Answer.{Answer}
use Rattle.records.specs.Fields.{duv_width}
use Rattle.records.specs.Files.{known_length, most_written, file_of, file_length, whole_records}
use Rattle.records.specs.Columns.{over}
use Rattle.records.specs.declared.fields.Record.{Record}
use Rattle.salvage.specs.Passing.{passing, failing}
use Rattle.salvage.specs.declared.Salvaged.{Salvaged}

-- an answer is accepted, and the record's fields are its fields
unfoldable pub has_fields : Record → Answer → Bool
has_fields r a =
    eqb a.refusal 0 && eqb a.place r.place && eqb a.low r.low && eqb a.high r.high
    && same a.duv r.duv && eqb a.steps r.steps && eqb a.class r.class

-- the answer of the search to the record's u and v, at its own step count
abbrev pub answer_to : List ℕ → Record → Answer
answer_to es r = answer es (convert_micro r.u r.v) r.steps

-- the record matches: that answer is accepted, and the record has its fields
unfoldable pub matches : List ℕ → Record → Bool
matches es r = has_fields r (answer_to es r)

-- of a list, the records that match, in order, and the numbers of the others, the first record being number 0
unfoldable pub kept_of : List ℕ → List Record → List Record
kept_of es rs = passing (matches es) rs

unfoldable pub dropped_of : List ℕ → List Record → List ℕ
dropped_of es rs = failing (matches es) 0 rs

-- the records that are kept of those that are whole in the bytes
abbrev pub kept_in : (es : List ℕ) (long : ℕ) → List ℕ → List Record
kept_in es long l = kept_of es (whole_records long l)

-- the numbers of those that are dropped
abbrev pub dropped_in : (es : List ℕ) (long : ℕ) → List ℕ → List ℕ
dropped_in es long l = dropped_of es (whole_records long l)

-- how many bytes come after the last whole record
abbrev pub left_over : (long : ℕ) → List ℕ → ℕ
left_over long l = length l % long

-- the targets have room for the file of k records and for a list of d numbers
abbrev pub has_room : (k d file_room list_room : ℕ) → Bool
has_room k d file_room list_room = leb (file_length duv_width k) file_room && leb d list_room

-- so many records kept and dropped, and so many bytes left over
abbrev pub counts : (kept dropped leftover : ℕ) → Salvaged
counts k d m = record { kept = k; dropped = d; leftover = m }

-- the answer for edges, a record length, the bytes, and targets with so much room: refusals 1, 14, 11 and 12, in this order, or the counts
unfoldable pub salvage_outcome : (es : List ℕ) (long : ℕ) → List ℕ → (file_room list_room : ℕ) → Result Salvaged Refusal
salvage_outcome es long l file_room list_room =
    let k : ℕ = length (kept_in es long l) in
    let d : ℕ = length (dropped_in es long l) in
    cond (edges_valid es)
    (cond (known_length long)
    (cond (leb k most_written)
    (cond (has_room k d file_room list_room) (Ok (counts k d (left_over long l))) (Err NoRoom))
    (Err TooManyRecords))
    (Err BadRecordLength))
    (Err BadEdges)

-- the targets: the file of the kept records, the numbers of the dropped ones, and beyond them what each held; a refusal leaves both
abbrev pub file_into : Result Salvaged Refusal → (es : List ℕ) (long : ℕ) → (bytes old : List ℕ) → List ℕ
file_into (Err r) es long l old = old
file_into (Ok s) es long l old = over (file_of duv_width (kept_in es long l)) old

abbrev pub dropped_into : Result Salvaged Refusal → (es : List ℕ) (long : ℕ) → (bytes old : List ℕ) → List ℕ
dropped_into (Err r) es long l old = old
dropped_into (Ok s) es long l old = over (dropped_in es long l) old
