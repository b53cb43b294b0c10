-- What a salvage promises, and when each answer is given (document 02, No. 9): the statements.
use Rattle.std.specs.Prelude.{◌≡◌, true, false, List, ℕ, ◌/◌, ◌≤◌, ◌<◌, length, get_or, Result, Ok, Err}
use Rattle.refusal.specs.declared.Refusal.{Refusal}
use Rattle.refusal.specs.declared.Refusal.TheVariants.{BadEdges, TooManyRecords, NoRoom, BadRecordLength}
use Rattle.classes.specs.Edges.{edges_valid}
use Rattle.records.specs.Fields.{duv_width, record_length_of}
use Rattle.records.specs.Files.{most_written, trailer_length, file_length, whole_records, zero_record}
use Rattle.records.specs.Columns.{over}
use Rattle.records.specs.Conditions.{Known}
use Rattle.records.specs.RoundTrips.{SameList}
use Rattle.records.specs.declared.fields.Record.{Record}
use Rattle.salvage.specs.Salvaging.{answer_to, kept_in, dropped_in, left_over, counts, salvage_outcome, file_into, dropped_into}
use Rattle.salvage.specs.declared.Salvaged.{Salvaged}

-- the search accepts the record's u and v, and field by field the record has the answer at its own step count
pub record Match (es : List ℕ) (r : Record) : Type 0 where
  pub accepted : (answer_to es r).refusal ≡ 0
  pub place : (answer_to es r).place ≡ r.place
  pub low : (answer_to es r).low ≡ r.low
  pub high : (answer_to es r).high ≡ r.high
  pub duv : (answer_to es r).duv ≡ r.duv
  pub steps : (answer_to es r).steps ≡ r.steps
  pub class : (answer_to es r).class ≡ r.class

-- every record of the list matches
abbrev pub AllMatch : List ℕ → List Record → Type 0
AllMatch es rs = (i : ℕ) → i < length rs → Match es (get_or rs i zero_record)

-- record n of the bytes is whole, and does not match
pub record Unmatched (es : List ℕ) (long : ℕ) (l : List ℕ) (n : ℕ) : Type 0 where
  pub whole : n < length l / long
  pub fails : Match es (get_or (whole_records long l) n zero_record) → ⊥

-- the file that is written is read to the records that are kept
abbrev pub KeptBack : Result Salvaged Refusal → (es : List ℕ) (long : ℕ) → List ℕ → Type 0
KeptBack (Err r) es long l = Unit
KeptBack (Ok s) es long l = SameList duv_width (kept_in es long l)

-- neither 1 nor 14 is given
pub record Taken (es : List ℕ) (long : ℕ) : Type 0 where
  pub edges : edges_valid es ≡ true
  pub known : Known long

-- nor is 11
pub record Few (es : List ℕ) (long : ℕ) (l : List ℕ) : Type 0 where
  pub taken : Taken es long
  pub few : length (kept_in es long l) ≤ most_written

-- each answer is given exactly in its case
pub data Rule (es : List ℕ) (long : ℕ) (l : List ℕ) (file_room list_room : ℕ) : Result Salvaged Refusal → Type 0 where
  bad_edges : edges_valid es ≡ false → Rule es long l file_room list_room (Err BadEdges)
  bad_length : edges_valid es ≡ true → (Known long → ⊥) → Rule es long l file_room list_room (Err BadRecordLength)
  too_many : Taken es long → most_written < length (kept_in es long l) → Rule es long l file_room list_room (Err TooManyRecords)
  short_file : Few es long l → file_room < file_length duv_width (length (kept_in es long l)) → Rule es long l file_room list_room (Err NoRoom)
  short_list : Few es long l → file_length duv_width (length (kept_in es long l)) ≤ file_room → list_room < length (dropped_in es long l) → Rule es long l file_room list_room (Err NoRoom)
  salvaged : Few es long l → file_length duv_width (length (kept_in es long l)) ≤ file_room → length (dropped_in es long l) ≤ list_room →
      Rule es long l file_room list_room (Ok (counts (length (kept_in es long l)) (length (dropped_in es long l)) (left_over long l)))

-- a file of k records is salvaged again, over a target that held old and a list that held numbers: all its records are kept, its trailer is
-- left over, and the same file is written
pub record Again (es file : List ℕ) (k : ℕ) (old numbers : List ℕ) : Type 0 where
  pub outcome : salvage_outcome es (record_length_of duv_width) file (length old) (length numbers) ≡ Ok (counts k 0 trailer_length)
  pub target : file_into (Ok (counts k 0 trailer_length)) es (record_length_of duv_width) file old ≡ over file old
  pub list : dropped_into (Ok (counts k 0 trailer_length)) es (record_length_of duv_width) file numbers ≡ numbers
