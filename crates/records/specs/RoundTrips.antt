-- A list comes back from the file that is written of it, and a file from the list that is read from it (document 02, No. 4 and No. 8): the statements.
use Rattle.std.specs.Prelude.{◌≡◌, List, ℕ, length, take, Result, Ok, Err}
use Rattle.refusal.specs.declared.Refusal.{Refusal}
use Rattle.records.specs.Fields.{duv_width, record_length_of}
use Rattle.records.specs.Files.{file_of, file_length, duv_width_in, form, form_of, records_of}
use Rattle.records.specs.Columns.{Columns, size_of, list_of, over, first_rows}
use Rattle.records.specs.Transfer.{write_outcome, written, read_outcome, read_into}
use Rattle.records.specs.declared.fields.Record.{Record}

-- the file of a list, in which Duv has d bytes, is read to the same list
pub record SameList (d : ℕ) (rs : List Record) : Type 0 where
  pub form : form_of (file_of d rs) ≡ Ok (form (record_length_of d) (length rs))
  pub records : records_of (file_of d rs) ≡ rs

-- so it is where the writer has written it
abbrev pub ReadsBack : Result ℕ Refusal → List Record → Type 0
ReadsBack (Err r) rs = Unit
ReadsBack (Ok n) rs = SameList duv_width rs

-- a file that the reader takes is that of the records read, in which Duv has as many bytes as in the file
abbrev pub FileOfRecords : Result ℕ Refusal → List ℕ → Type 0
FileOfRecords (Err r) l = Unit
FileOfRecords (Ok n) l = file_of (duv_width_in l) (records_of l) ≡ l

-- the same through the columns: the list in c is written over a target that held old; the k bytes written are read into d, which has room
pub record ColumnsBack (c d : Columns) (old : List ℕ) (k : ℕ) : Type 0 where
  pub outcome : read_outcome (take k (written (Ok k) (list_of c) old)) (size_of d) ≡ Ok (size_of c)
  pub list : list_of (first_rows (size_of c) (read_into (Ok (size_of c)) (take k (written (Ok k) (list_of c) old)) d)) ≡ list_of c

-- and the file l is read into d as n records, which are not too many to be written; the rows of these are written over a target that held old and has room
pub record Rewritten (l : List ℕ) (d : Columns) (n : ℕ) (old : List ℕ) : Type 0 where
  pub size : size_of (first_rows n (read_into (Ok n) l d)) ≡ n
  pub outcome : write_outcome n (length old) ≡ Ok (file_length duv_width n)
  pub target : written (Ok (file_length duv_width n)) (list_of (first_rows n (read_into (Ok n) l d))) old ≡ over (file_of duv_width (records_of l)) old

-- where the records of l have 20 bytes, what is written is l
pub record FileAgain (l : List ℕ) (d : Columns) (n : ℕ) (old : List ℕ) : Type 0 where
  pub size : size_of (first_rows n (read_into (Ok n) l d)) ≡ n
  pub outcome : write_outcome n (length old) ≡ Ok (length l)
  pub target : written (Ok (length l)) (list_of (first_rows n (read_into (Ok n) l d))) old ≡ over l old
