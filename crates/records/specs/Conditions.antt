-- When refusals 11 to 15 are given: the condition of each, with those before it not met (document 02, No. 4 and No. 8).
use Rattle.std.specs.Prelude.{◌≡◌, List, ℕ, ◌+◌, ◌*◌, ◌≤◌, ◌<◌, length}
use Rattle.refusal.specs.declared.Refusal.{Refusal}
use Rattle.refusal.specs.declared.Refusal.TheVariants.{TooManyRecords, NoRoom, NoTrailer, BadRecordLength, BadTrailer}
use Rattle.records.specs.Fields.{duv_width, earlier_duv_width, record_length_of}
use Rattle.records.specs.Files.{most_records, most_written, trailer_length, file_length, record_length_in, count_in, back_in}

-- files whose records have this length are read: 18 bytes or 20
pub data Known (long : ℕ) : Type 0 where
  of_18 : long ≡ record_length_of earlier_duv_width → Known long
  of_20 : long ≡ record_length_of duv_width → Known long

-- the file ends in a trailer with such a record length
pub record Trailed (l : List ℕ) : Type 0 where
  pub room : trailer_length ≤ length l
  pub length_of_record : Known (record_length_in l)

-- the distance back is that of the record length and the count, and the file is exactly the records and the trailer
pub record Agrees (l : List ℕ) : Type 0 where
  pub back : back_in l ≡ record_length_in l * count_in l
  pub exact : length l ≡ back_in l + trailer_length

-- no condition on the form is met: the file can be read
pub record Readable (l : List ℕ) : Type 0 where
  pub trailed : Trailed l
  pub agrees : Agrees l
  pub few : count_in l ≤ most_records (record_length_in l)

-- the form of a file is refused
pub data FormCondition (l : List ℕ) : Refusal → Type 0 where
  no_trailer : length l < trailer_length → FormCondition l NoTrailer
  bad_length : trailer_length ≤ length l → (Known (record_length_in l) → ⊥) → FormCondition l BadRecordLength
  bad_trailer : Trailed l → (Agrees l → ⊥) → FormCondition l BadTrailer
  too_many : Trailed l → Agrees l → most_records (record_length_in l) < count_in l → FormCondition l TooManyRecords

-- the writing of n records into a target with this room is refused
pub data WriteCondition (n room : ℕ) : Refusal → Type 0 where
  over_most : most_written < n → WriteCondition n room TooManyRecords
  short_target : n ≤ most_written → room < file_length duv_width n → WriteCondition n room NoRoom

-- the reading of a file into columns with this room is refused
pub data ReadCondition (l : List ℕ) (room : ℕ) : Refusal → Type 0 where
  bad_form : (r : Refusal) → FormCondition l r → ReadCondition l room r
  short_columns : Readable l → room < count_in l → ReadCondition l room NoRoom
