-- The file of a list of records, the form of a file, and the records in it (document 02, No. 4 and No. 8). d is the width of Duv. Definitions only.
use Rattle.std.specs.Prelude.{ℕ, zero, suc, ◌+◌, ◌-◌, ◌*◌, ◌/◌, Bool, ◌&&◌, ◌||◌, cond, List, [], ◌∷◌, ◌++◌, leb, ltb, eqb, pos, length, drop, get_or, Result, Ok, Err}
use Rattle.refusal.specs.declared.Refusal.{Refusal}
use Rattle.refusal.specs.declared.Refusal.TheVariants.{TooManyRecords, NoTrailer, BadRecordLength, BadTrailer}
use Rattle.records.specs.Bytes.{pack, unpack}
use Rattle.records.specs.Fields.{duv_width, earlier_duv_width, record_length_of, duv_width_of, record_bytes, front_record}
use Rattle.records.specs.declared.fields.Record.{Record}
use Rattle.records.specs.declared.files.Form.{Form}

-- the lengths of records that are read: 18 bytes, of earlier files, and 20, which are written
abbrev pub known_length : ℕ → Bool
known_length long = eqb long (record_length_of earlier_duv_width) || eqb long (record_length_of duv_width)

-- the most records of a file, by their length: 3,600 of 18 bytes, and 3,200 of 20
abbrev pub most_records : ℕ → ℕ
most_records long = cond (eqb long (record_length_of earlier_duv_width)) 3600 3200

-- the most records that are written, and the most that are read
abbrev pub most_written : ℕ
most_written = most_records (record_length_of duv_width)

abbrev pub most_read : ℕ
most_read = most_records (record_length_of earlier_duv_width)

-- the trailer has three numbers: the record length, the count, and how far back from the trailer the first record begins
abbrev pub trailer_widths : List ℕ
trailer_widths = 2 ∷ 2 ∷ 4 ∷ []

abbrev pub trailer_length : ℕ
trailer_length = 8

-- the trailer of n records
unfoldable pub trailer_bytes : ℕ → ℕ → List ℕ
trailer_bytes d n = pack trailer_widths (record_length_of d ∷ n ∷ record_length_of d * n ∷ [])

-- the bytes of the records, one after another
abbrev pub records_bytes : ℕ → List Record → List ℕ
records_bytes d [] = []
records_bytes d (r ∷ rs) = record_bytes d r ++ records_bytes d rs

-- the file of a list: the records come first, the trailer is at the end
unfoldable pub file_of : ℕ → List Record → List ℕ
file_of d rs = records_bytes d rs ++ trailer_bytes d (length rs)

-- how long the file of n records is
abbrev pub file_length : ℕ → ℕ → ℕ
file_length d n = record_length_of d * n + trailer_length

-- the first n records in the bytes
unfoldable pub records_in : ℕ → ℕ → List ℕ → List Record
records_in d zero l = []
records_in d (suc n) l = front_record d l ∷ records_in d n (drop (record_length_of d) l)

-- the records of this length that are whole in the bytes, from the first byte on, whatever follows them
abbrev pub whole_records : (long : ℕ) → List ℕ → List Record
whole_records long l = records_in (duv_width_of long) (length l / long) l

-- a record of zeros
abbrev pub zero_record : Record
zero_record = record { u = 0; v = 0; place = 0; low = 0; high = 0; duv = pos 0; steps = 0; class = 0 }

-- record i of the bytes, numbered from 0, for records of this length and whatever follows them; zeros for another length than is read,
-- and where the bytes end before record i is whole
unfoldable pub record_at : (long : ℕ) → List ℕ → ℕ → Record
record_at long l i =
    cond (known_length long && ltb i (length l / long)) (front_record (duv_width_of long) (drop (long * i) l)) zero_record

-- the numbers of a trailer at the end of the bytes: the record length, the count and the distance back
abbrev pub trailer_numbers : List ℕ → List ℕ
trailer_numbers l = unpack trailer_widths (drop (length l - trailer_length) l)

abbrev pub record_length_in : List ℕ → ℕ
record_length_in l = get_or (trailer_numbers l) 0 0

-- how many bytes Duv has in the file
abbrev pub duv_width_in : List ℕ → ℕ
duv_width_in l = duv_width_of (record_length_in l)

abbrev pub count_in : List ℕ → ℕ
count_in l = get_or (trailer_numbers l) 1 0

abbrev pub back_in : List ℕ → ℕ
back_in l = get_or (trailer_numbers l) 2 0

-- the form of a file whose records are so long and so many
abbrev pub form : (long count : ℕ) → Form
form long count = record { record_length = long; count = count }

-- refusals 15 and 11, in this order, of a file of n bytes with this record length, count and distance back; or the first two
abbrev pub sized_form : (long count back n : ℕ) → Result Form Refusal
sized_form long count back n =
    cond (eqb back (long * count) && eqb n (back + trailer_length))
    (cond (leb count (most_records long)) (Ok (form long count)) (Err TooManyRecords))
    (Err BadTrailer)

-- before them stands refusal 14, by the record length
abbrev pub trailer_form : (long count back n : ℕ) → Result Form Refusal
trailer_form long count back n = cond (known_length long) (sized_form long count back n) (Err BadRecordLength)

-- the form of a file: refusals 13, 14, 15 and 11, in this order, or how long its records are and how many it has
unfoldable pub form_of : List ℕ → Result Form Refusal
form_of l = cond (ltb (length l) trailer_length) (Err NoTrailer) (trailer_form (record_length_in l) (count_in l) (back_in l) (length l))

-- the records of a file of this form, none where it is refused
abbrev pub form_records : Result Form Refusal → List ℕ → List Record
form_records (Err r) l = []
form_records (Ok f) l = records_in (duv_width_of f.record_length) f.count l

-- the records of a file
unfoldable pub records_of : List ℕ → List Record
records_of l = form_records (form_of l) l
