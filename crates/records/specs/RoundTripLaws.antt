-- A list comes back from the file that is written of it, and a file from the list that is read from it: the proofs.
use Rattle.std.specs.Prelude.{◌≡◌, refl, List, [], ◌∷◌, ℕ, zero, suc, ◌+◌, ◌-◌, ◌*◌, ◌≤◌, ◌<◌, ℤ, pos, negsuc, length, take, drop, get_or, Result, Ok}
use Rattle.std.proofs.Common.{sym, ap, subst, ◌∙◌, append-nil, arith, length-append, length-drop, take-append-drop, take_all, take_at, drop_at, le-ltb}
use Rattle.refusal.specs.declared.Refusal.{Refusal}
use Rattle.records.specs.Bytes.{pack, unpack}
use Rattle.records.specs.BytesLaws.{Fit, none, next, Bytes, Holds, bytes_drop, unpack_pack, pack_unpack}
use Rattle.records.specs.Fields.{duv_width, earlier_duv_width, record_length_of, duv_width_of}
use Rattle.records.specs.FieldsLaws.{Narrow, front_narrow}
use Rattle.records.specs.Files.{most_records, most_written, most_read, trailer_widths, trailer_length, trailer_bytes, records_bytes, file_of, file_length, records_in, whole_records, zero_record, record_at, trailer_numbers, record_length_in, duv_width_in, count_in, back_in, sized_form, form, form_of, form_records, records_of}
use Rattle.records.specs.FilesLaws.{AllNarrow, empty, first, length_file, length_records_in, records_back, bytes_back}
use Rattle.records.specs.Columns.{Columns, size_of, rows, list_of, over, filled, first_rows}
use Rattle.records.specs.ColumnsLaws.{length_list, filled_level, level_size, filled_rows, first_size, first_list}
use Rattle.records.specs.Transfer.{write_outcome, read_outcome}
use Rattle.records.specs.Conditions.{Known, of_18, of_20, Readable}
use Rattle.records.specs.RefusalLaws.{known_width, most_read_lem, readable_form, clear_write, write_done, clear_read, read_done}
use Rattle.records.specs.WholeLaws.{record_at_whole, whole_count}
use Rattle.records.specs.RoundTrips.{SameList, ReadsBack, FileOfRecords, ColumnsBack, FileAgain, Rewritten}
use Rattle.records.specs.declared.fields.Record.{Record}
use Rattle.records.specs.declared.files.Form.{Form}

-- the trailer's numbers of the file of a list, which are no wider than their bytes
trailer_numbers_lem : (d : ℕ) (rs : List Record) → record_length_of d < 65536 → length rs < 65536 → record_length_of d * length rs < 4294967296 → trailer_numbers (file_of d rs) ≡ record_length_of d ∷ length rs ∷ record_length_of d * length rs ∷ []
unfolding file_of trailer_bytes
trailer_numbers_lem d rs w n b =
    let t = trailer_bytes d (length rs) in
    let fit : Fit trailer_widths (record_length_of d ∷ length rs ∷ record_length_of d * length rs ∷ []) = next w (next n (next b none)) in
    let at : length (records_bytes d rs) ≡ length (file_of d rs) - trailer_length = omega (arith, length-append (records_bytes d rs) t) in
    ap (unpack trailer_widths) (drop_at (records_bytes d rs) t (length (file_of d rs) - trailer_length) at ∙ sym (append-nil t)) ∙ unpack_pack [] fit

-- the numbers of the trailer of a file that can be read are no wider than their bytes
trailer_fits : (long n : ℕ) → Known long → n ≤ most_records long → (long < 65536) × (n < 65536) × (long * n < 4294967296)
trailer_fits long n (of_18 e) h = let m = most_read_lem long in rw e (omega arith, omega arith, omega arith)
trailer_fits long n (of_20 e) h = let m = most_read_lem long in rw e (omega arith, omega arith, omega arith)

-- the file of a list can be read
pub file_readable : (d : ℕ) (rs : List Record) → Known (record_length_of d) → length rs ≤ most_records (record_length_of d) →
    Readable (file_of d rs) × (record_length_in (file_of d rs) ≡ record_length_of d) × (count_in (file_of d rs) ≡ length rs)
file_readable d rs w h =
    let l = file_of d rs in
    let fit = trailer_fits (record_length_of d) (length rs) w h in
    let e = trailer_numbers_lem d rs fit.0 fit.1 fit.2 in
    let long = ap (λ (t : List ℕ). get_or t 0 0) e in
    let count = ap (λ (t : List ℕ). get_or t 1 0) e in
    let back = ap (λ (t : List ℕ). get_or t 2 0) e in
    let size = length_file d rs in
    let distance : back_in l ≡ record_length_in l * count_in l = back ∙ (λ i. sym long i * sym count i) in (
      record {
        trailed = record { room = omega (arith, size); length_of_record = subst Known (sym long) w };
        agrees = record { back = distance; exact = omega (arith, back, size) };
        few = subst (λ (n : ℕ). n ≤ most_records (record_length_in l)) (sym count) (subst (λ (m : ℕ). length rs ≤ most_records m) (sym long) h);
      },
      long,
      count,
    )

-- the records of a file, by its form
pub form_records_lem : (l : List ℕ) (long n : ℕ) → form_of l ≡ Ok (form long n) → records_of l ≡ records_in (duv_width_of long) n l
unfolding records_of
form_records_lem l long n e = ap (λ (f : Result Form Refusal). form_records f l) e

pub readable_records : (l : List ℕ) → Readable l → records_of l ≡ records_in (duv_width_in l) (count_in l) l
readable_records l k = form_records_lem l (record_length_in l) (count_in l) (readable_form l k)

pub length_records : (l : List ℕ) → Readable l → length (records_of l) ≡ count_in l
length_records l k = ap length (readable_records l k) ∙ length_records_in (duv_width_in l) (count_in l) l

-- a list comes back from its file, whichever of the two record lengths it has
pub read_written : (d : ℕ) (rs : List Record) → Known (record_length_of (suc d)) → AllNarrow (suc d) rs → length rs ≤ most_records (record_length_of (suc d)) → SameList (suc d) rs
unfolding file_of
read_written d rs w ns h =
    let l = file_of (suc d) rs in
    let k = file_readable (suc d) rs w h in
    let form : form_of l ≡ Ok (form (record_length_of (suc d)) (length rs)) = readable_form l k.0 ∙ (λ i. Ok (form (k.1 i) (k.2 i))) in
    let width : duv_width_of (record_length_of (suc d)) ≡ suc d = omega arith in
    record {
      form = form;
      records =
          form_records_lem l (record_length_of (suc d)) (length rs) form ∙ ap (λ (w : ℕ). records_in w (length rs) l) width
          ∙ records_back d rs (trailer_bytes (suc d) (length rs)) ns;
    }

-- where the trailer tells 18 bytes, the form goes by 18 bytes a record and 3,600 records, and the records have Duv in 2 bytes, as in No. 4
pub earlier_form : (l : List ℕ) → trailer_length ≤ length l → record_length_in l ≡ 18 → form_of l ≡ sized_form 18 (count_in l) (back_in l) (length l)
unfolding form_of
earlier_form l h e = rw (le-ltb (length l) trailer_length h, e) refl

pub earlier_records : (l : List ℕ) (n : ℕ) → form_of l ≡ Ok (form 18 n) → records_of l ≡ records_in 2 n l
earlier_records l n e = form_records_lem l 18 n e

-- so a file that was written when Duv had 2 bytes is read to the list that it was written of
pub earlier_read : (rs : List Record) → AllNarrow earlier_duv_width rs → length rs ≤ most_read → SameList earlier_duv_width rs
earlier_read rs ns h = read_written 1 rs (of_18 refl) ns h

-- a file that can be read is that of its records, Duv having as many bytes as in the file
pub written_read : (l : List ℕ) → Bytes l → Readable l → file_of (duv_width_in l) (records_of l) ≡ l
unfolding file_of trailer_bytes
written_read l b k =
    let d = duv_width_in l in
    let n = count_in l in
    let at = length l - trailer_length in
    let long : record_length_in l ≡ record_length_of d = sym (known_width (record_length_in l) k.trailed.length_of_record) in
    let back : back_in l ≡ record_length_of d * n = k.agrees.back ∙ ap (λ (m : ℕ). m * n) long in
    let end : length l ≡ file_length d n = omega (arith, k.agrees.exact, back) in
    let begins : at ≡ record_length_of d * n = omega (arith, end) in
    let numbers : trailer_numbers l ≡ record_length_of d ∷ n ∷ record_length_of d * n ∷ [] = λ i. long i ∷ n ∷ back i ∷ [] in
    let rest : length (drop at l) ≡ trailer_length = omega (arith, length-drop at l, end) in
    let trailer : pack trailer_widths (record_length_of d ∷ n ∷ record_length_of d * n ∷ []) ≡ drop (record_length_of d * n) l
    = ap (pack trailer_widths) (sym numbers) ∙ pack_unpack trailer_widths (drop at l) (omega arith) (bytes_drop at l b)
    ∙ take_all trailer_length (drop at l) (omega arith) ∙ ap (λ (m : ℕ). drop m l) begins in
    rw (readable_records l k, bytes_back d n l (omega (arith, end)) b, length_records_in d n l, trailer) (take-append-drop (record_length_of d * n) l)

-- so one of records of 20 bytes is written again byte for byte
pub byte_for_byte : (l : List ℕ) → record_length_in l ≡ record_length_of duv_width → file_of (duv_width_in l) (records_of l) ≡ l → file_of duv_width (records_of l) ≡ l
byte_for_byte l e same = ap (λ (n : ℕ). file_of (duv_width_of n) (records_of l)) (sym e) ∙ same

-- its records are those that are whole in its bytes
readable_whole : (l : List ℕ) → Readable l → records_of l ≡ whole_records (record_length_in l) l
readable_whole l k =
    readable_records l k
    ∙ ap (λ (n : ℕ). records_in (duv_width_in l) n l) (sym (whole_count (record_length_in l) (count_in l) (length l) k.trailed.length_of_record (k.agrees.exact ∙ ap (λ (m : ℕ). m + trailer_length) k.agrees.back)))

-- so record i of its bytes is element i of its list, and beyond the list there are zeros
pub readable_record : (l : List ℕ) (i : ℕ) → Readable l → record_at (record_length_in l) l i ≡ get_or (records_of l) i zero_record
readable_record l i k =
    record_at_whole (record_length_in l) l i k.trailed.length_of_record ∙ ap (λ (rs : List Record). get_or rs i zero_record) (sym (readable_whole l k))

narrow_in : (d n : ℕ) (l : List ℕ) → Bytes l → AllNarrow (suc d) (records_in (suc d) n l)
unfolding records_in
narrow_in d zero l b = empty
narrow_in d (suc n) l b = first (front_narrow d l b) (narrow_in d n (drop (record_length_of (suc d)) l) (bytes_drop (record_length_of (suc d)) l b))

wider : (z : ℤ) → Holds earlier_duv_width z → Holds duv_width z
wider (pos n) h = omega arith
wider (negsuc n) h = omega arith

wider_record : (r : Record) → Narrow earlier_duv_width r → Narrow duv_width r
wider_record r n =
    record { u = n.u; v = n.v; place = n.place; low = n.low; high = n.high; duv = wider r.duv n.duv; steps = n.steps; class = n.class }

pub all_wider : (rs : List Record) → AllNarrow earlier_duv_width rs → AllNarrow duv_width rs
all_wider [] empty = empty
all_wider (r ∷ rs) (first n ns) = first (wider_record r n) (all_wider rs ns)

-- records of a length that is read are no wider than the fields of those that are written
pub known_narrow : (long n : ℕ) (l : List ℕ) → Known long → Bytes l → AllNarrow duv_width (records_in (duv_width_of long) n l)
known_narrow long n l (of_18 e) b = rw e (all_wider (records_in earlier_duv_width n l) (narrow_in 1 n l b))
known_narrow long n l (of_20 e) b = rw e (narrow_in 3 n l b)

-- and so are those of a file
pub read_narrow : (l : List ℕ) → Bytes l → Readable l → AllNarrow duv_width (records_of l)
read_narrow l b k = rw (readable_records l k) (known_narrow (record_length_in l) (count_in l) l k.trailed.length_of_record b)

-- records read into columns that have room are the list in their first rows
first_filled : (rs : List Record) (d : Columns) (n : ℕ) → length rs ≡ n → n ≤ size_of d → (n ≤ size_of (filled rs d)) × (list_of (first_rows n (filled rs d)) ≡ rs)
first_filled rs d n e h =
    let same = level_size (filled rs d) d (filled_level rs d (omega arith)) in
    let room : n ≤ size_of (filled rs d) = omega (arith, same) in
    (room, first_list n (filled rs d) room ∙ ap (rows (filled rs d)) (sym e) ∙ filled_rows rs d)

-- a list that is written from columns comes back in others; the hypothesis is what the writer promises
pub columns_back : (c d : Columns) (old : List ℕ) (k : ℕ) → ReadsBack (Ok k) (list_of c) → write_outcome (size_of c) (length old) ≡ Ok k → size_of c ≤ size_of d → ColumnsBack c d old k
columns_back c d old k back e room =
    let rs = list_of c in
    let n = size_of c in
    let file = file_of duv_width rs in
    let long = length_list c in
    let done = write_done n (length old) k e in
    let few : length rs ≤ most_written = omega (arith, long, done.0) in
    let end : length file ≡ k = omega (arith, length_file duv_width rs, long, done.2) in
    let front : take k (over file old) ≡ file = take_at file (drop (length file) old) k end in
    let sound = file_readable duv_width rs (of_20 refl) few in
    let count : count_in file ≡ n = sound.2 ∙ long in
    record {
      outcome = ap (λ (l : List ℕ). read_outcome l (size_of d)) front ∙ clear_read file (size_of d) sound.0 (omega (arith, count)) ∙ ap (λ (z : ℕ). Ok z) count;
      list =
          ap (λ (l : List ℕ). list_of (first_rows n (filled (records_of l) d))) front
          ∙ ap (λ (z : List Record). list_of (first_rows n (filled z d))) back.records ∙ (first_filled rs d n long room).1;
    }

-- records that are read, and are not too many, come back from the file that is written of them
pub read_again : (l : List ℕ) → Bytes l → Readable l → count_in l ≤ most_written → SameList duv_width (records_of l)
read_again l b k few = read_written 3 (records_of l) (of_20 refl) (read_narrow l b k) (omega (arith, length_records l k))

-- a file of either record length is written from the columns that it is read into as the file of its records
pub rewritten : (l : List ℕ) (d : Columns) (n : ℕ) (old : List ℕ) → read_outcome l (size_of d) ≡ Ok n → n ≤ most_written → file_length duv_width n ≤ length old → Rewritten l d n old
rewritten l d n old e few room =
    let done = read_done l (size_of d) n e in
    let rs = records_of l in
    let first = first_filled rs d n (length_records l done.0 ∙ done.1) done.2 in
    record {
      size = first_size n (filled rs d) first.0;
      outcome = clear_write n (length old) few room;
      target = ap (λ (z : List Record). over (file_of duv_width z) old) first.1;
    }

-- one of records of 20 bytes is written again as it was; the hypothesis on its bytes is what the reader promises
pub file_again : (l : List ℕ) (d : Columns) (n : ℕ) (old : List ℕ) → FileOfRecords (Ok n) l → read_outcome l (size_of d) ≡ Ok n → record_length_in l ≡ record_length_of duv_width → length l ≤ length old → FileAgain l d n old
file_again l d n old same e w room =
    let done = read_done l (size_of d) n e in
    let sound = done.0 in
    let back : back_in l ≡ record_length_of duv_width * n = sound.agrees.back ∙ (λ i. w i * done.1 i) in
    let end : file_length duv_width n ≡ length l = omega (arith, sound.agrees.exact, back) in
    let few : n ≤ most_written = subst (λ (m : ℕ). m ≤ most_written) done.1 (subst (λ (m : ℕ). count_in l ≤ most_records m) w sound.few) in
    let t = rewritten l d n old e few (omega (arith, end)) in
    record { size = t.size; outcome = t.outcome ∙ ap (λ (z : ℕ). Ok z) end; target = t.target ∙ ap (λ (z : List ℕ). over z old) (byte_for_byte l w same) }
