-- Records that are whole in the bytes: which one is which, how many a file has of them, and which are left of a file that was cut.
use Rattle.std.specs.Prelude.{◌≡◌, Bool, true, false, ℕ, zero, suc, ◌+◌, ◌-◌, ◌*◌, ◌/◌, ◌≤◌, ◌<◌, min, ltb, length, take, drop, get_or}
use Rattle.std.proofs.Math.Path.{refl, ap}
use Rattle.std.proofs.Common.{sym, ◌∙◌, arith, add-one, length-take, take-append-drop}
use mathlib.Core.List.{List, [], ◌∷◌, ◌++◌, append_assoc}
use Rattle.std.proofs.Math.ListN.{get_or-eq_default}
use Rattle.std.proofs.Math.Seq.{take-length, take-append-add}
use borrow.Author.Tests.{ltb-true, ltb-false, lt-ltb, le-ltb}
use Rattle.records.specs.Fields.{record_length_of, duv_width_of, front_record}
use Rattle.records.specs.Files.{trailer_length, trailer_bytes, records_bytes, file_of, records_in, whole_records, zero_record, record_at}
use Rattle.records.specs.FilesLaws.{AllNarrow, empty, first, length_records_bytes, length_file, bytes_append, length_records_in, records_append, record_in, records_back}
use Rattle.records.specs.Conditions.{Known, of_18, of_20}
use Rattle.records.specs.RefusalLaws.{known_true, known_width}
use Rattle.records.specs.declared.fields.Record.{Record}

module _ (long : ℕ) (l : List ℕ) (i : ℕ) (k : Known long) where
  -- record i comes after the first i
  pub next_record : (r : Record) → r ≡ front_record (duv_width_of long) (drop (long * i) l) → records_in (duv_width_of long) (i + 1) l ≡ records_in (duv_width_of long) i l ++ (r ∷ [])
  next_record r e =
      let rs = records_in (duv_width_of long) i l in
      ap (λ (n : ℕ). records_in (duv_width_of long) n l) (add-one i) ∙ records_append (duv_width_of long) i l
      ∙ ap (λ (m : ℕ). rs ++ (front_record (duv_width_of long) (drop (m * i) l) ∷ [])) (known_width long k)
      ∙ ap (λ (z : Record). rs ++ (z ∷ [])) (sym e)

  at_within : i < length l / long → record_at long l i ≡ front_record (duv_width_of long) (drop (long * i) l)
  unfolding record_at
  at_within h = rw (known_true long k, lt-ltb i (length l / long) h) refl

  at_beyond : length l / long ≤ i → record_at long l i ≡ zero_record
  unfolding record_at
  at_beyond h = rw (known_true long k, le-ltb i (length l / long) h) refl

  -- so does the one that is found at i
  pub next_whole : (r : Record) → i < length l / long → r ≡ record_at long l i → records_in (duv_width_of long) (i + 1) l ≡ records_in (duv_width_of long) i l ++ (r ∷ [])
  next_whole r h e = next_record r (e ∙ at_within h)

  -- record i of the bytes is element i of the whole records, and beyond them there are zeros
  pub record_at_whole : record_at long l i ≡ get_or (whole_records long l) i zero_record
  record_at_whole = go (ltb i (length l / long)) refl
    where
      go : (b : Bool) → ltb i (length l / long) ≡ b → record_at long l i ≡ get_or (whole_records long l) i zero_record
      go true e =
          let h = ltb-true i (length l / long) e in
          at_within h ∙ ap (λ (m : ℕ). front_record (duv_width_of long) (drop (m * i) l)) (sym (known_width long k)) ∙ sym (record_in (duv_width_of long) (length l / long) i l h)
      go false e =
          let h = ltb-false i (length l / long) e in
          at_beyond h ∙ sym (get_or-eq_default (whole_records long l) zero_record (omega (arith, length_records_in (duv_width_of long) (length l / long) l)))

-- a trailer is too short to be taken for a record
pub whole_count : (long n size : ℕ) → Known long → size ≡ long * n + trailer_length → size / long ≡ n
whole_count long n size (of_18 e) h = let s : size ≡ 18 * n + trailer_length = h ∙ rw e refl in rw e (omega arith)
whole_count long n size (of_20 e) h = let s : size ≡ 20 * n + trailer_length = h ∙ rw e refl in rw e (omega arith)

cut_count : (long m n : ℕ) → Known long → (min m (long * n + trailer_length) / long ≡ min (m / long) n) × (long * min (m / long) n ≤ m)
cut_count long m n (of_18 e) = rw e (omega arith, omega arith)
cut_count long m n (of_20 e) = rw e (omega arith, omega arith)

narrow_take : {d : ℕ} {rs : List Record} (n : ℕ) → AllNarrow d rs → AllNarrow d (take n rs)
narrow_take zero ns = empty
narrow_take (suc n) empty = empty
narrow_take (suc n) (first m ms) = first m (narrow_take n ms)

-- the file of a list, cut at any byte, has the records of the list before the cut
module _ (d m : ℕ) (rs : List Record) (k : Known (record_length_of (suc d))) (ns : AllNarrow (suc d) rs) where
  abbrev long : ℕ
  long = record_length_of (suc d)

  abbrev left : List Record
  left = take (m / long) rs

  abbrev beyond : List ℕ
  beyond = records_bytes (suc d) (drop (m / long) rs) ++ trailer_bytes (suc d) (length rs)

  parts : file_of (suc d) rs ≡ records_bytes (suc d) left ++ beyond
  unfolding file_of
  parts =
      ap (λ (z : List Record). records_bytes (suc d) z ++ trailer_bytes (suc d) (length rs)) (sym (take-append-drop (m / long) rs))
      ∙ ap (λ (z : List ℕ). z ++ trailer_bytes (suc d) (length rs)) (bytes_append (suc d) left (drop (m / long) rs))
      ∙ append_assoc (records_bytes (suc d) left) (records_bytes (suc d) (drop (m / long) rs)) (trailer_bytes (suc d) (length rs))

  left_count : length left ≡ min (m / long) (length rs)
  left_count = length-take (m / long) rs

  left_within : length (records_bytes (suc d) left) ≤ m
  left_within =
      let c = cut_count long m (length rs) k in
      let size : length (records_bytes (suc d) left) ≡ long * min (m / long) (length rs) = length_records_bytes (suc d) left ∙ ap (λ (n : ℕ). long * n) left_count in
      omega (arith, c.1, size)

  cut_parts : take m (file_of (suc d) rs) ≡ records_bytes (suc d) left ++ take (m - length (records_bytes (suc d) left)) beyond
  cut_parts =
      let a = length (records_bytes (suc d) left) in
      let at : m ≡ a + (m - a) = omega (arith, left_within) in
      ap (take m) parts ∙ ap (λ (n : ℕ). take n (records_bytes (suc d) left ++ beyond)) at ∙ take-append-add (records_bytes (suc d) left) beyond (m - a)

  cut_whole : length (take m (file_of (suc d) rs)) / long ≡ length left
  cut_whole =
      ap (λ (n : ℕ). n / long) (length-take m (file_of (suc d) rs) ∙ ap (min m) (length_file (suc d) rs))
      ∙ (cut_count long m (length rs) k).0 ∙ sym left_count

  pub cut_records : whole_records (record_length_of (suc d)) (take m (file_of (suc d) rs)) ≡ take (m / record_length_of (suc d)) rs
  cut_records =
      let width : duv_width_of (record_length_of (suc d)) ≡ suc d = omega arith in
      ap (λ (w : ℕ). records_in w (length (take m (file_of (suc d) rs)) / long) (take m (file_of (suc d) rs))) width
      ∙ ap (λ (n : ℕ). records_in (suc d) n (take m (file_of (suc d) rs))) cut_whole
      ∙ ap (records_in (suc d) (length left)) cut_parts
      ∙ records_back d left (take (m - length (records_bytes (suc d) left)) beyond) (narrow_take (m / long) ns)

-- so those of the whole file are the list
pub whole_written : (d : ℕ) (rs : List Record) → Known (record_length_of (suc d)) → AllNarrow (suc d) rs → whole_records (record_length_of (suc d)) (file_of (suc d) rs) ≡ rs
whole_written d rs k ns =
    let l = file_of (suc d) rs in
    ap (whole_records (record_length_of (suc d))) (sym (take-length l)) ∙ cut_records d (length l) rs k ns
    ∙ ap (λ (n : ℕ). take n rs) (whole_count (record_length_of (suc d)) (length rs) (length l) k (length_file (suc d) rs)) ∙ take-length rs
