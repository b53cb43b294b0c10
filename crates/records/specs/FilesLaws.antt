-- Laws of files: how long they are, which record is which, and that the records come back from a file, as a file does from its records.
use Rattle.std.specs.Prelude.{ℕ, zero, suc, ◌+◌, ◌*◌, ◌≤◌, ◌<◌, ◌≡◌, refl, List, [], ◌∷◌, ◌++◌, length, take, drop, get_or}
use Rattle.std.proofs.Common.{ap, sym, ◌∙◌, append_assoc, arith, mul-suc, add_comm, length-append, length-drop, take-add, drop_at, drop-drop}
use Rattle.records.specs.BytesLaws.{Bytes, bytes_drop}
use Rattle.records.specs.Fields.{record_length_of, record_bytes, front_record}
use Rattle.records.specs.FieldsLaws.{Narrow, length_record, front_record_lem, record_front}
use Rattle.records.specs.Files.{trailer_bytes, records_bytes, file_of, file_length, records_in, zero_record}
use Rattle.records.specs.declared.fields.Record.{Record}

-- each number of each record is no wider than its field
pub data AllNarrow (d : ℕ) : List Record → Type 0 where
  empty : AllNarrow d []
  first : {r : Record} {rs : List Record} → Narrow d r → AllNarrow d rs → AllNarrow d (r ∷ rs)

pub narrow_append : (d : ℕ) (rs : List Record) (r : Record) → AllNarrow d rs → Narrow d r → AllNarrow d (rs ++ (r ∷ []))
narrow_append d [] r empty n = first n empty
narrow_append d (x ∷ rs) r (first m ms) n = first m (narrow_append d rs r ms n)

-- the product of a length and one more
more : (d n : ℕ) → record_length_of d * suc n ≡ record_length_of d + record_length_of d * n
more d n = mul-suc (record_length_of d) n ∙ add_comm (record_length_of d * n) (record_length_of d)

-- how long a file is
pub length_records_bytes : (d : ℕ) (rs : List Record) → length (records_bytes d rs) ≡ record_length_of d * length rs
length_records_bytes d [] = omega arith
length_records_bytes d (r ∷ rs) =
    length-append (record_bytes d r) (records_bytes d rs) ∙ omega (arith, length_record d r, length_records_bytes d rs, more d (length rs))

pub length_file : (d : ℕ) (rs : List Record) → length (file_of d rs) ≡ file_length d (length rs)
unfolding file_of trailer_bytes
length_file d rs = length-append (records_bytes d rs) (trailer_bytes d (length rs)) ∙ omega (arith, length_records_bytes d rs)

-- records and then others
pub bytes_append : (d : ℕ) (rs ss : List Record) → records_bytes d (rs ++ ss) ≡ records_bytes d rs ++ records_bytes d ss
bytes_append d [] ss = refl
bytes_append d (r ∷ rs) ss =
    ap (λ (z : List ℕ). record_bytes d r ++ z) (bytes_append d rs ss) ∙ sym (append_assoc (record_bytes d r) (records_bytes d rs) (records_bytes d ss))

pub length_records_in : (d n : ℕ) (l : List ℕ) → length (records_in d n l) ≡ n
unfolding records_in
length_records_in d zero l = refl
length_records_in d (suc n) l = ap suc (length_records_in d n (drop (record_length_of d) l))

further : (d n : ℕ) (l : List ℕ) → drop (record_length_of d * n) (drop (record_length_of d) l) ≡ drop (record_length_of d * suc n) l
further d n l = drop-drop (record_length_of d * n) (record_length_of d) l ∙ ap (λ (k : ℕ). drop k l) (sym (more d n))

-- record n begins at n times the record length
pub records_append : (d n : ℕ) (l : List ℕ) → records_in d (suc n) l ≡ records_in d n l ++ (front_record d (drop (record_length_of d * n) l) ∷ [])
unfolding records_in
records_append d zero l = let e : record_length_of d * 0 ≡ 0 = omega arith in rw e refl
records_append d (suc n) l =
    let rest = drop (record_length_of d) l in
    ap (λ (z : List Record). front_record d l ∷ z) (records_append d n rest)
    ∙ ap (λ (z : List ℕ). front_record d l ∷ (records_in d n rest ++ (front_record d z ∷ []))) (further d n l)

pub record_in : (d n i : ℕ) (l : List ℕ) → i < n → get_or (records_in d n l) i zero_record ≡ front_record d (drop (record_length_of d * i) l)
unfolding records_in
record_in d zero i l h = absurd (omega arith)
record_in d (suc n) zero l h = let e : record_length_of d * 0 ≡ 0 = omega arith in rw e refl
record_in d (suc n) (suc i) l h = record_in d n i (drop (record_length_of d) l) (omega arith) ∙ ap (front_record d) (further d i l)

-- the first records are the first of more
pub records_take : (d i n : ℕ) (l : List ℕ) → i ≤ n → records_in d i l ≡ take i (records_in d n l)
unfolding records_in
records_take d zero n l h = refl
records_take d (suc i) zero l h = absurd (omega arith)
records_take d (suc i) (suc n) l h = ap (λ (rs : List Record). front_record d l ∷ rs) (records_take d i n (drop (record_length_of d) l) (omega arith))

-- the records come back from their bytes, whatever follows
pub records_back : (d : ℕ) (rs : List Record) (rest : List ℕ) → AllNarrow (suc d) rs → records_in (suc d) (length rs) (records_bytes (suc d) rs ++ rest) ≡ rs
unfolding records_in
records_back d [] rest empty = refl
records_back d (r ∷ rs) rest (first n ns) =
    let beyond = records_bytes (suc d) rs ++ rest in
    rw (append_assoc (record_bytes (suc d) r) (records_bytes (suc d) rs) rest, front_record_lem d r beyond n, drop_at (record_bytes (suc d) r) beyond (record_length_of (suc d)) (length_record (suc d) r), records_back d rs rest ns)
    refl

-- the bytes come back from the records that are read from them
pub bytes_back : (d n : ℕ) (l : List ℕ) → record_length_of d * n ≤ length l → Bytes l → records_bytes d (records_in d n l) ≡ take (record_length_of d * n) l
unfolding records_in
bytes_back d zero l h b = let e : record_length_of d * 0 ≡ 0 = omega arith in rw e refl
bytes_back d (suc n) l h b =
    let rest = drop (record_length_of d) l in
    let front : record_length_of d ≤ length l = omega (arith, more d n) in
    let others : record_length_of d * n ≤ length rest = omega (arith, more d n, length-drop (record_length_of d) l) in
    rw (record_front d l front b, bytes_back d n rest others (bytes_drop (record_length_of d) l b), more d n) (sym (take-add (record_length_of d) (record_length_of d * n) l))
