-- Runs of elements stored one after another, of whatever type; and so the records and the trailer of a file.
use Rattle.std.specs.Prelude.{◌≡◌, refl, ℕ, suc, ◌+◌, ◌*◌, ◌≤◌, List, [], ◌∷◌, ◌++◌, length, set, drop}
use Rattle.std.proofs.Common.{ap, sym, ◌∙◌, arith}
use Rattle.std.proofs.lemmas.List.Edits.{sets, sets-eq}
use Rattle.records.specs.Fields.{duv_width, record_length_of}
use Rattle.records.specs.Files.{trailer_bytes, records_bytes, file_of, file_length}
use Rattle.records.specs.FilesLaws.{length_records_bytes, length_file, bytes_append}
use Rattle.records.specs.Columns.{over}
use Rattle.records.specs.declared.fields.Record.{Record}

module _ {A : Type 0} where
  sets_append : (xs : List A) (l : List A) (i : ℕ) (ys : List A) → sets (sets l i xs) (i + length xs) ys ≡ sets l i (xs ++ ys)
  sets_append [] l i ys = let e : i + 0 ≡ i = omega arith in rw e refl
  sets_append (x ∷ xs) l i ys = let e : i + suc (length xs) ≡ suc i + length xs = omega arith in rw e (sets_append xs (set l i x) (suc i) ys)

  -- two runs, the second from the end of the first on
  pub then : (o : List A) {p q : List A} (a b : ℕ) (xs ys : List A) → p ≡ sets o a xs → q ≡ sets p b ys → b ≡ a + length xs → q ≡ sets o a (xs ++ ys)
  then o a b xs ys e f h = f ∙ rw (e, h) (sets_append xs o a ys)

  -- from the first element on, and what lies beyond
  pub stored_over : (xs old : List A) → length xs ≤ length old → sets old 0 xs ≡ over xs old
  stored_over xs old h = sets-eq xs old 0 (omega arith) ∙ (let e : 0 + length xs ≡ length xs = omega arith in ap (λ (n : ℕ). xs ++ drop n old) e)

-- records of a file after others
pub records_stored : (o : List ℕ) {p q : List ℕ} (rs ss : List Record) → p ≡ sets o 0 (records_bytes duv_width rs) → q ≡ sets p (record_length_of duv_width * length rs) (records_bytes duv_width ss) → q ≡ sets o 0 (records_bytes duv_width (rs ++ ss))
records_stored o rs ss e f =
    then o 0 (record_length_of duv_width * length rs) (records_bytes duv_width rs) (records_bytes duv_width ss) e f (omega (arith, length_records_bytes duv_width rs))
    ∙ ap (sets o 0) (sym (bytes_append duv_width rs ss))

-- the records, and then their trailer, are the file
pub file_stored : (old : List ℕ) {p q : List ℕ} (rs : List Record) → file_length duv_width (length rs) ≤ length old → p ≡ sets old 0 (records_bytes duv_width rs) → q ≡ sets p (record_length_of duv_width * length rs) (trailer_bytes duv_width (length rs)) → q ≡ over (file_of duv_width rs) old
unfolding file_of
file_stored old rs h e f =
    then old 0 (record_length_of duv_width * length rs) (records_bytes duv_width rs) (trailer_bytes duv_width (length rs)) e f (omega (arith, length_records_bytes duv_width rs))
    ∙ stored_over (file_of duv_width rs) old (omega (arith, length_file duv_width rs))
