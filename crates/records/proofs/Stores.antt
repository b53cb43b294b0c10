-- Runs of bytes stored one after another: a record's numbers, a trailer's, and record after record.
use mathlib.Core.Path.{◌≡◌, refl, ap, sym, ◌∙◌}
use Prim.Native.Nat.{ℕ, ◌+◌, ◌*◌, ◌%◌, ◌<◌}
use native.Mathlib.Omega.{arith}
use mathlib.Core.List.{List, [], ◌∷◌, ◌++◌, append-nil}
use native.Mathlib.Numerals.{add-one}
use lib.ListN.{length}
use lib.Seq.{sets}
use Rattle.records.specs.Bytes.{bytes_of, as_unsigned}
use Rattle.records.specs.Fields.{duv_width, record_bytes}
use Rattle.records.specs.FieldsLaws.{Narrow}
use Rattle.records.specs.Files.{trailer_bytes, records_bytes}
use Rattle.records.specs.FilesLaws.{AllNarrow, narrow_append}
use Rattle.records.specs.Columns.{Columns, row_at, rows}
use Rattle.records.specs.ColumnsLaws.{length_rows}
use Rattle.records.specs.StoreLaws.{then, records_stored}
use Rattle.records.specs.declared.fields.Record.{Record}

-- the numbers of a record, whose Duv is n as an unsigned number
pub record_stored : (o : List ℕ) {o1 o2 o3 o4 o5 o6 o7 o8 : List ℕ} (r : Record) (at n : ℕ) → n ≡ as_unsigned duv_width r.duv →
    o1 ≡ sets o at (bytes_of 4 r.u) → o2 ≡ sets o1 (at + 4) (bytes_of 4 r.v) → o3 ≡ sets o2 (at + 8) (bytes_of 2 r.place) →
    o4 ≡ sets o3 (at + 10) (bytes_of 2 r.low) → o5 ≡ sets o4 (at + 12) (bytes_of 2 r.high) → o6 ≡ sets o5 (at + 14) (bytes_of duv_width n) →
    o7 ≡ sets o6 (at + 18) (bytes_of 1 r.steps) → o8 ≡ sets o7 (at + 19) (bytes_of 1 r.class) → o8 ≡ sets o at (record_bytes duv_width r)
unfolding record_bytes
record_stored o {o5 = o5} {o6 = o6} r at n e e1 e2 e3 e4 e5 e6 e7 e8 =
    let b1 = bytes_of 4 r.u in
    let b2 = b1 ++ bytes_of 4 r.v in
    let b3 = b2 ++ bytes_of 2 r.place in
    let b4 = b3 ++ bytes_of 2 r.low in
    let b5 = b4 ++ bytes_of 2 r.high in
    let b6 = b5 ++ bytes_of duv_width (as_unsigned duv_width r.duv) in
    let b7 = b6 ++ bytes_of 1 r.steps in
    let f6 : o6 ≡ sets o5 (at + 14) (bytes_of duv_width (as_unsigned duv_width r.duv)) = e6 ∙ ap (λ (m : ℕ). sets o5 (at + 14) (bytes_of duv_width m)) e in
    let s2 = then o at (at + 4) b1 (bytes_of 4 r.v) e1 e2 refl in
    let s3 = then o at (at + 8) b2 (bytes_of 2 r.place) s2 e3 refl in
    let s4 = then o at (at + 10) b3 (bytes_of 2 r.low) s3 e4 refl in
    let s5 = then o at (at + 12) b4 (bytes_of 2 r.high) s4 e5 refl in
    let s6 = then o at (at + 14) b5 (bytes_of duv_width (as_unsigned duv_width r.duv)) s5 f6 refl in
    let s7 = then o at (at + 18) b6 (bytes_of 1 r.steps) s6 e7 refl in
    then o at (at + 19) b7 (bytes_of 1 r.class) s7 e8 refl

-- the same, with the steps and the class, which are bytes, stored at once
pub record_put : (o : List ℕ) {o1 o2 o3 o4 o5 o6 o7 : List ℕ} (r : Record) (at : ℕ) →
    o1 ≡ sets o at (bytes_of 4 r.u) → o2 ≡ sets o1 (at + 4) (bytes_of 4 r.v) → o3 ≡ sets o2 (at + 8) (bytes_of 2 r.place) →
    o4 ≡ sets o3 (at + 10) (bytes_of 2 r.low) → o5 ≡ sets o4 (at + 12) (bytes_of 2 r.high) → o6 ≡ sets o5 (at + 14) (bytes_of duv_width (as_unsigned duv_width r.duv)) →
    r.steps < 256 → r.class < 256 → o7 ≡ sets o6 (at + 18) (r.steps ∷ r.class ∷ []) → o7 ≡ sets o at (record_bytes duv_width r)
record_put o {o6 = o6} r at e1 e2 e3 e4 e5 e6 s c e7 =
    let steps : r.steps ≡ r.steps % 256 = omega arith in
    let class : r.class ≡ r.class % 256 = omega arith in
    let f7 : _ ≡ sets o6 (at + 18) (bytes_of 1 r.steps ++ bytes_of 1 r.class) = e7 ∙ (λ i. sets o6 (at + 18) (steps i ∷ class i ∷ [])) in
    let next : at + 19 ≡ at + 18 + 1 = omega arith in
    let both = then o6 (at + 18) (at + 19) (bytes_of 1 r.steps) (bytes_of 1 r.class) refl refl next in
    f7 ∙ sym both ∙ record_stored o r at (as_unsigned duv_width r.duv) refl e1 e2 e3 e4 e5 e6 refl refl

-- the numbers of a trailer
pub trailer_stored : (o : List ℕ) {o1 o2 o3 : List ℕ} (at n : ℕ) → o1 ≡ sets o at (bytes_of 2 20) → o2 ≡ sets o1 (at + 2) (bytes_of 2 n) → o3 ≡ sets o2 (at + 4) (bytes_of 4 (20 * n)) → o3 ≡ sets o at (trailer_bytes duv_width n)
unfolding trailer_bytes
trailer_stored o at n e1 e2 e3 =
    let s2 = then o at (at + 2) (bytes_of 2 20) (bytes_of 2 n) e1 e2 refl in
    then o at (at + 4) (bytes_of 2 20 ++ bytes_of 2 n) (bytes_of 4 (20 * n)) s2 e3 refl

module _ (c : Columns) (i : ℕ) (r : Record) (e : r ≡ row_at c i) where
  next_rows : rows c (i + 1) ≡ rows c i ++ (r ∷ [])
  next_rows = ap (rows c) (add-one i) ∙ ap (λ (z : Record). rows c i ++ (z ∷ [])) (sym e)

  -- one row more is stored
  pub row_stored : (o : List ℕ) {p q : List ℕ} → p ≡ sets o 0 (records_bytes duv_width (rows c i)) → q ≡ sets p (20 * i) (record_bytes duv_width r) → q ≡ sets o 0 (records_bytes duv_width (rows c (i + 1)))
  row_stored o {p} f g =
      let rs = rows c i in
      let g' : _ ≡ sets p (20 * length rs) (records_bytes duv_width (r ∷ [])) = g ∙ rw (length_rows c i, append-nil (record_bytes duv_width r)) refl in
      records_stored o rs (r ∷ []) f g' ∙ ap (λ (z : List Record). sets o 0 (records_bytes duv_width z)) (sym next_rows)

  pub row_narrow : AllNarrow duv_width (rows c i) → Narrow duv_width r → AllNarrow duv_width (rows c (i + 1))
  row_narrow ns n = rw next_rows (narrow_append duv_width (rows c i) r ns n)
