-- The writer and the reader, by the tests that the code makes and the functions that it calls.
use mathlib.Core.Path.{◌≡◌, refl, ap, sym, subst, ◌∙◌}
use Prim.Native.Nat.{ℕ, ◌*◌, ◌≤◌, ◌<◌}
use mathlib.Core.List.{List}
use native.Mathlib.Omega.{arith}
use lib.ListN.{length}
use lib.Seq.{sets}
use Rattle.refusal.specs.declared.Refusal.{Refusal}
use Rattle.refusal.specs.declared.Refusal.TheVariants.{NoRoom}
use Rattle.records.specs.BytesLaws.{Bytes}
use Rattle.records.specs.Fields.{duv_width, duv_width_of}
use Rattle.records.specs.Files.{trailer_bytes, records_bytes, file_of, file_length, records_in, duv_width_in, back_in, form, form_of, records_of}
use Rattle.records.specs.FilesLaws.{AllNarrow}
use Rattle.records.specs.Columns.{Columns, size_of, rows, list_of, over, filled}
use Rattle.records.specs.ColumnsLaws.{length_rows, length_list}
use Rattle.records.specs.StoreLaws.{file_stored}
use Rattle.records.specs.Transfer.{write_outcome, closed_into, written, read_outcome}
use Rattle.records.specs.Conditions.{Known, of_20, bad_form, short_columns}
use Rattle.records.specs.Layout.{width_of, length_of, layout_of}
use Rattle.records.proofs.Forms.{layout_length, no_layout}
use Rattle.records.specs.declared.layout.Layout.{Layout}
use Rattle.std.proofs.lemmas.Bool.{false≢true}
use Rattle.records.specs.RefusalLaws.{known_true, write_done, condition_read, clear_read, form_condition, form_readable}
use Rattle.records.specs.RoundTrips.{SameList, ReadsBack}
use Rattle.records.specs.RoundTripLaws.{form_records_lem, read_written, written_read}
use Rattle.records.specs.declared.fields.Record.{Record}
use Rattle.std.specs.Prelude.{Result, Ok, Err}

-- a list in columns, whose rows are stored from the first byte on and then closed
module _ (c : Columns) (n : ℕ) (e : n ≡ size_of c) (old : List ℕ) where
  rows_are : rows c n ≡ list_of c
  unfolding list_of
  rows_are = ap (rows c) e

  pub room_of_list : write_outcome n (length old) ≡ write_outcome (size_of c) (length old)
  room_of_list = ap (λ (m : ℕ). write_outcome m (length old)) e

  file_written : {p : List ℕ} → file_length duv_width n ≤ length old → p ≡ sets old 0 (records_bytes duv_width (rows c n)) → sets p (20 * n) (trailer_bytes duv_width n) ≡ over (file_of duv_width (list_of c)) old
  file_written {p} h f =
      let long = length_rows c n in
      file_stored old (rows c n) (omega (arith, long)) f (ap (λ (m : ℕ). sets p (20 * m) (trailer_bytes duv_width m)) (sym long)) ∙ ap (λ (rs : List Record). over (file_of duv_width rs) old) rows_are

  -- what the outcome is, what the target holds, and that the list comes back
  pub list_written : (k : ℕ) {mid new : List ℕ} {r : Result ℕ Refusal} → write_outcome n (length old) ≡ Ok k → length mid ≡ length old → mid ≡ sets old 0 (records_bytes duv_width (rows c n)) → AllNarrow duv_width (rows c n) →
      r ≡ write_outcome n (length mid) → new ≡ closed_into r n mid → (r ≡ write_outcome (size_of c) (length old)) × (new ≡ written r (list_of c) old) × ReadsBack r (list_of c)
  list_written k {mid} {new} {r} d same f ns g h =
      let done = write_done n (length old) k d in
      let as_told : r ≡ write_outcome n (length old) = g ∙ ap (write_outcome n) same in
      let is_done : r ≡ Ok k = as_told ∙ d in
      let back : SameList duv_width (list_of c) = read_written 3 (list_of c) (of_20 refl) (subst (AllNarrow duv_width) rows_are ns) (omega (arith, length_list c, e, done.0)) in
      let target : new ≡ written (Ok k) (list_of c) old = h ∙ ap (λ (o : Result ℕ Refusal). closed_into o n mid) is_done ∙ file_written done.1 f in
      (as_told ∙ room_of_list, target ∙ ap (λ (o : Result ℕ Refusal). written o (list_of c) old) (sym is_done), subst (λ (o : Result ℕ Refusal). ReadsBack o (list_of c)) (sym is_done) back)

module _ (l : List ℕ) (long n room : ℕ) (e : form_of l ≡ Ok (form long n)) where
  pub short_read : room < n → Err NoRoom ≡ read_outcome l room
  short_read h = let k = form_readable l long n e in sym (condition_read l room NoRoom (short_columns k.0 (omega (arith, k.2))))

  pub done_read : n ≤ room → Ok n ≡ read_outcome l room
  done_read h = let k = form_readable l long n e in sym (clear_read l room k.0 (omega (arith, k.2)) ∙ ap Ok k.2)

  -- the records have one of the layouts, and they are all in the file
  pub laid_out : {r : Refusal} {A : Type 0} → Err r ≡ layout_of long → A
  laid_out h =
      let k = form_readable l long n e in absurd (false≢true (sym (no_layout long h) ∙ known_true long (subst Known k.1 k.0.trailed.length_of_record)))

  module _ (y : Layout) (h : Ok y ≡ layout_of long) where
    pub file_holds : length_of y * n ≤ length l
    file_holds =
        let k = form_readable l long n e in
        let back : back_in l ≡ length_of y * n = k.0.agrees.back ∙ (λ i. k.1 i * k.2 i) ∙ ap (λ (m : ℕ). m * n) (layout_length long y h) in
        omega (arith, back, k.0.agrees.exact)

    pub target_read : {c : Columns} (d : Columns) → c ≡ filled (records_in (width_of y) n l) d → c ≡ filled (records_of l) d
    target_read d f =
        let w : width_of y ≡ duv_width_of long = omega (arith, layout_length long y h) in
        f ∙ ap (λ (rs : List Record). filled rs d) (ap (λ (m : ℕ). records_in m n l) w ∙ sym (form_records_lem l long n e))

  pub again_read : Bytes l → file_of (duv_width_in l) (records_of l) ≡ l
  again_read b = written_read l b (form_readable l long n e).0

pub bad_read : (l : List ℕ) (room : ℕ) (r : Refusal) → form_of l ≡ Err r → Err r ≡ read_outcome l room
bad_read l room r e = sym (condition_read l room r (bad_form r (form_condition l r e)))
