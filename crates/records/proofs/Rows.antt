-- The columns as a loop stores the records of a file in them.
use mathlib.Core.Path.{◌≡◌, ap, sym, subst, ◌∙◌}
use Prim.Native.Nat.{ℕ, ◌+◌, ◌*◌, ◌≤◌, ◌<◌}
use native.Mathlib.Numerals.{add-one}
use mathlib.Core.List.{List, [], ◌∷◌, ◌++◌}
use native.Mathlib.Omega.{arith}
use lib.ListN.{drop}
use Rattle.records.specs.Fields.{record_length_of, front_record}
use Rattle.records.specs.Files.{records_in}
use Rattle.records.specs.FilesLaws.{length_records_in, records_append}
use Rattle.records.specs.Columns.{Columns, size_of, filled}
use Rattle.records.specs.ColumnsLaws.{Level, has_row, filled_next, filled_none, filled_level}
use Rattle.records.specs.Code.Rows.{stored}
use Rattle.records.specs.declared.fields.Record.{Record}

module _ (w : ℕ) (l : List ℕ) (c : Columns) where
  -- no record yet
  pub none_read : c ≡ filled (records_in w 0 l) c
  unfolding records_in
  none_read = sym (filled_none c)

  -- the columns keep their lengths
  pub level_read : (i : ℕ) (d : Columns) → d ≡ filled (records_in w i l) c → i ≤ size_of c → Level d c
  level_read i d e h =
      subst (λ (z : Columns). Level z c) (sym e) (filled_level (records_in w i l) c (omega (arith, length_records_in w i l)))

  -- one record more is read
  pub next_read : (long i : ℕ) (d e : Columns) (r : Record) → long ≡ record_length_of w → i < size_of c → d ≡ filled (records_in w i l) c → r ≡ front_record w (drop (long * i) l) → e ≡ stored d i r → e ≡ filled (records_in w (i + 1) l) c
  next_read long i d e r hl h hd hr he =
      let rs = records_in w i l in
      let next : records_in w (i + 1) l ≡ rs ++ (r ∷ [])
      = ap (λ (n : ℕ). records_in w n l) (add-one i) ∙ records_append w i l ∙ ap (λ (z : Record). rs ++ (z ∷ [])) (sym (hr ∙ ap (λ (m : ℕ). front_record w (drop (m * i) l)) hl)) in
      he ∙ ap (λ (z : Columns). stored z i r) hd ∙ filled_next rs c r i (length_records_in w i l) (has_row c i h) ∙ ap (λ (z : List Record). filled z c) (sym next)
