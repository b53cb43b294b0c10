-- The form of a file and the record at an index, by the tests that the code makes.
use mathlib.Core.Path.{◌≡◌, refl, ap, sym, ◌∙◌}
use Prim.Native.Nat.{ℕ, ◌+◌, ◌-◌, ◌*◌, ◌/◌, ◌≤◌, ◌<◌}
use mathlib.Core.Bool.{Bool, true, false, cond, ◌||◌}
use mathlib.Core.List.{List}
use native.Mathlib.Omega.{arith}
use lib.Dec.{eqb}
use lib.ListN.{length, take, drop, get_or}
use lib.Seq.{drop-drop}
use borrow.Author.Tests.{lt-ltb, le-ltb, eqb-true}
use Rattle.refusal.specs.declared.Refusal.{Refusal}
use Rattle.refusal.specs.declared.Refusal.TheVariants.{BadRecordLength}
use Rattle.records.specs.Bytes.{number}
use Rattle.records.specs.Fields.{duv_width_of, front_record}
use Rattle.records.specs.Layout.{width_of, length_of, layout_of}
use Rattle.records.specs.Files.{known_length, zero_record, record_at, trailer_form, form, form_of, form_records, records_of}
use Rattle.records.specs.Conditions.{Known, of_18, of_20}
use Rattle.records.specs.RefusalLaws.{known_true, form_readable}
use Rattle.records.specs.RoundTripLaws.{readable_record}
use Rattle.records.specs.declared.layout.Layout.{Layout}
use Rattle.records.specs.declared.layout.Layout.TheVariants.{Earlier, Written}
use Rattle.records.specs.declared.fields.Record.{Record}
use Rattle.records.specs.declared.files.Form.{Form}
use Rattle.std.specs.Prelude.{Result, Ok, Err}

-- the layout of records of a length that is read, and of no other
pub layout_length : (long : ℕ) (y : Layout) → Ok y ≡ layout_of long → long ≡ length_of y
layout_length long y e = go (eqb long 18) (eqb long 20) refl refl e
  where
    go : (a b : Bool) → eqb long 18 ≡ a → eqb long 20 ≡ b → Ok y ≡ cond a (Ok Earlier) (cond b (Ok Written) (Err BadRecordLength)) → long ≡ length_of y
    go true b f g h = let same : Earlier ≡ y = cc in eqb-true long 18 f ∙ ap length_of same
    go false true f g h = let same : Written ≡ y = cc in eqb-true long 20 g ∙ ap length_of same
    go false false f g h = cc

pub layout_known : (y : Layout) → Known (length_of y)
layout_known Earlier = of_18 refl
layout_known Written = of_20 refl

pub no_layout : (long : ℕ) {r : Refusal} → Err r ≡ layout_of long → known_length long ≡ false
no_layout long {r} e = go (eqb long 18) (eqb long 20) e
  where
    go : (a b : Bool) → Err r ≡ cond a (Ok Earlier) (cond b (Ok Written) (Err BadRecordLength)) → a || b ≡ false
    go true b h = cc
    go false true h = cc
    go false false h = refl

module _ (long : ℕ) (l : List ℕ) (i : ℕ) where
  pub at_unknown : {r : Refusal} → Err r ≡ layout_of long → zero_record ≡ record_at long l i
  unfolding record_at
  at_unknown e = rw (no_layout long e) refl

  pub at_whole : (y : Layout) (r : Record) → Ok y ≡ layout_of long → i < length l / length_of y → r ≡ front_record (width_of y) (drop (long * i) l) → r ≡ record_at long l i
  unfolding record_at
  at_whole y r e h f =
      let k = layout_length long y e in
      let w : duv_width_of (length_of y) ≡ width_of y = omega arith in
      f ∙ rw (k, known_true (length_of y) (layout_known y), lt-ltb i (length l / length_of y) h, w) refl

  pub at_none : (y : Layout) → Ok y ≡ layout_of long → length l / length_of y ≤ i → zero_record ≡ record_at long l i
  unfolding record_at
  at_none y e h = let k = layout_length long y e in rw (k, known_true (length_of y) (layout_known y), le-ltb i (length l / length_of y) h) refl

module _ (l : List ℕ) where
  pub form_long : (long count back : ℕ) (f : Result Form Refusal) → 8 ≤ length l → long ≡ number (take 2 (drop (length l - 8) l)) →
      count ≡ number (take 2 (drop (length l - 8 + 2) l)) → back ≡ number (take 4 (drop (length l - 8 + 4) l)) →
      f ≡ trailer_form long count back (length l) → f ≡ form_of l
  unfolding form_of
  form_long long count back f h e1 e2 e3 e =
      let at = length l - 8 in
      let d1 : drop 2 (drop at l) ≡ drop (at + 2) l = drop-drop 2 at l in
      let k : at + 2 + 2 ≡ at + 4 = omega arith in
      let d2 : drop 2 (drop 2 (drop at l)) ≡ drop (at + 4) l = ap (drop 2) d1 ∙ drop-drop 2 (at + 2) l ∙ ap (λ (j : ℕ). drop j l) k in
      e ∙ rw (le-ltb (length l) 8 h, d2, d1, e1, e2, e3) refl

  -- record i of a file that cannot be read, and of one of this form
  pub refused_record : (i : ℕ) (r : Refusal) → form_of l ≡ Err r → zero_record ≡ get_or (records_of l) i zero_record
  unfolding records_of
  refused_record i r e = ap (λ (f : Result Form Refusal). get_or (form_records f l) i zero_record) (sym e)

  pub formed_record : (i long n : ℕ) (r : Record) → form_of l ≡ Ok (form long n) → r ≡ record_at long l i → r ≡ get_or (records_of l) i zero_record
  formed_record i long n r e f =
      let k = form_readable l long n e in f ∙ ap (λ (m : ℕ). record_at m l i) (sym k.1) ∙ readable_record l i k.0
