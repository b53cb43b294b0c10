-- Refusals 11 to 15: each is given exactly under its condition, where none before it holds; and otherwise the file is written or read.
use Rattle.std.specs.Prelude.{◌≡◌, Bool, true, false, ◌&&◌, ◌||◌, cond, List, ℕ, ◌+◌, ◌*◌, ◌≤◌, ltb, leb, eqb, length, Result, Ok, Err}
use Rattle.std.proofs.Math.Path.{refl}
use Rattle.std.proofs.Common.{ap, sym, subst, ◌∙◌, arith}
use Rattle.std.proofs.lemmas.Bool.{false≢true}
use borrow.Author.Tests.{ltb-true, ltb-false, leb-true, leb-false, eqb-true, lt-ltb, le-ltb, le-leb, lt-leb, eq-eqb}
use Rattle.arith.specs.TestLaws.{untrue, and_both, both_and}
use Rattle.refusal.specs.declared.Refusal.{Refusal}
use Rattle.refusal.specs.declared.Refusal.TheVariants.{TooManyRecords, NoRoom, NoTrailer, BadRecordLength, BadTrailer}
use Rattle.records.specs.Fields.{duv_width, earlier_duv_width, record_length_of, duv_width_of}
use Rattle.records.specs.Files.{known_length, most_records, most_written, most_read, trailer_length, file_length, record_length_in, count_in, back_in, form, form_of}
use Rattle.records.specs.declared.files.Form.{Form}
use Rattle.records.specs.Transfer.{write_outcome, read_outcome}
use Rattle.records.specs.Conditions.{Known, of_18, of_20, Trailed, Agrees, Readable, FormCondition, no_trailer, bad_length, bad_trailer, too_many, WriteCondition, over_most, short_target, ReadCondition, bad_form, short_columns}

-- the test of refusal 14 and its condition
pub known_true : (long : ℕ) → Known long → known_length long ≡ true
known_true long (of_18 e) = rw e refl
known_true long (of_20 e) = rw e refl

pub true_known : (long : ℕ) → known_length long ≡ true → Known long
true_known long e = go (eqb long (record_length_of earlier_duv_width)) (eqb long (record_length_of duv_width)) refl refl e
  where
    go : (a b : Bool) → eqb long (record_length_of earlier_duv_width) ≡ a → eqb long (record_length_of duv_width) ≡ b → a || b ≡ true → Known long
    go true b x y h = of_18 (eqb-true long (record_length_of earlier_duv_width) x)
    go false true x y h = of_20 (eqb-true long (record_length_of duv_width) y)
    go false false x y h = absurd (false≢true h)

pub known_false : (long : ℕ) → (Known long → ⊥) → known_length long ≡ false
known_false long h = untrue (known_length long) (λ e. h (true_known long e))

pub false_known : (long : ℕ) → known_length long ≡ false → Known long → ⊥
false_known long e k = false≢true (sym e ∙ known_true long k)

-- a record of known length is as long as the width of its Duv says
pub known_width : (long : ℕ) → Known long → record_length_of (duv_width_of long) ≡ long
known_width long (of_18 e) = rw e refl
known_width long (of_20 e) = rw e refl

-- no file that is read has more records than one of 18 bytes a record can have
pub most_read_lem : (long : ℕ) → most_records long ≤ most_read
most_read_lem long = go (eqb long (record_length_of earlier_duv_width))
  where
    go : (b : Bool) → cond b 3600 3200 ≤ 3600
    go true = omega arith
    go false = omega arith

-- the test of refusal 15, as the definition makes it
abbrev agrees : List ℕ → Bool
agrees l = eqb (back_in l) (record_length_in l * count_in l) && eqb (length l) (back_in l + trailer_length)

agrees_true : (l : List ℕ) → Agrees l → agrees l ≡ true
agrees_true l a = both_and (eq-eqb (back_in l) (record_length_in l * count_in l) a.back) (eq-eqb (length l) (back_in l + trailer_length) a.exact)

true_agrees : (l : List ℕ) → agrees l ≡ true → Agrees l
true_agrees l e =
    let k = and_both (eqb (back_in l) (record_length_in l * count_in l)) (eqb (length l) (back_in l + trailer_length)) e in
    record { back = eqb-true (back_in l) (record_length_in l * count_in l) k.0; exact = eqb-true (length l) (back_in l + trailer_length) k.1 }

agrees_false : (l : List ℕ) → (Agrees l → ⊥) → agrees l ≡ false
agrees_false l h = untrue (agrees l) (λ e. h (true_agrees l e))

-- under its condition a refusal is given
pub condition_form : (l : List ℕ) (r : Refusal) → FormCondition l r → form_of l ≡ Err r
unfolding form_of
condition_form l r (no_trailer h) = rw (lt-ltb (length l) trailer_length h) refl
condition_form l r (bad_length h w) = rw (le-ltb (length l) trailer_length h, known_false (record_length_in l) w) refl
condition_form l r (bad_trailer t a) =
    rw (le-ltb (length l) trailer_length t.room, known_true (record_length_in l) t.length_of_record, agrees_false l a) refl
condition_form l r (too_many t a m) =
    rw (le-ltb (length l) trailer_length t.room, known_true (record_length_in l) t.length_of_record, agrees_true l a, lt-leb (count_in l) (most_records (record_length_in l)) m) refl

-- where no condition is met, the form is the record length and the count
pub readable_form : (l : List ℕ) → Readable l → form_of l ≡ Ok (form (record_length_in l) (count_in l))
unfolding form_of
readable_form l k =
    rw (le-ltb (length l) trailer_length k.trailed.room, known_true (record_length_in l) k.trailed.length_of_record, agrees_true l k.agrees, le-leb (count_in l) (most_records (record_length_in l)) k.few) refl

-- either a refusal's condition is met, or none is
pub data FormDecided (l : List ℕ) : Type 0 where
  refusal : (r : Refusal) → FormCondition l r → FormDecided l
  readable : Readable l → FormDecided l

-- one of the two holds, whatever the bytes
pub form_decided : (l : List ℕ) → FormDecided l
form_decided l = go (ltb (length l) trailer_length) (known_length (record_length_in l)) (agrees l) (leb (count_in l) (most_records (record_length_in l))) refl refl refl refl
  where
    trailed : ltb (length l) trailer_length ≡ false → known_length (record_length_in l) ≡ true → Trailed l
    trailed s w = record { room = ltb-false (length l) trailer_length s; length_of_record = true_known (record_length_in l) w }

    disagrees : agrees l ≡ false → Agrees l → ⊥
    disagrees e a = false≢true (sym e ∙ agrees_true l a)

    go : (a b c d : Bool) → ltb (length l) trailer_length ≡ a → known_length (record_length_in l) ≡ b → agrees l ≡ c → leb (count_in l) (most_records (record_length_in l)) ≡ d → FormDecided l
    go true b c d s w e m = refusal NoTrailer (no_trailer (ltb-true (length l) trailer_length s))
    go false false c d s w e m = refusal BadRecordLength (bad_length (ltb-false (length l) trailer_length s) (false_known (record_length_in l) w))
    go false true false d s w e m = refusal BadTrailer (bad_trailer (trailed s w) (disagrees e))
    go false true true false s w e m = refusal TooManyRecords (too_many (trailed s w) (true_agrees l e) (leb-false (count_in l) (most_records (record_length_in l)) m))
    go false true true true s w e m = readable (record { trailed = trailed s w; agrees = true_agrees l e; few = leb-true (count_in l) (most_records (record_length_in l)) m })

-- a refusal that is given has its condition
pub form_condition : (l : List ℕ) (r : Refusal) → form_of l ≡ Err r → FormCondition l r
form_condition l r e = go (form_decided l)
  where
    go : FormDecided l → FormCondition l r
    go (refusal t k) = let f = condition_form l t k in let same : t ≡ r = cc in subst (FormCondition l) same k
    go (readable k) = let f = readable_form l k in let z : ◌≡◌ {A = ℕ} 0 1 = cc in absurd (omega arith)

-- a file that is read is readable, and has records as long and as many as the form says
pub form_readable : (l : List ℕ) (long n : ℕ) → form_of l ≡ Ok (form long n) → Readable l × (record_length_in l ≡ long) × (count_in l ≡ n)
form_readable l long n e = go (form_decided l)
  where
    go : FormDecided l → Readable l × (record_length_in l ≡ long) × (count_in l ≡ n)
    go (refusal t k) = let f = condition_form l t k in let z : ◌≡◌ {A = ℕ} 0 1 = cc in absurd (omega arith)
    go (readable k) =
        let f = readable_form l k in
        let same : form (record_length_in l) (count_in l) ≡ form long n = cc in
        (k, ap (λ (x : Form). x.record_length) same, ap (λ (x : Form). x.count) same)

-- no outcome is both
refused_done : {A : Type 0} {o : Result ℕ Refusal} {r : Refusal} {n : ℕ} → o ≡ Err r → o ≡ Ok n → A
refused_done e f = let z : ◌≡◌ {A = ℕ} 0 1 = cc in absurd (omega arith)

-- the writer: both directions, and what it does where no condition is met
module _ (n room : ℕ) where
  pub condition_write : (r : Refusal) → WriteCondition n room r → write_outcome n room ≡ Err r
  unfolding write_outcome
  condition_write r (over_most h) = rw (lt-leb n most_written h) refl
  condition_write r (short_target h k) = rw (le-leb n most_written h, lt-leb (file_length duv_width n) room k) refl

  pub clear_write : n ≤ most_written → file_length duv_width n ≤ room → write_outcome n room ≡ Ok (file_length duv_width n)
  unfolding write_outcome
  clear_write h k = rw (le-leb n most_written h, le-leb (file_length duv_width n) room k) refl

  pub write_condition : (r : Refusal) → write_outcome n room ≡ Err r → WriteCondition n room r
  write_condition r e = go (leb n most_written) (leb (file_length duv_width n) room) refl refl
    where
      given : {t : Refusal} → WriteCondition n room t → WriteCondition n room r
      given {t} k = let f = condition_write t k in let same : t ≡ r = cc in subst (WriteCondition n room) same k

      go : (a b : Bool) → leb n most_written ≡ a → leb (file_length duv_width n) room ≡ b → WriteCondition n room r
      go false b x y = given (over_most (leb-false n most_written x))
      go true false x y = given (short_target (leb-true n most_written x) (leb-false (file_length duv_width n) room y))
      go true true x y = refused_done e (clear_write (leb-true n most_written x) (leb-true (file_length duv_width n) room y))

  -- how many bytes are written
  pub write_done : (k : ℕ) → write_outcome n room ≡ Ok k → (n ≤ most_written) × (file_length duv_width n ≤ room) × (k ≡ file_length duv_width n)
  write_done k e = go (leb n most_written) (leb (file_length duv_width n) room) refl refl
    where
      go : (a b : Bool) → leb n most_written ≡ a → leb (file_length duv_width n) room ≡ b → (n ≤ most_written) × (file_length duv_width n ≤ room) × (k ≡ file_length duv_width n)
      go false b x y = refused_done (condition_write TooManyRecords (over_most (leb-false n most_written x))) e
      go true false x y = refused_done (condition_write NoRoom (short_target (leb-true n most_written x) (leb-false (file_length duv_width n) room y))) e
      go true true x y = let f = clear_write (leb-true n most_written x) (leb-true (file_length duv_width n) room y) in (leb-true n most_written x, leb-true (file_length duv_width n) room y, cc)

-- the reader in the same way
module _ (l : List ℕ) (room : ℕ) where
  pub condition_read : (r : Refusal) → ReadCondition l room r → read_outcome l room ≡ Err r
  unfolding read_outcome
  condition_read r (bad_form t k) = rw (condition_form l r k) refl
  condition_read r (short_columns k h) = rw (readable_form l k, lt-leb (count_in l) room h) refl

  pub clear_read : Readable l → count_in l ≤ room → read_outcome l room ≡ Ok (count_in l)
  unfolding read_outcome
  clear_read k h = rw (readable_form l k, le-leb (count_in l) room h) refl

  pub read_condition : (r : Refusal) → read_outcome l room ≡ Err r → ReadCondition l room r
  read_condition r e = go (form_decided l) (leb (count_in l) room) refl
    where
      given : {t : Refusal} → ReadCondition l room t → ReadCondition l room r
      given {t} k = let f = condition_read t k in let same : t ≡ r = cc in subst (ReadCondition l room) same k

      go : FormDecided l → (b : Bool) → leb (count_in l) room ≡ b → ReadCondition l room r
      go (refusal t k) b x = given (bad_form t k)
      go (readable k) false x = given (short_columns k (leb-false (count_in l) room x))
      go (readable k) true x = refused_done e (clear_read k (leb-true (count_in l) room x))

  pub read_done : (n : ℕ) → read_outcome l room ≡ Ok n → Readable l × (count_in l ≡ n) × (n ≤ room)
  read_done n e = go (form_decided l) (leb (count_in l) room) refl
    where
      go : FormDecided l → (b : Bool) → leb (count_in l) room ≡ b → Readable l × (count_in l ≡ n) × (n ≤ room)
      go (refusal t k) b x = refused_done (condition_read t (bad_form t k)) e
      go (readable k) false x = refused_done (condition_read NoRoom (short_columns k (leb-false (count_in l) room x))) e
      go (readable k) true x =
          let f = clear_read k (leb-true (count_in l) room x) in
          let same : count_in l ≡ n = cc in
          (k, same, omega (arith, leb-true (count_in l) room x))
