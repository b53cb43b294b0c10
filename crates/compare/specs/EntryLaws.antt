-- Laws of a record's fields, of the entries of one record that both lists have, and of the records that only one list has.
use Rattle.std.specs.Prelude.{◌≡◌, Bool, true, false, cond, ℕ, zero, suc, ◌+◌, ◌-◌, ◌≤◌, ◌<◌, leb, eqb, ℤ, pos, nat_abs, length, get_or}
use Rattle.std.proofs.Math.Path.{refl, ap}
use Rattle.std.proofs.Common.{sym, ◌∙◌, arith, length-append, leb-true, leb-false, eqb-true, ne_eqb}
use mathlib.Core.List.Memᴰ
use mathlib.Core.List.{List, [], ◌∷◌, ◌++◌, map, append-nil, cons-ne-nil, Memᴰ}
use Rattle.std.proofs.Math.Nat.{zero-add}
use Rattle.std.proofs.lemmas.Bool.{eqb-false}
use Rattle.arith.specs.Same.{same}
use Rattle.arith.specs.SameLaws.{same_true, same_self, same_false, false_same, same_either}
use Rattle.arith.specs.TestLaws.{cond_both}
use Rattle.records.specs.Bytes.{as_unsigned}
use Rattle.records.specs.Fields.{field_widths, numbers_of}
use Rattle.records.specs.declared.fields.Record.{Record}
use Rattle.compare.specs.Differences.{Entry, entry, contents, field_count, only_first, only_second, of_field, of_record, extra, beyond}
use Rattle.compare.specs.InStepLaws.{in_step_length, in_step_has, in_step_from, in_step_swap, in_step_none, in_step_same}
use Rattle.compare.specs.Rules.{content_in, other_file, other_way}

-- the record with these contents
abbrev record_with : List ℤ → Record
record_with l =
    record {
      u = nat_abs (get_or l 0 (pos 0));
      v = nat_abs (get_or l 1 (pos 0));
      place = nat_abs (get_or l 2 (pos 0));
      low = nat_abs (get_or l 3 (pos 0));
      high = nat_abs (get_or l 4 (pos 0));
      duv = get_or l 5 (pos 0);
      steps = nat_abs (get_or l 6 (pos 0));
      class = nat_abs (get_or l 7 (pos 0));
    }

-- how many entries a field has: one at most
pub field_length : (i k : ℕ) (x y : ℤ) → length (of_field i k x y) ≡ cond (same x y) 0 1
field_length i k x y = go (same x y)
  where
    go : (b : Bool) → length (cond b [] (entry i k x y ∷ [])) ≡ cond b 0 1
    go true = refl
    go false = refl

one_entry : (i k : ℕ) (x y : ℤ) → length (of_field i k x y) ≤ 1
one_entry i k x y = cond_both (λ (es : List Entry). length es ≤ 1) (same x y) (omega arith) (omega arith)

-- the entries of a record that both lists have
listed_field : {e : Entry} (i k : ℕ) (x y : ℤ) → Memᴰ e (of_field i k x y) → (e ≡ entry i k x y) × (x ≡ y → ⊥)
listed_field {e} i k x y m = go (same x y) refl m
  where
    go : (b : Bool) → same x y ≡ b → Memᴰ e (cond b [] (entry i k x y ∷ [])) → (e ≡ entry i k x y) × (x ≡ y → ⊥)
    go true s m = absurd (Memᴰ.not-nil m)
    go false s m = (Memᴰ.eq_of_singleton m, same_false x y s)

-- a field without an entry has the same contents
field_same : (i k : ℕ) (x y : ℤ) → of_field i k x y ≡ [] → x ≡ y
field_same i k x y n = go (same x y) refl n
  where
    go : (b : Bool) → same x y ≡ b → cond b [] (entry i k x y ∷ []) ≡ [] → x ≡ y
    go true s n = same_true x y s
    go false s n = absurd (cons-ne-nil (entry i k x y) [] n)

field_swap : (i k : ℕ) (x y : ℤ) → k < field_count → of_field i k y x ≡ map other_way (of_field i k x y)
field_swap i k x y h = rw (same_either y x) (go (same x y))
  where
    go : (b : Bool) → cond b [] (entry i k y x ∷ []) ≡ map other_way (cond b [] (entry i k x y ∷ []))
    go true = refl
    go false = rw (ne_eqb k only_first (omega arith), ne_eqb k only_second (omega arith))

module _ (i : ℕ) (r s : Record) where
  pub record_listed : (k : ℕ) → k < field_count → (content_in r k ≡ content_in s k → ⊥) → Memᴰ (entry i k (content_in r k) (content_in s k)) (of_record i r s)
  unfolding of_record
  record_listed k h f =
      in_step_has (of_field i) 0 k (contents r) (contents s) (pos 0) h h (rw (zero-add k, false_same (content_in r k) (content_in s k) f) (Memᴰ.head refl))

  pub listed_record : {e : Entry} → Memᴰ e (of_record i r s) → (k : ℕ) × (k < field_count) × (content_in r k ≡ content_in s k → ⊥) × (e ≡ entry i k (content_in r k) (content_in s k))
  unfolding of_record
  listed_record m =
      let t = in_step_from (of_field i) 0 (contents r) (contents s) (pos 0) m in
      let k = t.place in
      let l = listed_field i k (content_in r k) (content_in s k) (rw zero-add at t.given) in
      (k, t.in_first, l.1, l.0)

  pub length_of_record : length (of_record i r s) ≤ field_count
  unfolding of_record
  length_of_record =
      omega (arith, in_step_length (of_field i) 1 (one_entry i) 0 field_count (contents r) (contents s) (omega arith))

  pub record_swap : of_record i s r ≡ map other_way (of_record i r s)
  unfolding of_record
  record_swap = in_step_swap (of_field i) other_way 0 field_count (contents r) (contents s) (omega arith) (field_swap i)

  -- a record without entries is the same in both lists
  pub record_same : of_record i r s ≡ [] → r ≡ s
  unfolding of_record
  record_same n = ap record_with (in_step_same (of_field i) (field_same i) 0 (contents r) (contents s) refl n)

pub record_none : (i : ℕ) (r : Record) → of_record i r r ≡ []
unfolding of_record
record_none i r = in_step_none (of_field i) (λ k x. rw (same_self x)) 0 (contents r)

-- numbers as the unsigned ones with the same bytes, each of its own width
abbrev pub all_unsigned : (widths : List ℕ) → List ℤ → List ℕ
all_unsigned [] zs = []
all_unsigned (w ∷ ws) [] = []
all_unsigned (w ∷ ws) (z ∷ zs) = as_unsigned w z ∷ all_unsigned ws zs

-- the fields stand in the order of a record's bytes: as unsigned numbers their contents are those that are packed, whatever the width d of Duv
pub in_byte_order : (d : ℕ) (r : Record) → numbers_of d r ≡ all_unsigned (field_widths d) (contents r)
in_byte_order d r = refl

-- the entries of records that only one list has
pub extra_listed : (k i n j : ℕ) → i ≤ j → j < i + n → Memᴰ (entry j k (pos 0) (pos 0)) (extra k i n)
extra_listed k i zero j h l = absurd (omega arith)
extra_listed k i (suc n) j h l = go (eqb i j) refl (λ w. extra_listed k (suc i) n j w (omega arith))
  where
    go : (b : Bool) → eqb i j ≡ b → (i < j → Memᴰ (entry j k (pos 0) (pos 0)) (extra k (suc i) n)) → Memᴰ (entry j k (pos 0) (pos 0)) (extra k i (suc n))
    go true e later = Memᴰ.head (ap (λ (z : ℕ). entry z k (pos 0) (pos 0)) (sym (eqb-true i j e)))
    go false e later = let f = eqb-false i j e in Memᴰ.tail (later (omega arith))

pub listed_extra : {e : Entry} (k i n : ℕ) → Memᴰ e (extra k i n) → (j : ℕ) × (i ≤ j) × (j < i + n) × (e ≡ entry j k (pos 0) (pos 0))
listed_extra k i zero m = absurd (Memᴰ.not-nil m)
listed_extra k i (suc n) (Memᴰ.head e) = (i, omega arith, omega arith, e)
listed_extra k i (suc n) (Memᴰ.tail m) = let r = listed_extra k (suc i) n m in (r.0, omega (arith, r.1), omega (arith, r.2), r.3)

pub extra_length : (k i n : ℕ) → length (extra k i n) ≡ n
extra_length k i zero = refl
extra_length k i (suc n) = ap suc (extra_length k (suc i) n)

extra_swap : (k i n : ℕ) → map other_way (extra k i n) ≡ extra (other_file k) i n
extra_swap k i zero = refl
extra_swap k i (suc n) = ap (λ (es : List Entry). entry i (other_file k) (pos 0) (pos 0) ∷ es) (extra_swap k (suc i) n)

-- what holds of the run that is not empty holds of both runs together
pub beyond_run : (P : List Entry → Type 0) (m n : ℕ) → (n ≤ m → P (extra only_first n (m - n))) → (m ≤ n → P (extra only_second m (n - m))) → P (beyond m n)
unfolding beyond
beyond_run P m n f g = go (leb n m) refl
  where
    go : (b : Bool) → leb n m ≡ b → P (extra only_first n (m - n) ++ extra only_second m (n - m))
    go true e = let h = leb-true n m e in let z : n - m ≡ 0 = omega arith in rw (z, append-nil) (f h)
    go false e = let h = leb-false n m e in let z : m - n ≡ 0 = omega arith in rw z (g (omega arith))

pub beyond_length : (m n : ℕ) → length (beyond m n) ≡ m - n + (n - m)
unfolding beyond
beyond_length m n = length-append (extra only_first n (m - n)) (extra only_second m (n - m)) ∙ omega (arith, extra_length only_first n (m - n), extra_length only_second m (n - m))

pub beyond_swap : (m n : ℕ) → beyond n m ≡ map other_way (beyond m n)
unfolding beyond
beyond_swap m n = beyond_run (λ (es : List Entry). beyond n m ≡ map other_way es) m n first second
  where
    first : n ≤ m → beyond n m ≡ map other_way (extra only_first n (m - n))
    first h = let z : n - m ≡ 0 = omega arith in rw z (sym (extra_swap only_first n (m - n)))

    second : m ≤ n → beyond n m ≡ map other_way (extra only_second m (n - m))
    second h = let z : m - n ≡ 0 = omega arith in rw (z, append-nil) (sym (extra_swap only_second m (n - m)))
