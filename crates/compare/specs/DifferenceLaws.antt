-- The list of differences: each is listed once and nothing else is, in rising order; how many there are, and the list of the files the other way round.
use Rattle.std.specs.Prelude.{◌≡◌, refl, Bool, true, false, ℕ, zero, suc, ◌+◌, ◌-◌, ◌*◌, ◌≤◌, ◌<◌, min, leb, pos, take, drop, get_or}
use Rattle.std.proofs.Math.Path.{ap}
use Rattle.std.proofs.Common.{sym, ◌∙◌, arith, leb-true, leb-false}
use mathlib.Core.List.Memᴰ
use mathlib.Core.List.{List, [], ◌∷◌, map, map-append, append-eq-nil_iff, Memᴰ}
use Rattle.std.proofs.Math.Logic.{⊎_elim}
use Rattle.std.proofs.Math.Nat.{zero-add}
use Rattle.std.proofs.Math.ListN.{length, length-append}
use Rattle.records.specs.Files.{zero_record}
use Rattle.records.specs.declared.fields.Record.{Record}
use Rattle.compare.specs.Differences.{Entry, entry, field_count, only_first, only_second, in_step, of_record, extra, beyond, differences, numbers}
use Rattle.compare.specs.Comparison.{entry_length}
use Rattle.compare.specs.Rules.{Difference, differs, first_only, second_only, zero_entry, entry_at, Once, Rising, other_way}
use Rattle.compare.specs.InStepLaws.{in_step_length, in_step_has, in_step_from, in_step_swap, in_step_none, in_step_same}
use Rattle.compare.specs.EntryLaws.{record_listed, listed_record, length_of_record, record_swap, record_same, record_none, extra_listed, listed_extra, beyond_length, beyond_swap}
use Rattle.compare.specs.RisingLaws.{key, differences_rise, key_before}

-- what stands at a place is an element, and an element stands at a place
place_in : {A : Type 0} (l : List A) (j : ℕ) (d : A) → j < length l → Memᴰ (get_or l j d) l
place_in [] j d h = absurd (omega arith)
place_in (x ∷ l) zero d h = Memᴰ.head refl
place_in (x ∷ l) (suc j) d h = Memᴰ.tail (place_in l j d (omega arith))

in_place : {A : Type 0} {a : A} (l : List A) (d : A) → Memᴰ a l → (j : ℕ) × (j < length l) × (get_or l j d ≡ a)
in_place [] d m = elim m [ ]
in_place (x ∷ l) d (Memᴰ.head e) = (0, omega arith, sym e)
in_place (x ∷ l) d (Memᴰ.tail m) = let r = in_place l d m in (suc r.0, omega (arith, r.1), r.2)

module _ (rs ss : List Record) where
  -- a difference is an element of the list, and an element is a difference
  difference_in : {e : Entry} → Difference rs ss e → Memᴰ e (differences rs ss)
  unfolding differences beyond
  difference_in (differs i k h l w f) =
      let both = record_listed i (get_or rs i zero_record) (get_or ss i zero_record) k w f in
      Memᴰ.append_left (beyond (length rs) (length ss)) (in_step_has of_record 0 i rs ss zero_record h l (rw (zero-add i) both))
  difference_in (first_only i h l) =
      let run = extra_listed only_first (length ss) (length rs - length ss) i h (omega arith) in
      Memᴰ.append_right (in_step of_record 0 rs ss) (Memᴰ.append_left (extra only_second (length rs) (length ss - length rs)) run)
  difference_in (second_only i h l) =
      let run = extra_listed only_second (length rs) (length ss - length rs) i h (omega arith) in
      Memᴰ.append_right (in_step of_record 0 rs ss) (Memᴰ.append_right (extra only_first (length ss) (length rs - length ss)) run)

  in_difference : {e : Entry} → Memᴰ e (differences rs ss) → Difference rs ss e
  unfolding differences beyond
  in_difference {e} m = ⊎_elim both either (Memᴰ.append_cases (in_step of_record 0 rs ss) m)
    where
      both : Memᴰ e (in_step of_record 0 rs ss) → Difference rs ss e
      both x =
          let t = in_step_from of_record 0 rs ss zero_record x in
          let i = t.place in
          let l = listed_record i (get_or rs i zero_record) (get_or ss i zero_record) (rw zero-add at t.given) in
          rw l.3 (differs i l.0 t.in_first t.in_second l.1 l.2)

      run : (k i n : ℕ) → ((j : ℕ) → i ≤ j → j < i + n → Difference rs ss (entry j k (pos 0) (pos 0))) → Memᴰ e (extra k i n) → Difference rs ss e
      run k i n f x = let l = listed_extra k i n x in rw l.3 (f l.0 l.1 l.2)

      either : Memᴰ e (beyond (length rs) (length ss)) → Difference rs ss e
      either x =
          ⊎_elim
          (run only_first (length ss) (length rs - length ss) (λ j h l. first_only j h (omega arith)))
          (run only_second (length rs) (length ss - length rs) (λ j h l. second_only j h (omega arith)))
          (Memᴰ.append_cases (extra only_first (length ss) (length rs - length ss)) x)

  -- whatever is listed is a difference
  pub nothing_else : (j : ℕ) → j < length (differences rs ss) → Difference rs ss (entry_at (differences rs ss) j)
  nothing_else j h = in_difference (place_in (differences rs ss) j zero_entry h)

  field_number : {e : Entry} → Difference rs ss e → e.field < 10
  field_number (differs i k h l w f) = omega arith
  field_number (first_only i h l) = omega arith
  field_number (second_only i h l) = omega arith

  pub rising : Rising (differences rs ss)
  rising i j h l =
      let es = differences rs ss in
      key_before (entry_at es i) (entry_at es j) (field_number (nothing_else j l)) (differences_rise rs ss i j h l)

  -- of two equal entries neither stands later
  no_later : (i j : ℕ) → j < length (differences rs ss) → entry_at (differences rs ss) i ≡ entry_at (differences rs ss) j → j ≤ i
  no_later i j l e = go (leb j i) refl
    where
      go : (b : Bool) → leb j i ≡ b → j ≤ i
      go true t = leb-true j i t
      go false t = absurd (omega (arith, ap key e, differences_rise rs ss i j (leb-false j i t) l))

  pub listed_once : (e : Entry) → Difference rs ss e → Once (differences rs ss) e
  listed_once e d =
      let p = in_place (differences rs ss) zero_entry (difference_in d) in
      record { place = p.0; below = p.1; here = p.2; nowhere_else = λ j h f. let g = f ∙ sym p.2 in omega (arith, no_later j p.0 p.1 g, no_later p.0 j h (sym g)) }

  -- where nothing is listed, the lists are equal
  pub none_same : differences rs ss ≡ [] → rs ≡ ss
  unfolding differences
  none_same n =
      let both = append-eq-nil_iff.0 n in
      in_step_same of_record record_same 0 rs ss (omega (arith, ap length both.1, beyond_length (length rs) (length ss))) both.0

  -- the lists the other way round
  pub swapped : differences ss rs ≡ map other_way (differences rs ss)
  unfolding differences
  swapped =
      rw (in_step_swap of_record other_way 0 (length rs) rs ss (omega arith) (λ i r s h. record_swap i r s), beyond_swap (length rs) (length ss))
      (sym (map-append other_way (in_step of_record 0 rs ss) (beyond (length rs) (length ss))))

  -- no more than a record has fields for each record of the longer list
  pub most_differences : (n : ℕ) → length rs ≤ n → length ss ≤ n → length (differences rs ss) ≤ field_count * n
  unfolding differences
  most_differences n h l =
      omega (arith, length-append (in_step of_record 0 rs ss) (beyond (length rs) (length ss)), beyond_length (length rs) (length ss), in_step_length of_record field_count length_of_record 0 (min (length rs) (length ss)) rs ss (omega arith))

pub same_none : (rs : List Record) → differences rs rs ≡ []
unfolding differences beyond
same_none rs = let z : length rs - length rs ≡ 0 = omega arith in rw (in_step_none of_record record_none 0 rs, z)

-- the numbers of a list of entries: how many, and the four of each entry
pub numbers_length : (es : List Entry) → length (numbers es) ≡ entry_length * length es
numbers_length [] = omega arith
numbers_length (e ∷ es) = omega (arith, numbers_length es)

pub entry_numbers : (es : List Entry) (j : ℕ) → j < length es → take entry_length (drop (entry_length * j) (numbers es)) ≡ numbers (entry_at es j ∷ [])
entry_numbers [] j h = absurd (omega arith)
entry_numbers (e ∷ es) zero h = refl
entry_numbers (e ∷ es) (suc j) h =
    let on : entry_length * suc j ≡ suc (suc (suc (suc (entry_length * j)))) = omega arith in
    rw on (entry_numbers es j (omega arith))
