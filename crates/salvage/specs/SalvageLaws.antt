-- Laws of a salvage: that every record and every byte is counted, which numbers are listed, that the new file is read to the records kept, what
-- is kept of a file that was cut, and that salvaging again changes nothing.
use Rattle.std.specs.Prelude.{◌≡◌, refl, Bool, true, false, List, [], ℕ, suc, ◌+◌, ◌-◌, ◌*◌, ◌/◌, ◌≤◌, ◌<◌, length, take, Ok}
use Rattle.std.proofs.Common.{sym, ◌∙◌, arith, length-take, get_or-take}
use Rattle.std.proofs.Math.Path.{ap}
use Rattle.std.proofs.lemmas.Bool.{false≢true}
use Rattle.std.proofs.Math.Nat.{div-add-mod}
use Rattle.std.proofs.Math.ListN.{get_or}
use Rattle.arith.specs.TestLaws.{untrue, cond_both}
use Rattle.records.specs.BytesLaws.{Bytes}
use Rattle.records.specs.Fields.{duv_width, record_length_of, duv_width_of}
use Rattle.records.specs.Files.{most_written, trailer_length, file_of, file_length, whole_records, zero_record}
use Rattle.records.specs.FilesLaws.{AllNarrow, empty, first, length_file, length_records_in}
use Rattle.records.specs.Columns.{over}
use Rattle.records.specs.Conditions.{Known, of_20}
use Rattle.records.specs.WholeLaws.{cut_records, whole_written}
use Rattle.records.specs.RoundTrips.{SameList}
use Rattle.records.specs.RoundTripLaws.{read_written, known_narrow}
use Rattle.records.specs.declared.fields.Record.{Record}
use Rattle.salvage.specs.Passing.{passing, Listed}
use Rattle.salvage.specs.PassingLaws.{all_counted, passing_passes, each_passing, each_failing, listed_fails, fails_listed, failing_rise}
use Rattle.salvage.specs.Salvaging.{matches, kept_of, dropped_of, kept_in, dropped_in, left_over, counts}
use Rattle.salvage.specs.Rules.{Match, AllMatch, Unmatched, Few, salvaged, Again}
use Rattle.salvage.specs.MatchLaws.{match_true, true_match}
use Rattle.salvage.specs.RuleLaws.{rule_outcome}

-- every record is either kept or dropped; where its numbers begin is left to the definition, here and below
pub kept_or_dropped : (es : List ℕ) (rs : List Record) → length (kept_of es rs) + length (dropped_of es rs) ≡ length rs
unfolding kept_of dropped_of
kept_or_dropped es rs = all_counted (matches es) _ rs

-- every record that is kept matches
pub kept_match : (es : List ℕ) (rs : List Record) → AllMatch es (kept_of es rs)
unfolding kept_of
kept_match es rs i h = match_true es (get_or (kept_of es rs) i zero_record) (passing_passes (matches es) rs zero_record i h)

module _ (es : List ℕ) (long : ℕ) (l : List ℕ) where
  whole_length : length (whole_records long l) ≡ length l / long
  whole_length = length_records_in (duv_width_of long) (length l / long) l

  -- those kept and those dropped are the whole records
  pub all_records : length (kept_in es long l) + length (dropped_in es long l) ≡ length l / long
  all_records = kept_or_dropped es (whole_records long l) ∙ whole_length

  -- with the bytes left over they are all bytes
  pub all_bytes : long * (length (kept_in es long l) + length (dropped_in es long l)) + left_over long l ≡ length l
  all_bytes = rw all_records (div-add-mod (length l) long)

  abbrev whole : ℕ → Record
  whole n = get_or (whole_records long l) n zero_record

  from_first : (n : ℕ) → n - 0 ≡ n
  from_first n = omega arith

  unmatched : (n : ℕ) → matches es (whole n) ≡ false → Match es (whole n) → ⊥
  unmatched n e m = false≢true (sym e ∙ true_match es (whole n) m)

  -- each number listed is that of a whole record that does not match
  pub dropped_fails : (j : ℕ) → j < length (dropped_in es long l) → Unmatched es long l (get_or (dropped_in es long l) j 0)
  unfolding dropped_of
  dropped_fails j h =
      let n = get_or (dropped_in es long l) j 0 in
      let f = listed_fails (matches es) _ (whole_records long l) zero_record j h in
      record { whole = omega (arith, f.to, whole_length); fails = unmatched n (ap (λ (k : ℕ). matches es (whole k)) (sym (from_first n)) ∙ f.fails) }

  -- and the number of each such record is listed
  pub fails_dropped : (n : ℕ) → Unmatched es long l n → Listed n (dropped_in es long l)
  unfolding dropped_of
  fails_dropped n f =
      fails_listed (matches es) _ (whole_records long l) zero_record n (record { from = omega arith; to = omega (arith, f.whole, whole_length); fails = ap (λ (k : ℕ). matches es (whole k)) (from_first n) ∙ untrue (matches es (whole n)) (λ e. f.fails (match_true es (whole n) e)) })

  -- the numbers listed rise
  pub dropped_rise : (j k : ℕ) → j < k → k < length (dropped_in es long l) → get_or (dropped_in es long l) j 0 < get_or (dropped_in es long l) k 0
  unfolding dropped_of
  dropped_rise = failing_rise (matches es) _ (whole_records long l)

narrow_passing : {d : ℕ} {rs : List Record} (f : Record → Bool) → AllNarrow d rs → AllNarrow d (passing f rs)
narrow_passing f empty = empty
narrow_passing {d} f (first {r} n ns) = let ms = narrow_passing f ns in cond_both (AllNarrow d) (f r) (first n ms) ms

module _ (es : List ℕ) (long : ℕ) (l : List ℕ) (k : Known long) (b : Bytes l) where
  -- the records kept of any bytes are no wider than the fields of those that are written
  pub kept_narrow : AllNarrow duv_width (kept_in es long l)
  unfolding kept_of
  kept_narrow = narrow_passing (matches es) (known_narrow long (length l / long) l k b)

  -- so the file that is written of them is read to them
  pub kept_back : length (kept_in es long l) ≤ most_written → SameList duv_width (kept_in es long l)
  kept_back few = read_written 3 (kept_in es long l) (of_20 refl) kept_narrow few

-- where all records match, all are kept and none is dropped
module _ (es : List ℕ) (rs : List Record) (h : AllMatch es rs) where
  passes : (i : ℕ) → i < length rs → matches es (get_or rs i zero_record) ≡ true
  passes i b = true_match es (get_or rs i zero_record) (h i b)

  all_kept : kept_of es rs ≡ rs
  unfolding kept_of
  all_kept = each_passing (matches es) rs zero_record passes

  none_dropped : dropped_of es rs ≡ []
  unfolding dropped_of
  none_dropped = each_failing (matches es) _ rs zero_record passes

first_match : (es : List ℕ) (n : ℕ) (rs : List Record) → AllMatch es rs → AllMatch es (take n rs)
first_match es n rs h i b = let l = length-take n rs in rw (get_or-take n rs i zero_record (omega arith)) (h i (omega arith))

-- the file of a list, of either record length and cut at any byte
module _ (es : List ℕ) (d m : ℕ) (rs : List Record) (k : Known (record_length_of (suc d))) (ns : AllNarrow (suc d) rs) where
  -- of the records before the cut, those that match are kept, and the numbers of the others are listed
  pub cut_kept : kept_in es (record_length_of (suc d)) (take m (file_of (suc d) rs)) ≡ kept_of es (take (m / record_length_of (suc d)) rs)
  cut_kept = ap (kept_of es) (cut_records d m rs k ns)

  pub cut_dropped : dropped_in es (record_length_of (suc d)) (take m (file_of (suc d) rs)) ≡ dropped_of es (take (m / record_length_of (suc d)) rs)
  cut_dropped = ap (dropped_of es) (cut_records d m rs k ns)

  -- where all match, every record before the cut is kept, and none is dropped
  pub cut_all : AllMatch es rs → (kept_in es (record_length_of (suc d)) (take m (file_of (suc d) rs)) ≡ take (m / record_length_of (suc d)) rs) × (dropped_in es (record_length_of (suc d)) (take m (file_of (suc d) rs)) ≡ [])
  cut_all h =
      let n = m / record_length_of (suc d) in
      (cut_kept ∙ all_kept es (take n rs) (first_match es n rs h), cut_dropped ∙ none_dropped es (take n rs) (first_match es n rs h))

-- the file of what was kept
module _ (es : List ℕ) (long : ℕ) (l : List ℕ) (k : Known long) (b : Bytes l) where
  again_whole : whole_records (record_length_of duv_width) (file_of duv_width (kept_in es long l)) ≡ kept_in es long l
  again_whole = whole_written 3 (kept_in es long l) (of_20 refl) (kept_narrow es long l k b)

  -- all of it is kept again
  again_kept : kept_in es (record_length_of duv_width) (file_of duv_width (kept_in es long l)) ≡ kept_in es long l
  again_kept = ap (kept_of es) again_whole ∙ all_kept es (kept_in es long l) (kept_match es (whole_records long l))

  -- none of it is dropped
  again_dropped : dropped_in es (record_length_of duv_width) (file_of duv_width (kept_in es long l)) ≡ []
  again_dropped = ap (dropped_of es) again_whole ∙ none_dropped es (kept_in es long l) (kept_match es (whole_records long l))

  -- its trailer is left over
  again_left : left_over (record_length_of duv_width) (file_of duv_width (kept_in es long l)) ≡ trailer_length
  again_left = omega (arith, length_file duv_width (kept_in es long l))

-- so with valid edges it is salvaged again to itself, where the target has room for it
pub again : (es : List ℕ) (long : ℕ) (l old numbers : List ℕ) → Few es long l → Bytes l → file_length duv_width (length (kept_in es long l)) ≤ length old →
    Again es (file_of duv_width (kept_in es long l)) (length (kept_in es long l)) old numbers
again es long l old numbers f b room =
    let file = file_of duv_width (kept_in es long l) in
    let known = f.taken.known in
    let kept = again_kept es long l known b in
    let dropped = again_dropped es long l known b in
    let count = ap length kept in
    let none = ap length dropped in
    let few : Few es (record_length_of duv_width) file = record { taken = record { edges = f.taken.edges; known = of_20 refl }; few = omega (arith, count, f.few) } in
    record {
      outcome =
          rule_outcome es (record_length_of duv_width) file (length old) (length numbers) _ (salvaged few (omega (arith, count, room)) (omega (arith, none)))
          ∙ (λ i. Ok (counts (count i) (none i) (again_left es long l known b i)));
      target = ap (λ (rs : List Record). over (file_of duv_width rs) old) kept;
      list = ap (λ (ns : List ℕ). over ns numbers) dropped;
    }
