-- A comparison answers what its rule says, and every answer has its rule; what the target then holds, and the files the other way round.
use Rattle.std.specs.Prelude.{◌≡◌, Bool, true, false, List, [], ◌∷◌, map, ℕ, ◌*◌, ◌≤◌, ◌<◌, leb, ℤ, take, drop, Result, Ok}
use Rattle.std.proofs.Math.Path.{refl}
use Rattle.std.proofs.Common.{sym, subst, ◌∙◌, arith, length-drop}
use Rattle.std.proofs.Math.ListN.{length}
use Rattle.std.proofs.lemmas.List.{length-map, drop-append-le, take-append-le}
use Rattle.std.proofs.Math.Seq.{drop-append_seam}
use borrow.Author.Tests.{leb-true, leb-false, le-leb, lt-leb}
use Rattle.records.specs.BytesLaws.{Bytes}
use Rattle.records.specs.Fields.{duv_width}
use Rattle.records.specs.Files.{most_written, most_read, file_of, record_length_in, count_in, records_of}
use Rattle.records.specs.RoundTripLaws.{length_records, read_again}
use Rattle.records.specs.Conditions.{Readable}
use Rattle.records.specs.RefusalLaws.{most_read_lem, condition_form, readable_form, FormDecided, refusal, readable, form_decided}
use Rattle.compare.specs.Differences.{field_count, numbers}
use Rattle.compare.specs.DifferenceLaws.{same_none, swapped, most_differences, numbers_length, entry_numbers}
use Rattle.compare.specs.Comparison.{file_differences, entry_length, compare_outcome, listed_into}
use Rattle.compare.specs.Rules.{entry_at, other_way, Rule, bad_first, bad_second, no_room, listed_all}
use Rattle.compare.specs.declared.NotCompared.{NotCompared}

module _ (a b : List ℕ) (room : ℕ) where
  pub rule_outcome : (o : Result ℕ NotCompared) → Rule a b room o → compare_outcome a b room ≡ o
  unfolding compare_outcome
  rule_outcome o (bad_first r h) = rw (condition_form a r h) refl
  rule_outcome o (bad_second r k h) = rw (readable_form a k, condition_form b r h) refl
  rule_outcome o (no_room k l h) = rw (readable_form a k, readable_form b l, lt-leb (entry_length * length (file_differences a b)) room h) refl
  rule_outcome o (listed_all k l h) = rw (readable_form a k, readable_form b l, le-leb (entry_length * length (file_differences a b)) room h) refl

  pub outcome_rule : (o : Result ℕ NotCompared) → compare_outcome a b room ≡ o → Rule a b room o
  outcome_rule o e = go (form_decided a) (form_decided b) (leb (entry_length * length (file_differences a b)) room) refl
    where
      given : {p : Result ℕ NotCompared} → Rule a b room p → Rule a b room o
      given {p} k = subst (Rule a b room) (sym (rule_outcome p k) ∙ e) k

      go : FormDecided a → FormDecided b → (t : Bool) → leb (entry_length * length (file_differences a b)) room ≡ t → Rule a b room o
      go (refusal r h) g t s = given (bad_first r h)
      go (readable k) (refusal r h) t s = given (bad_second r k h)
      go (readable k) (readable l) false s = given (no_room k l (leb-false (entry_length * length (file_differences a b)) room s))
      go (readable k) (readable l) true s = given (listed_all k l (leb-true (entry_length * length (file_differences a b)) room s))

-- two files have at most 28,800 differences, whichever record lengths they have
pub most_listed : (a b : List ℕ) → Readable a → Readable b → length (file_differences a b) ≤ field_count * most_read
unfolding file_differences
most_listed a b k l =
    most_differences (records_of a) (records_of b) most_read (omega (arith, length_records a k, k.few, most_read_lem (record_length_in a))) (omega (arith, length_records b l, l.few, most_read_lem (record_length_in b)))

-- what the target then holds: the four numbers of entry j from 4·j on, and beyond all entries what it held
module _ (a b : List ℕ) (old : List ℤ) (n : ℕ) where
  pub target_entry : (j : ℕ) → j < length (file_differences a b) → take entry_length (drop (entry_length * j) (listed_into (Ok n) a b old)) ≡ numbers (entry_at (file_differences a b) j ∷ [])
  target_entry j h =
      let es = file_differences a b in
      let m = numbers_length es in
      let l = length-drop (entry_length * j) (numbers es) in
      rw (drop-append-le (entry_length * j) (numbers es) (drop (length (numbers es)) old) (omega arith))
      (take-append-le entry_length (drop (entry_length * j) (numbers es)) (drop (length (numbers es)) old) (omega arith) ∙ entry_numbers es j h)

  pub target_beyond : drop (entry_length * length (file_differences a b)) (listed_into (Ok n) a b old) ≡ drop (entry_length * length (file_differences a b)) old
  target_beyond = rw (← numbers_length (file_differences a b)) (drop-append_seam (numbers (file_differences a b)) (drop (length (numbers (file_differences a b))) old))

-- the files the other way round
pub files_swapped : (a b : List ℕ) → file_differences b a ≡ map other_way (file_differences a b)
unfolding file_differences
files_swapped a b = swapped (records_of a) (records_of b)

pub outcome_swapped : (a b : List ℕ) (room : ℕ) → Readable a → Readable b → compare_outcome b a room ≡ compare_outcome a b room
unfolding compare_outcome
outcome_swapped a b room k l = rw (readable_form a k, readable_form b l, files_swapped a b, length-map (file_differences a b) other_way) refl

-- a file of either record length and the one that is written of its records have no difference
pub rewritten_same : (l : List ℕ) → Bytes l → Readable l → count_in l ≤ most_written → file_differences l (file_of duv_width (records_of l)) ≡ []
unfolding file_differences
rewritten_same l b k few =
    rw (read_again l b k few).records (same_none (records_of l))
