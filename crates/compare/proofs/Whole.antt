-- The differences of two files by their parts: the records that both have, and those that only one has.
use Rattle.std.proofs.Common.{◌≡◌, refl, ap, List, ◌++◌, ℕ, ◌+◌, ◌-◌, ◌*◌, ◌≤◌, ◌<◌, ℤ, min, length, take, get_or, length-append, arith}
use Rattle.records.specs.Files.{zero_record, records_of}
use Rattle.records.specs.declared.fields.Record.{Record}
use Rattle.compare.specs.Differences.{Entry, field_count, only_first, only_second, in_step, of_record, extra, beyond, differences}
use Rattle.compare.specs.InStepLaws.{in_step_short, in_step_length}
use Rattle.compare.specs.EntryLaws.{length_of_record, extra_length}
use Rattle.compare.specs.Comparison.{file_differences}
use Rattle.compare.specs.Code.Puts.{Put}
use Rattle.compare.proofs.Turns.{turn_length, turn_within, turn_put, record_as_long}

-- the entries of the first i records of two files
abbrev pub entries_to : ℕ → (a b : List ℕ) → List Entry
entries_to i a b = in_step of_record 0 (take i (records_of a)) (take i (records_of b))

module _ (a b : List ℕ) where
  abbrev pub all : List Entry
  all = in_step of_record 0 (records_of a) (records_of b)

  abbrev pub m : ℕ
  m = length (records_of a)

  abbrev pub n : ℕ
  n = length (records_of b)

  -- those of as many as both have are all
  pub entries_all : (i : ℕ) → min m n ≤ i → all ≡ entries_to i a b
  entries_all i h = in_step_short of_record 0 i (records_of a) (records_of b) h

  pub parts : file_differences a b ≡ all ++ (extra only_first n (m - n) ++ extra only_second m (n - m))
  unfolding file_differences differences beyond
  parts = refl

  pub parts_length : length (file_differences a b) ≡ length all + (m - n) + (n - m)
  parts_length =
      omega (arith, ap length parts, length-append all (extra only_first n (m - n) ++ extra only_second m (n - m)), length-append (extra only_first n (m - n)) (extra only_second m (n - m)), extra_length only_first n (m - n), extra_length only_second m (n - m))

  -- a field of each record that both have at most
  pub both_most : length all ≤ field_count * min m n
  both_most = in_step_length of_record field_count length_of_record 0 (min m n) (records_of a) (records_of b) (omega arith)

  -- no more than all that could differ
  pub parts_most : (both : ℕ) → both ≡ min m n → length (file_differences a b) ≤ field_count * both + ((m - both) + (n - both))
  parts_most both e = rw e (omega (arith, parts_length, both_most))

  -- record i of each comes next
  module _ (i : ℕ) (h : i < min m n) (r s : Record) (e : r ≡ get_or (records_of a) i zero_record) (f : s ≡ get_or (records_of b) i zero_record) where
    pub next_length : length (entries_to (i + 1) a b) ≡ length (entries_to i a b) + length (of_record 0 r s)
    next_length =
        let t = turn_length of_record (records_of a) (records_of b) zero_record i (omega arith) (omega arith) in
        omega (arith, rw (← e, ← f) at t, record_as_long i 0 r s)

    pub next_within : length (entries_to i a b) + length (of_record i r s) ≤ length all
    next_within = rw (← e, ← f) at (turn_within of_record (records_of a) (records_of b) zero_record i (omega arith) (omega arith))

    pub next_put : {old mid new : List ℤ} {at middle end : ℕ} → Put old mid at middle (entries_to i a b) → Put mid new middle end (of_record i r s) → Put old new at end (entries_to (i + 1) a b)
    next_put p q = turn_put of_record (records_of a) (records_of b) zero_record i (omega arith) (omega arith) p (rw (e, f) at q)
