-- One record that is kept or dropped, and one turn of a loop over the records of a list.
use Rattle.std.proofs.Common.{◌≡◌, refl, sym, ap, ◌∙◌, true, false, List, [], ◌∷◌, ◌++◌, append-nil, ℕ, ◌+◌, ◌-◌, ◌*◌, ◌/◌, ◌≤◌, ◌<◌, length, set, take, get_or, length-append, length-take, add-one, lt-ltb, arith}
use Rattle.std.proofs.lemmas.List.Edits.{sets}
use Rattle.std.proofs.Math.Seq.{take-suc, length-sets}
use Rattle.records.specs.Fields.{duv_width, record_length_of, record_bytes}
use Rattle.records.specs.Files.{records_bytes, zero_record}
use Rattle.records.specs.StoreLaws.{then, records_stored}
use Rattle.records.specs.Transfer.{stored_into}
use Rattle.records.specs.declared.fields.Record.{Record}
use Rattle.salvage.specs.Passing.{failing}
use Rattle.salvage.specs.PassingLaws.{passing_append, failing_append, fewer_passing, fewer_failing}
use Rattle.salvage.specs.Salvaging.{matches, kept_of, dropped_of}
use Rattle.salvage.specs.SalvageLaws.{kept_or_dropped}
use Rattle.salvage.specs.Code.Sorting.{HasRoom, Adds, Sorted}

-- a record that matches, and one that does not
module _ (es : List ℕ) (r : Record) (i : ℕ) where
  pub one_kept : matches es r ≡ true → (kept_of es (r ∷ []) ≡ r ∷ []) × (failing (matches es) i (r ∷ []) ≡ [])
  unfolding kept_of
  one_kept e = rw e (refl, refl)

  pub one_dropped : matches es r ≡ false → (kept_of es (r ∷ []) ≡ []) × (failing (matches es) i (r ∷ []) ≡ i ∷ [])
  unfolding kept_of
  one_dropped e = rw e (refl, refl)

  module _ (kept : ℕ) (file list : List ℕ) (h : HasRoom es r i kept file list) where
    pub adds_kept : {file' : List ℕ} → matches es r ≡ true → file' ≡ stored_into kept r file → Adds es r i kept file file' list list (kept + 1)
    adds_kept e f =
        let one = one_kept e in
        let room : kept < length file / record_length_of duv_width = omega (arith, h.in_file, ap length one.0) in
        record {
          count = omega (arith, ap length one.0);
          to_file = f ∙ rw (lt-ltb kept (length file / record_length_of duv_width) room, one.0, append-nil (record_bytes duv_width r)) refl;
          to_list = rw one.1 refl;
        }

    pub adds_dropped : matches es r ≡ false → Adds es r i kept file file list (set list (i - kept) i) kept
    adds_dropped e =
        let one = one_dropped e in
        record { count = omega (arith, ap length one.0); to_file = rw one.0 refl; to_list = rw one.1 refl }

-- no record yet
pub none_kept : (es : List ℕ) (rs : List Record) → 0 ≡ length (kept_of es (take 0 rs))
unfolding kept_of
none_kept es rs = refl

pub none_sorted : (es file list : List ℕ) (rs : List Record) → Sorted es (take 0 rs) file file list list 0
unfolding kept_of dropped_of
none_sorted es file list rs = record { count = refl; in_file = refl; in_list = refl }

-- the targets keep their lengths
pub sorted_lengths : {es : List ℕ} {rs : List Record} {file file' list list' : List ℕ} {n : ℕ} → Sorted es rs file file' list list' n → (length file' ≡ length file) × (length list' ≡ length list)
sorted_lengths {es} {rs} {file} {list = list} s =
    (ap length s.in_file ∙ length-sets file 0 (records_bytes duv_width (kept_of es rs)), ap length s.in_list ∙ length-sets list 0 (dropped_of es rs))

-- record i comes next
module _ (es : List ℕ) (rs : List Record) (i : ℕ) (h : i < length rs) (r : Record) (e : r ≡ get_or rs i zero_record) where
  next : take (i + 1) rs ≡ take i rs ++ (r ∷ [])
  next = rw (add-one i, e) (take-suc rs i zero_record h)

  kept_next : kept_of es (take (i + 1) rs) ≡ kept_of es (take i rs) ++ kept_of es (r ∷ [])
  unfolding kept_of
  kept_next = ap (kept_of es) next ∙ passing_append (matches es) (take i rs) (r ∷ [])

  dropped_next : dropped_of es (take (i + 1) rs) ≡ dropped_of es (take i rs) ++ failing (matches es) i (r ∷ [])
  unfolding dropped_of
  dropped_next =
      let at : 0 + length (take i rs) ≡ i = omega (arith, length-take i rs) in
      ap (dropped_of es) next ∙ failing_append (matches es) 0 (take i rs) (r ∷ [])
      ∙ ap (λ (j : ℕ). dropped_of es (take i rs) ++ failing (matches es) j (r ∷ [])) at

  pub count_next : length (kept_of es (take (i + 1) rs)) ≡ length (kept_of es (take i rs)) + length (kept_of es (r ∷ []))
  count_next = ap length kept_next ∙ length-append (kept_of es (take i rs)) (kept_of es (r ∷ []))

  count_dropped : length (dropped_of es (take (i + 1) rs)) ≡ length (dropped_of es (take i rs)) + length (failing (matches es) i (r ∷ []))
  count_dropped = ap length dropped_next ∙ length-append (dropped_of es (take i rs)) (failing (matches es) i (r ∷ []))

  -- what it adds is part of the whole
  kept_within : length (kept_of es (take i rs)) + length (kept_of es (r ∷ [])) ≤ length (kept_of es rs)
  unfolding kept_of
  kept_within = omega (arith, count_next, fewer_passing (matches es) (i + 1) rs)

  dropped_within : length (dropped_of es (take i rs)) + length (failing (matches es) i (r ∷ [])) ≤ length (dropped_of es rs)
  unfolding dropped_of
  dropped_within = omega (arith, count_dropped, fewer_failing (matches es) (i + 1) 0 rs)

  module _ {file₀ file list₀ list : List ℕ} {kept : ℕ} (s : Sorted es (take i rs) file₀ file list₀ list kept) where
    place_dropped : (kept ≤ i) × (i - kept ≡ length (dropped_of es (take i rs)))
    place_dropped =
        let all = kept_or_dropped es (take i rs) in
        let size = length-take i rs in
        (omega (arith, s.count, all, size), omega (arith, s.count, all, size))

    pub next_room : record_length_of duv_width * length (kept_of es rs) ≤ length file₀ → length (dropped_of es rs) ≤ length list₀ → HasRoom es r i kept file list
    next_room f g =
        let same = sorted_lengths s in
        record {
          some = place_dropped.0;
          in_file = omega (arith, s.count, kept_within, same.0);
          in_list = omega (arith, place_dropped.1, dropped_within, same.1);
        }

    pub next_sorted : {file' list' : List ℕ} {n : ℕ} → Adds es r i kept file file' list list' n → Sorted es (take (i + 1) rs) file₀ file' list₀ list' n
    next_sorted a =
        let stored = ap (λ (m : ℕ). sets file (record_length_of duv_width * m) (records_bytes duv_width (kept_of es (r ∷ [])))) s.count in
        record {
          count = omega (arith, a.count, s.count, count_next);
          in_file = records_stored file₀ (kept_of es (take i rs)) (kept_of es (r ∷ [])) s.in_file (a.to_file ∙ stored) ∙ ap (λ (zs : List Record). sets file₀ 0 (records_bytes duv_width zs)) (sym kept_next);
          in_list = then list₀ 0 (i - kept) (dropped_of es (take i rs)) (failing (matches es) i (r ∷ [])) s.in_list a.to_list (omega (arith, place_dropped.1)) ∙ ap (sets list₀ 0) (sym dropped_next);
        }
