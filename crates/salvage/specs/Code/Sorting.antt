-- Room for records, and records sorted into those that are kept, in a file, and those that are dropped, whose numbers are listed.
use Rattle.std.specs.Prelude.{◌≡◌, cond, List, [], ◌∷◌, ℕ, ◌+◌, ◌-◌, ◌*◌, ◌≤◌, leb, length, Result, Ok, Err}
use Rattle.std.proofs.lemmas.List.Edits.{sets}
use Rattle.refusal.specs.declared.Refusal.{Refusal}
use Rattle.refusal.specs.declared.Refusal.TheVariants.{TooManyRecords, NoRoom}
use Rattle.records.specs.Fields.{duv_width, record_length_of}
use Rattle.records.specs.Files.{most_written, records_bytes}
use Rattle.records.specs.declared.fields.Record.{Record}
use Rattle.salvage.specs.Passing.{failing}
use Rattle.salvage.specs.Salvaging.{matches, kept_of, dropped_of, has_room}

-- that there is room
abbrev pub enough : Result (Unit {0}) Refusal
enough = Ok tt

-- the refusal of k records kept and d dropped, 11 or 12, or that the targets have room for them
unfoldable pub room_for : (k d file_room list_room : ℕ) → Result (Unit {0}) Refusal
room_for k d file_room list_room =
    cond (leb k most_written) (cond (has_room k d file_room list_room) enough (Err NoRoom)) (Err TooManyRecords)

-- the targets have room for record i, of those before which so many are kept
pub record HasRoom (es : List ℕ) (r : Record) (i kept : ℕ) (file list : List ℕ) : Type 0 where
  pub some : kept ≤ i
  pub in_file : record_length_of duv_width * (kept + length (kept_of es (r ∷ []))) ≤ length file
  pub in_list : i - kept + length (failing (matches es) i (r ∷ [])) ≤ length list

-- it is added to those kept, or its number to those dropped, and n are kept now
pub record Adds (es : List ℕ) (r : Record) (i kept : ℕ) (file file' list list' : List ℕ) (n : ℕ) : Type 0 where
  pub count : n ≡ kept + length (kept_of es (r ∷ []))
  pub to_file : file' ≡ sets file (record_length_of duv_width * kept) (records_bytes duv_width (kept_of es (r ∷ [])))
  pub to_list : list' ≡ sets list (i - kept) (failing (matches es) i (r ∷ []))

-- all records are sorted, and n are kept
pub record Sorted (es : List ℕ) (rs : List Record) (file file' list list' : List ℕ) (n : ℕ) : Type 0 where
  pub count : n ≡ length (kept_of es rs)
  pub in_file : file' ≡ sets file 0 (records_bytes duv_width (kept_of es rs))
  pub in_list : list' ≡ sets list 0 (dropped_of es rs)
