-- What a comparison of two files answers, and what its target holds afterwards (document 02, No. 7 and No. 8). Definitions only.
use Rattle.std.specs.Prelude.{cond, List, ℕ, ◌*◌, leb, ℤ, length, Result, Ok, Err}
use Rattle.refusal.specs.declared.Refusal.{Refusal}
use Rattle.refusal.specs.declared.Refusal.TheVariants as refusal
use Rattle.records.specs.Files.{form_of, records_of}
use Rattle.records.specs.Columns.{over}
use Rattle.records.specs.declared.files.Form.{Form}
use Rattle.compare.specs.Differences.{Entry, differences, numbers}
use Rattle.compare.specs.declared.NotCompared.{NotCompared}
use Rattle.compare.specs.declared.NotCompared.TheVariants.{First, Second, NoRoom}

-- the differences of two files that can be read
unfoldable pub file_differences : (first second : List ℕ) → List Entry
file_differences a b = differences (records_of a) (records_of b)

-- An entry has four numbers.
abbrev pub entry_length : ℕ
entry_length = 4

-- refusal 12 where n entries have no room, or how many are listed
abbrev pub list_outcome : (n room : ℕ) → Result ℕ NotCompared
list_outcome n room = cond (leb (entry_length * n) room) (Ok n) (Err NoRoom)

-- before it stands the refusal of a file that cannot be read, and the first file's stands before the second's
abbrev pub forms_outcome : (first second : Result Form Refusal) (n room : ℕ) → Result ℕ NotCompared
forms_outcome (Err r) g n room = Err (First r)
forms_outcome (Ok f) (Err r) n room = Err (Second r)
forms_outcome (Ok f) (Ok g) n room = list_outcome n room

-- the answer for two files and a target with this room
unfoldable pub compare_outcome : (first second : List ℕ) (room : ℕ) → Result ℕ NotCompared
compare_outcome a b room = forms_outcome (form_of a) (form_of b) (length (file_differences a b)) room

-- the refusal that a comparison ends with: that of the file, or 12 where the differences have no room
abbrev pub refusal_of : NotCompared → Refusal
refusal_of (First r) = r
refusal_of (Second r) = r
refusal_of NoRoom = refusal.NoRoom

-- the target: the entries, and beyond them what it held; a refusal leaves it as it was
abbrev pub listed_into : Result ℕ NotCompared → (first second : List ℕ) → List ℤ → List ℤ
listed_into (Err e) a b old = old
listed_into (Ok n) a b old = over (numbers (file_differences a b)) old
