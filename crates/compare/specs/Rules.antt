-- What the list of differences promises, and when each answer is given (document 02, No. 7): the statements.
use Rattle.std.specs.Prelude.{◌≡◌, cond, List, ℕ, ◌*◌, ◌≤◌, ◌<◌, eqb, ℤ, pos, length, get_or, Result, Ok, Err}
use Rattle.refusal.specs.declared.Refusal.{Refusal}
use Rattle.records.specs.Files.{zero_record}
use Rattle.records.specs.Conditions.{Readable, FormCondition}
use Rattle.records.specs.declared.fields.Record.{Record}
use Rattle.compare.specs.Differences.{Entry, entry, contents, field_count, only_first, only_second}
use Rattle.compare.specs.Comparison.{file_differences, entry_length}
use Rattle.compare.specs.declared.NotCompared.{NotCompared}
use Rattle.compare.specs.declared.NotCompared.TheVariants.{First, Second, NoRoom}

-- what field k of a record holds, and field k of record i of a list
abbrev pub content_in : Record → ℕ → ℤ
content_in r k = get_or (contents r) k (pos 0)

abbrev pub content_at : List Record → (i k : ℕ) → ℤ
content_at rs i k = content_in (get_or rs i zero_record) k

-- what there is to list: a field whose contents differ in a record that both have, and a record that only one has
pub data Difference (rs ss : List Record) : Entry → Type 0 where
  differs : (i k : ℕ) → i < length rs → i < length ss → k < field_count → (content_at rs i k ≡ content_at ss i k → ⊥) → Difference rs ss (entry i k (content_at rs i k) (content_at ss i k))
  first_only : (i : ℕ) → length ss ≤ i → i < length rs → Difference rs ss (entry i only_first (pos 0) (pos 0))
  second_only : (i : ℕ) → length rs ≤ i → i < length ss → Difference rs ss (entry i only_second (pos 0) (pos 0))

-- an entry of zeros
abbrev pub zero_entry : Entry
zero_entry = entry 0 0 (pos 0) (pos 0)

-- entry j of a list, from 0
abbrev pub entry_at : List Entry → ℕ → Entry
entry_at es j = get_or es j zero_entry

-- the entry stands in the list at one place, and at no other
pub record Once (es : List Entry) (e : Entry) : Type 0 where
  pub place : ℕ
  pub below : place < length es
  pub here : entry_at es place ≡ e
  pub nowhere_else : (j : ℕ) → j < length es → entry_at es j ≡ e → j ≡ place

-- e comes before f, by record and then by field
pub data Before (e f : Entry) : Type 0 where
  by_record : e.index < f.index → Before e f
  by_field : e.index ≡ f.index → e.field < f.field → Before e f

-- each entry comes before every later one
abbrev pub Rising : List Entry → Type 0
Rising es = (i j : ℕ) → i < j → j < length es → Before (entry_at es i) (entry_at es j)

-- each answer under its condition, where none before it is met
pub data Rule (a b : List ℕ) (room : ℕ) : Result ℕ NotCompared → Type 0 where
  bad_first : (r : Refusal) → FormCondition a r → Rule a b room (Err (First r))
  bad_second : (r : Refusal) → Readable a → FormCondition b r → Rule a b room (Err (Second r))
  no_room : Readable a → Readable b → room < entry_length * length (file_differences a b) → Rule a b room (Err NoRoom)
  listed_all : Readable a → Readable b → entry_length * length (file_differences a b) ≤ room → Rule a b room (Ok (length (file_differences a b)))

-- a field's number where the two files change places
abbrev pub other_file : ℕ → ℕ
other_file k = cond (eqb k only_first) only_second (cond (eqb k only_second) only_first k)

-- the entry of the same difference where the two files change places
abbrev pub other_way : Entry → Entry
other_way e = entry e.index (other_file e.field) e.second e.first
