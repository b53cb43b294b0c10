-- The differences of two lists of records (document 02, No. 7). Definitions only.
use Rattle.std.specs.Prelude.{cond, List, [], ◌∷◌, ◌++◌, ℕ, zero, suc, ◌-◌, ℤ, pos, length}
use Rattle.arith.specs.Same.{same}
use Rattle.records.specs.declared.fields.Record.{Record}

-- an entry of the list, in document 02's word: the record's number, the field's, and what the first file and the second have there
pub record Entry : Type 0 where
  pub index : ℕ
  pub field : ℕ
  pub first : ℤ
  pub second : ℤ

abbrev pub entry : (index field : ℕ) (first second : ℤ) → Entry
entry i k x y = record { index = i; field = k; first = x; second = y }

-- the contents of a record's fields, numbered from 0 in the order of its bytes
abbrev pub contents : Record → List ℤ
contents r = pos r.u ∷ pos r.v ∷ pos r.place ∷ pos r.low ∷ pos r.high ∷ r.duv ∷ pos r.steps ∷ pos r.class ∷ []

-- A record has 8 fields, 0 to 7.
abbrev pub field_count : ℕ
field_count = 8

-- the field number of a record that only the first file has, and of one that only the second has
abbrev pub only_first : ℕ
only_first = 8

abbrev pub only_second : ℕ
only_second = 9

-- f of each two elements that stand at the same place of both lists, and of their number, i for the first two; all that it gives, one after another
abbrev pub in_step : {A B : Type 0} → (ℕ → A → A → List B) → ℕ → List A → List A → List B
in_step f i [] ys = []
in_step f i (x ∷ xs) [] = []
in_step f i (x ∷ xs) (y ∷ ys) = f i x y ++ in_step f (suc i) xs ys

-- the entry of field k of record i, where its contents differ
abbrev pub of_field : (i k : ℕ) → ℤ → ℤ → List Entry
of_field i k x y = cond (same x y) [] (entry i k x y ∷ [])

-- the entries of the fields in which record i differs
unfoldable pub of_record : ℕ → Record → Record → List Entry
of_record i r s = in_step (of_field i) 0 (contents r) (contents s)

-- the entries of n records from number i on, which only one file has
abbrev pub extra : (field i n : ℕ) → List Entry
extra k i zero = []
extra k i (suc n) = entry i k (pos 0) (pos 0) ∷ extra k (suc i) n

-- the records that only the longer of two lists of m and n records has; at least one of the two runs is empty
unfoldable pub beyond : (m n : ℕ) → List Entry
beyond m n = extra only_first n (m - n) ++ extra only_second m (n - m)

-- every difference by record, then field; then the records that only the longer list has
unfoldable pub differences : List Record → List Record → List Entry
differences rs ss = in_step of_record 0 rs ss ++ beyond (length rs) (length ss)

-- the four numbers of each entry, one entry after another
abbrev pub numbers : List Entry → List ℤ
numbers [] = []
numbers (e ∷ es) = pos e.index ∷ pos e.field ∷ e.first ∷ e.second ∷ numbers es
