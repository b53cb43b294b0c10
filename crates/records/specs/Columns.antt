-- A list of records as eight columns, one for each field. Definitions only.
use Rattle.std.specs.Prelude.{ℕ, zero, suc, min, List, [], ◌∷◌, ◌++◌, map, ℤ, pos, length, take, drop, get_or}
use Rattle.records.specs.declared.fields.Record.{Record}

pub record Columns : Type 0 where
  pub u : List ℕ
  pub v : List ℕ
  pub place : List ℕ
  pub low : List ℕ
  pub high : List ℕ
  pub duv : List ℤ
  pub steps : List ℕ
  pub class : List ℕ

abbrev pub columns : (u v place low high : List ℕ) → List ℤ → (steps class : List ℕ) → Columns
columns u v place low high duv steps class =
    record { u = u; v = v; place = place; low = low; high = high; duv = duv; steps = steps; class = class }

-- the list is as long as its shortest column
unfoldable pub size_of : Columns → ℕ
size_of c =
    min (length c.u) (min (length c.v) (min (length c.place) (min (length c.low)
    (min (length c.high) (min (length c.duv) (min (length c.steps) (length c.class)))))))

-- the record in row i
abbrev pub row_at : Columns → ℕ → Record
row_at c i =
    record {
      u = get_or c.u i 0;
      v = get_or c.v i 0;
      place = get_or c.place i 0;
      low = get_or c.low i 0;
      high = get_or c.high i 0;
      duv = get_or c.duv i (pos 0);
      steps = get_or c.steps i 0;
      class = get_or c.class i 0;
    }

-- the records in the first n rows
abbrev pub rows : Columns → ℕ → List Record
rows c zero = []
rows c (suc n) = rows c n ++ (row_at c n ∷ [])

-- the list in the columns
unfoldable pub list_of : Columns → List Record
list_of c = rows c (size_of c)

-- xs at the front, and beyond them what was there
abbrev pub over : {A : Type 0} → List A → List A → List A
over xs old = xs ++ drop (length xs) old

-- the records in the first rows, and beyond them what the columns held
unfoldable pub filled : List Record → Columns → Columns
filled rs c =
    record {
      u = over (map (λ (r : Record). r.u) rs) c.u;
      v = over (map (λ (r : Record). r.v) rs) c.v;
      place = over (map (λ (r : Record). r.place) rs) c.place;
      low = over (map (λ (r : Record). r.low) rs) c.low;
      high = over (map (λ (r : Record). r.high) rs) c.high;
      duv = over (map (λ (r : Record). r.duv) rs) c.duv;
      steps = over (map (λ (r : Record). r.steps) rs) c.steps;
      class = over (map (λ (r : Record). r.class) rs) c.class;
    }

-- the first n numbers of each column
abbrev pub first_rows : ℕ → Columns → Columns
first_rows n c =
    columns (take n c.u) (take n c.v) (take n c.place) (take n c.low) (take n c.high) (take n c.duv) (take n c.steps) (take n c.class)
