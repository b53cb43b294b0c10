-- Laws of columns: the rows that they have, and what they hold after records are stored.
use Rattle.std.specs.Prelude.{ℕ, zero, suc, ◌≤◌, ◌<◌, min, ◌≡◌, refl, List, [], ◌∷◌, ◌++◌, map, length, take, drop, get_or, set, pos}
use Rattle.std.proofs.Common.{ap, sym, ◌∙◌, ⊎_elim, eq-or-lt_of_le, arith, length-append, length-drop, take-suc, get_or-take, length-take-le}
use Rattle.std.proofs.lemmas.List.{length-map, get_or_at}
use Rattle.std.proofs.Math.ListN.{get_or-append, get_or-map, get_or-eq_default}
use Rattle.std.proofs.Math.Seq.{take-length}
use Rattle.records.specs.Files.{zero_record}
use Rattle.records.specs.Columns.{Columns, size_of, row_at, rows, list_of, over, filled, first_rows}
use Rattle.records.specs.Code.Rows.{HasRow, stored}
use Rattle.records.specs.declared.fields.Record.{Record}

-- each column has at least n numbers
record Covers (c : Columns) (n : ℕ) : Type 0 where
  pub u : n ≤ length c.u
  pub v : n ≤ length c.v
  pub place : n ≤ length c.place
  pub low : n ≤ length c.low
  pub high : n ≤ length c.high
  pub duv : n ≤ length c.duv
  pub steps : n ≤ length c.steps
  pub class : n ≤ length c.class

both : (a b n : ℕ) → n ≤ min a b → (n ≤ a) × (n ≤ b)
both a b n h = (omega arith, omega arith)

covers : (c : Columns) (n : ℕ) → n ≤ size_of c → Covers c n
unfolding size_of
covers c n h =
    let u = both (length c.u) _ n h in
    let v = both (length c.v) _ n u.1 in
    let place = both (length c.place) _ n v.1 in
    let low = both (length c.low) _ n place.1 in
    let high = both (length c.high) _ n low.1 in
    let duv = both (length c.duv) _ n high.1 in
    let steps = both (length c.steps) _ n duv.1 in
    record { u = u.0; v = v.0; place = place.0; low = low.0; high = high.0; duv = duv.0; steps = steps.0; class = steps.1 }

-- each column reaches every row of the list
pub has_row : (c : Columns) (i : ℕ) → i < size_of c → HasRow c i
has_row c i h =
    let k = covers c (suc i) (omega arith) in
    record { u = omega (arith, k.u); v = omega (arith, k.v); place = omega (arith, k.place); low = omega (arith, k.low); high = omega (arith, k.high); duv = omega (arith, k.duv); steps = omega (arith, k.steps); class = omega (arith, k.class) }

pub length_rows : (c : Columns) (n : ℕ) → length (rows c n) ≡ n
length_rows c zero = refl
length_rows c (suc n) = length-append (rows c n) (row_at c n ∷ []) ∙ omega (arith, length_rows c n)

pub length_list : (c : Columns) → length (list_of c) ≡ size_of c
unfolding list_of
length_list c = length_rows c (size_of c)

within : (i n : ℕ) → i < suc n → i ≤ n
within i n h = omega arith

-- record i of the first n rows
rows_at : (c : Columns) (n i : ℕ) → i < n → get_or (rows c n) i zero_record ≡ row_at c i
rows_at c zero i h = absurd (omega arith)
rows_at c (suc n) i h =
    ⊎_elim
    (λ e. rw e (get_or_at (rows c n) (row_at c n) [] zero_record n (length_rows c n)))
    (λ k. get_or-append (rows c n) (row_at c n ∷ []) zero_record i (omega (arith, length_rows c n)) ∙ rows_at c n i (omega arith))
    (eq-or-lt_of_le (within i n h))

-- record i of the list, and zeros beyond it
pub list_at : (c : Columns) (i : ℕ) → i < size_of c → get_or (list_of c) i zero_record ≡ row_at c i
unfolding list_of
list_at c i h = rows_at c (size_of c) i h

pub list_beyond : (c : Columns) (i : ℕ) → size_of c ≤ i → get_or (list_of c) i zero_record ≡ zero_record
list_beyond c i h = get_or-eq_default (list_of c) zero_record (omega (arith, length_list c))

-- one element more at the front of a column
pub over_append : {A : Type 0} (xs : List A) (y : A) (old : List A) → length xs < length old → set (over xs old) (length xs) y ≡ over (xs ++ (y ∷ [])) old
over_append [] y [] h = absurd (omega arith)
over_append [] y (o ∷ old) h = refl
over_append (x ∷ xs) y [] h = absurd (omega arith)
over_append (x ∷ xs) y (o ∷ old) h = ap (λ (z : List _). x ∷ z) (over_append xs y old (omega arith))

map-append : {A B : Type 0} (f : A → B) (rs : List A) (r : A) → map f (rs ++ (r ∷ [])) ≡ map f rs ++ (f r ∷ [])
map-append f [] r = refl
map-append f (x ∷ rs) r = ap (λ (z : List _). f x ∷ z) (map-append f rs r)

pub length_over : {A : Type 0} (xs old : List A) → length xs ≤ length old → length (over xs old) ≡ length old
length_over xs old h = length-append xs (drop (length xs) old) ∙ omega (arith, length-drop (length xs) old)

module _ {A : Type 0} (f : Record → A) (rs : List Record) (old : List A) where
  -- a column after one record more
  pub column_next : (r : Record) (i : ℕ) → length rs ≡ i → i < length old → set (over (map f rs) old) i (f r) ≡ over (map f (rs ++ (r ∷ []))) old
  column_next r i e h =
      let n : length (map f rs) ≡ i = length-map rs f ∙ e in
      ap (λ (k : ℕ). set (over (map f rs) old) k (f r)) (sym n) ∙ over_append (map f rs) (f r) old (omega arith)
      ∙ ap (λ (z : List A). over z old) (sym (map-append f rs r))

  -- a column is as long as it was
  column_length : length rs ≤ length old → length (over (map f rs) old) ≡ length old
  column_length h = length_over (map f rs) old (omega (arith, length-map rs f))

  -- what it then holds in the rows of the records
  column_at : (i : ℕ) → i < length rs → get_or (over (map f rs) old) i (f zero_record) ≡ f (get_or rs i zero_record)
  column_at i h = get_or-append (map f rs) (drop (length (map f rs)) old) (f zero_record) i (omega (arith, length-map rs f)) ∙ get_or-map f rs i zero_record

-- after one record more
pub filled_next : (rs : List Record) (c : Columns) (r : Record) (i : ℕ) → length rs ≡ i → HasRow c i → stored (filled rs c) i r ≡ filled (rs ++ (r ∷ [])) c
unfolding filled
filled_next rs c r i e h =
    let u = column_next (λ (x : Record). x.u) rs c.u r i e h.u in
    let v = column_next (λ (x : Record). x.v) rs c.v r i e h.v in
    let place = column_next (λ (x : Record). x.place) rs c.place r i e h.place in
    let low = column_next (λ (x : Record). x.low) rs c.low r i e h.low in
    let high = column_next (λ (x : Record). x.high) rs c.high r i e h.high in
    let duv = column_next (λ (x : Record). x.duv) rs c.duv r i e h.duv in
    let steps = column_next (λ (x : Record). x.steps) rs c.steps r i e h.steps in
    let class = column_next (λ (x : Record). x.class) rs c.class r i e h.class in
    λ j. record { u = u j; v = v j; place = place j; low = low j; high = high j; duv = duv j; steps = steps j; class = class j }

-- each column of a is as long as that of b
pub record Level (a b : Columns) : Type 0 where
  pub u : length a.u ≡ length b.u
  pub v : length a.v ≡ length b.v
  pub place : length a.place ≡ length b.place
  pub low : length a.low ≡ length b.low
  pub high : length a.high ≡ length b.high
  pub duv : length a.duv ≡ length b.duv
  pub steps : length a.steps ≡ length b.steps
  pub class : length a.class ≡ length b.class

-- columns with records stored are as long as they were
pub filled_level : (rs : List Record) (c : Columns) → length rs ≤ size_of c → Level (filled rs c) c
unfolding filled
filled_level rs c h =
    let k = covers c (length rs) h in
    record {
      u = column_length (λ (x : Record). x.u) rs c.u k.u;
      v = column_length (λ (x : Record). x.v) rs c.v k.v;
      place = column_length (λ (x : Record). x.place) rs c.place k.place;
      low = column_length (λ (x : Record). x.low) rs c.low k.low;
      high = column_length (λ (x : Record). x.high) rs c.high k.high;
      duv = column_length (λ (x : Record). x.duv) rs c.duv k.duv;
      steps = column_length (λ (x : Record). x.steps) rs c.steps k.steps;
      class = column_length (λ (x : Record). x.class) rs c.class k.class;
    }

pub level_row : (a b : Columns) (i : ℕ) → Level a b → HasRow b i → HasRow a i
level_row a b i e h =
    record {
      u = rw e.u h.u;
      v = rw e.v h.v;
      place = rw e.place h.place;
      low = rw e.low h.low;
      high = rw e.high h.high;
      duv = rw e.duv h.duv;
      steps = rw e.steps h.steps;
      class = rw e.class h.class;
    }

-- no record stored
pub filled_none : (c : Columns) → filled [] c ≡ c
unfolding filled
filled_none c = refl

-- the rows of the records hold the records
pub filled_at : (rs : List Record) (c : Columns) (i : ℕ) → i < length rs → row_at (filled rs c) i ≡ get_or rs i zero_record
unfolding filled
filled_at rs c i h =
    let u = column_at (λ (x : Record). x.u) rs c.u i h in
    let v = column_at (λ (x : Record). x.v) rs c.v i h in
    let place = column_at (λ (x : Record). x.place) rs c.place i h in
    let low = column_at (λ (x : Record). x.low) rs c.low i h in
    let high = column_at (λ (x : Record). x.high) rs c.high i h in
    let duv = column_at (λ (x : Record). x.duv) rs c.duv i h in
    let steps = column_at (λ (x : Record). x.steps) rs c.steps i h in
    let class = column_at (λ (x : Record). x.class) rs c.class i h in
    λ j. record { u = u j; v = v j; place = place j; low = low j; high = high j; duv = duv j; steps = steps j; class = class j }

-- columns of equal lengths have lists of one length
pub level_size : (a b : Columns) → Level a b → size_of a ≡ size_of b
unfolding size_of
level_size a b e = rw (e.u, e.v, e.place, e.low, e.high, e.duv, e.steps, e.class) refl

-- rows that hold the elements of a list are the list
rows_of : (c : Columns) (rs : List Record) → ((i : ℕ) → i < length rs → row_at c i ≡ get_or rs i zero_record) → (n : ℕ) → n ≤ length rs → rows c n ≡ take n rs
rows_of c rs e zero h = refl
rows_of c rs e (suc n) h = rw (rows_of c rs e n (omega arith), e n (omega arith)) (sym (take-suc rs n zero_record (omega arith)))

pub filled_rows : (rs : List Record) (c : Columns) → rows (filled rs c) (length rs) ≡ rs
filled_rows rs c = rows_of (filled rs c) rs (λ i h. filled_at rs c i h) (length rs) (omega arith) ∙ take-length rs

-- the first rows as a list of their own
rows_same : (a b : Columns) (n : ℕ) → ((i : ℕ) → i < n → row_at a i ≡ row_at b i) → rows a n ≡ rows b n
rows_same a b zero e = refl
rows_same a b (suc n) e = rw (rows_same a b n (λ i h. e i (omega arith)), e n (omega arith)) refl

first_at : (n : ℕ) (c : Columns) (i : ℕ) → i < n → row_at (first_rows n c) i ≡ row_at c i
first_at n c i h =
    let u = get_or-take n c.u i 0 h in
    let v = get_or-take n c.v i 0 h in
    let place = get_or-take n c.place i 0 h in
    let low = get_or-take n c.low i 0 h in
    let high = get_or-take n c.high i 0 h in
    let duv = get_or-take n c.duv i (pos 0) h in
    let steps = get_or-take n c.steps i 0 h in
    let class = get_or-take n c.class i 0 h in
    λ j. record { u = u j; v = v j; place = place j; low = low j; high = high j; duv = duv j; steps = steps j; class = class j }

min_same : (n : ℕ) → min n n ≡ n
min_same n = omega arith

pub first_size : (n : ℕ) (c : Columns) → n ≤ size_of c → size_of (first_rows n c) ≡ n
unfolding size_of
first_size n c h =
    let k = covers c n h in
    let e = min_same n in
    rw (length-take-le n c.u k.u, length-take-le n c.v k.v, length-take-le n c.place k.place, length-take-le n c.low k.low, length-take-le n c.high k.high, length-take-le n c.duv k.duv, length-take-le n c.steps k.steps, length-take-le n c.class k.class) (rw (e, e, e, e, e, e, e) refl)

pub first_list : (n : ℕ) (c : Columns) → n ≤ size_of c → list_of (first_rows n c) ≡ rows c n
unfolding list_of
first_list n c h = ap (rows (first_rows n c)) (first_size n c h) ∙ rows_same (first_rows n c) c n (λ i k. first_at n c i k)
