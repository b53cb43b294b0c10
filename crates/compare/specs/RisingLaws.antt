-- The list of differences rises, by record and then by field.
use Rattle.std.specs.Prelude.{◌≡◌, refl, Bool, true, false, List, [], ◌∷◌, ◌++◌, ℕ, zero, suc, ◌+◌, ◌-◌, ◌*◌, ◌≤◌, ◌<◌, min, max, ltb, ℤ, pos, length}
use Rattle.std.proofs.Common.{arith, le_refl, ltb-true, ltb-false}
use Rattle.arith.specs.Same.{same}
use Rattle.arith.specs.TestLaws.{cond_both}
use Rattle.records.specs.declared.fields.Record.{Record}
use Rattle.compare.specs.Differences.{Entry, entry, contents, only_first, only_second, in_step, of_field, of_record, extra, differences}
use Rattle.compare.specs.EntryLaws.{beyond_run}
use Rattle.compare.specs.Rules.{entry_at, Before, by_record, by_field}

-- one number for both, since every field's number is below 10
abbrev pub key : Entry → ℕ
key e = 10 * e.index + e.field

-- the keys rise, from lo on and below hi
data Below (hi : ℕ) : ℕ → List Entry → Type 0 where
  end : (lo : ℕ) → lo ≤ hi → Below hi lo []
  next : (lo : ℕ) (e : Entry) {es : List Entry} → lo ≤ key e → Below hi (suc (key e)) es → Below hi lo (e ∷ es)

wider : {hi high lo : ℕ} (low : ℕ) {es : List Entry} → hi ≤ high → low ≤ lo → Below hi lo es → Below high low es
wider low k h (end lo l) = end low (omega arith)
wider low k h (next lo e l r) = next low e (omega arith) (wider (suc (key e)) k (le_refl _) r)

joined : {hi mid lo : ℕ} {es fs : List Entry} → Below mid lo es → Below hi mid fs → Below hi lo (es ++ fs)
joined (end lo l) r = wider lo (le_refl _) l r
joined (next lo e l q) r = next lo e l (joined q r)

in_step_below : {A : Type 0} (f : ℕ → A → A → List Entry) (at : ℕ → ℕ) → ((j : ℕ) (x y : A) → Below (at (suc j)) (at j) (f j x y)) → (i : ℕ) (xs ys : List A) → Below (at (i + min (length xs) (length ys))) (at i) (in_step f i xs ys)
in_step_below f at k i [] ys = let on : i + min 0 (length ys) ≡ i = omega arith in rw on (end (at i) (le_refl _))
in_step_below f at k i (x ∷ xs) [] = let on : i + min (suc (length xs)) 0 ≡ i = omega arith in rw on (end (at i) (le_refl _))
in_step_below f at k i (x ∷ xs) (y ∷ ys) =
    let on : i + min (suc (length xs)) (suc (length ys)) ≡ suc i + min (length xs) (length ys) = omega arith in
    rw on (joined (k i x y) (in_step_below f at k (suc i) xs ys))

field_below : (i k : ℕ) (x y : ℤ) → Below (10 * i + suc k) (10 * i + k) (of_field i k x y)
field_below i k x y =
    let lo = 10 * i + k in
    cond_both (Below (10 * i + suc k) lo) (same x y) (end lo (omega arith)) (next lo (entry i k x y) (le_refl lo) (end (suc lo) (omega arith)))

record_below : (i : ℕ) (r s : Record) → Below (10 * suc i) (10 * i) (of_record i r s)
unfolding of_record
record_below i r s = wider (10 * i) (omega arith) (omega arith) (in_step_below (of_field i) (λ k. 10 * i + k) (field_below i) 0 (contents r) (contents s))

extra_below : (k i n : ℕ) → k < 10 → Below (10 * (i + n)) (10 * i) (extra k i n)
extra_below k i zero h = end (10 * i) (omega arith)
extra_below k i (suc n) h = next (10 * i) (entry i k (pos 0) (pos 0)) (omega arith) (wider (suc (10 * i + k)) (omega arith) (omega arith) (extra_below k (suc i) n h))

differences_below : (rs ss : List Record) → Below (10 * max (length rs) (length ss)) 0 (differences rs ss)
unfolding differences
differences_below rs ss =
    let m = length rs in
    let n = length ss in
    let lo = 10 * (0 + min m n) in
    joined (in_step_below of_record (λ i. 10 * i) record_below 0 rs ss)
    (beyond_run (Below (10 * max m n) lo) m n (λ h. wider lo (omega arith) (omega arith) (extra_below only_first n (m - n) (omega arith))) (λ h. wider lo (omega arith) (omega arith) (extra_below only_second m (n - m) (omega arith))))

-- each key is below every later one
key_from : {hi lo : ℕ} {es : List Entry} → Below hi lo es → (j : ℕ) → j < length es → lo ≤ key (entry_at es j)
key_from (end lo l) j h = absurd (omega arith)
key_from (next lo e l r) zero h = l
key_from (next lo e l r) (suc j) h = omega (arith, key_from r j (omega arith))

keys_rise : {hi lo : ℕ} {es : List Entry} → Below hi lo es → (i j : ℕ) → i < j → j < length es → key (entry_at es i) < key (entry_at es j)
keys_rise (end lo l) i j h k = absurd (omega arith)
keys_rise (next lo e l r) i zero h k = absurd (omega arith)
keys_rise (next lo e l r) zero (suc j) h k = key_from r j (omega arith)
keys_rise (next lo e l r) (suc i) (suc j) h k = keys_rise r i j (omega arith) (omega arith)

pub differences_rise : (rs ss : List Record) (i j : ℕ) → i < j → j < length (differences rs ss) → key (entry_at (differences rs ss) i) < key (entry_at (differences rs ss) j)
differences_rise rs ss = keys_rise (differences_below rs ss)

-- an entry with a lower key comes before
pub key_before : (e f : Entry) → f.field < 10 → key e < key f → Before e f
key_before e f k h = go (ltb e.index f.index) refl
  where
    go : (b : Bool) → ltb e.index f.index ≡ b → Before e f
    go true t = by_record (ltb-true e.index f.index t)
    go false t = let l = ltb-false e.index f.index t in by_field (omega arith) (omega arith)
