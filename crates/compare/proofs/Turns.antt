-- One turn of a loop that takes two lists in step: what it adds to the entries so far, and that this is part of the whole.
use Rattle.std.proofs.Common.{◌≡◌, refl, ap, sym, ◌∙◌, Bool, true, false, cond, not, List, [], ◌∷◌, ◌++◌, ℕ, zero, suc, ◌+◌, ◌-◌, ◌≤◌, ◌<◌, ℤ, pos, length, take, get_or, length-append, add-one, arith}
use Rattle.std.proofs.Math.Nat.{zero-add}
use Rattle.std.proofs.Math.Seq.{take-suc, length-take-le}
use Rattle.std.specs.List.{count_by, zip}
use Rattle.std.proofs.lemmas.List.Sums.{sum_by-cons}
use Rattle.arith.specs.Same.{same}
use Rattle.records.specs.declared.fields.Record.{Record}
use Rattle.compare.specs.Differences.{Entry, entry, contents, in_step, of_field, of_record, extra}
use Rattle.compare.specs.EntryLaws.{field_length}
use Rattle.compare.specs.InStepLaws.{in_step_last}
use Rattle.compare.specs.Code.Puts.{Put}
use Rattle.compare.proofs.Stores.{put_then}

module _ {A B : Type 0} (f : ℕ → A → A → List B) where
  -- the first elements give no more than all
  shorter : (i n : ℕ) (xs ys : List A) → length (in_step f i (take n xs) (take n ys)) ≤ length (in_step f i xs ys)
  shorter i zero xs ys = omega arith
  shorter i (suc n) [] ys = omega arith
  shorter i (suc n) (x ∷ xs) [] = omega arith
  shorter i (suc n) (x ∷ xs) (y ∷ ys) =
      omega (arith, length-append (f i x y) (in_step f (suc i) (take n xs) (take n ys)), length-append (f i x y) (in_step f (suc i) xs ys), shorter (suc i) n xs ys)

  -- element k of both lists comes next
  module _ (xs ys : List A) (d : A) (k : ℕ) (h : k < length xs) (g : k < length ys) where
    pub turn : in_step f 0 (take (k + 1) xs) (take (k + 1) ys) ≡ in_step f 0 (take k xs) (take k ys) ++ f k (get_or xs k d) (get_or ys k d)
    turn =
        let m = length-take-le k xs (omega arith) in
        let n = length-take-le k ys (omega arith) in
        rw (add-one k, take-suc xs k d h, take-suc ys k d g) (in_step_last f 0 (take k xs) (take k ys) (get_or xs k d) (get_or ys k d) (omega arith) ∙ rw (m, zero-add k) refl)

    pub turn_length : length (in_step f 0 (take (k + 1) xs) (take (k + 1) ys)) ≡ length (in_step f 0 (take k xs) (take k ys)) + length (f k (get_or xs k d) (get_or ys k d))
    turn_length = ap length turn ∙ length-append (in_step f 0 (take k xs) (take k ys)) (f k (get_or xs k d) (get_or ys k d))

    pub turn_within : length (in_step f 0 (take k xs) (take k ys)) + length (f k (get_or xs k d) (get_or ys k d)) ≤ length (in_step f 0 xs ys)
    turn_within = omega (arith, turn_length, shorter 0 (k + 1) xs ys)

-- the entries so far, and those of element k
pub turn_put : {A : Type 0} (f : ℕ → A → A → List Entry) (xs ys : List A) (d : A) (k : ℕ) → k < length xs → k < length ys → {old mid new : List ℤ} {at middle end : ℕ} →
    Put old mid at middle (in_step f 0 (take k xs) (take k ys)) → Put mid new middle end (f k (get_or xs k d) (get_or ys k d)) → Put old new at end (in_step f 0 (take (k + 1) xs) (take (k + 1) ys))
turn_put f xs ys d k h g p q = rw (turn f xs ys d k h g) (put_then p q)

abbrev pub differ : ℤ × ℤ → Bool
differ p = not (same p.0 p.1)

-- as many entries as there are places at which the contents differ, whatever the record's number
as_many : (i k : ℕ) (xs ys : List ℤ) → count_by differ (zip xs ys) ≡ length (in_step (of_field i) k xs ys)
as_many i k [] ys = refl
as_many i k (x ∷ xs) [] = refl
as_many i k (x ∷ xs) (y ∷ ys) = sum_by-cons (λ (p : ℤ × ℤ). cond (differ p) 1 0) (x, y) (zip xs ys) ∙ go (same x y) (as_many i (suc k) xs ys)
  where
    go : (b : Bool) → count_by differ (zip xs ys) ≡ length (in_step (of_field i) (suc k) xs ys) → cond (not b) 1 0 + count_by differ (zip xs ys) ≡ length (cond b [] (entry i k x y ∷ []) ++ in_step (of_field i) (suc k) xs ys)
    go true e = omega (arith, e)
    go false e = omega (arith, e)

pub record_count : (i : ℕ) (r s : Record) → count_by (λ (p : ℤ × ℤ). not (same p.0 p.1)) (zip (contents r) (contents s)) ≡ length (of_record i r s)
unfolding of_record
record_count i r s = as_many i 0 (contents r) (contents s)

-- one place more at which they may differ
pub count_next : (xs ys : List ℤ) (d : ℤ) (k : ℕ) → k < length xs → k < length ys →
    count_by differ (zip (take (k + 1) xs) (take (k + 1) ys)) ≡ count_by differ (zip (take k xs) (take k ys)) + cond (same (get_or xs k d) (get_or ys k d)) 0 1
count_next xs ys d k h g =
    as_many 0 0 (take (k + 1) xs) (take (k + 1) ys) ∙ turn_length (of_field 0) xs ys d k h g ∙
    ap (λ (n : ℕ). n + length (of_field 0 k (get_or xs k d) (get_or ys k d))) (sym (as_many 0 0 (take k xs) (take k ys))) ∙
    ap (λ (n : ℕ). count_by differ (zip (take k xs) (take k ys)) + n) (field_length 0 k (get_or xs k d) (get_or ys k d))

-- so it does not turn on that number
pub record_as_long : (i j : ℕ) (r s : Record) → length (of_record i r s) ≡ length (of_record j r s)
record_as_long i j r s = sym (record_count i r s) ∙ record_count j r s

-- the entries of two records, by their contents
pub of_contents : (i : ℕ) (r s : Record) {xs ys : List ℤ} → xs ≡ contents r → ys ≡ contents s → in_step (of_field i) 0 xs ys ≡ of_record i r s
unfolding of_record
of_contents i r s e f = rw (e, f) refl

-- one record more that only one file has
extra_last : (k i n : ℕ) → extra k i (suc n) ≡ extra k i n ++ (entry (i + n) k (pos 0) (pos 0) ∷ [])
extra_last k i zero = let e : i + 0 ≡ i = omega arith in rw e refl
extra_last k i (suc n) =
    let e : i + suc n ≡ suc i + n = omega arith in
    rw e (ap (λ (es : List Entry). entry i k (pos 0) (pos 0) ∷ es) (extra_last k (suc i) n))

pub extra_put : (k from i : ℕ) → from ≤ i → {old mid new : List ℤ} {at middle end : ℕ} →
    Put old mid at middle (extra k from (i - from)) → Put mid new middle end (entry i k (pos 0) (pos 0) ∷ []) → Put old new at end (extra k from (i + 1 - from))
extra_put k from i h p q =
    let e : i + 1 - from ≡ suc (i - from) = omega arith in
    let f : from + (i - from) ≡ i = omega arith in
    rw (e, extra_last k from (i - from), f) (put_then p q)
