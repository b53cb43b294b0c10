-- A test of each element of a list holds at any one of them, and goes on as a loop over the list does.
use Rattle.std.specs.Prelude.{◌≡◌, Bool, true, ◌&&◌, List, [], ◌∷◌, ℕ, zero, suc, ◌+◌, ◌<◌, length, get_or, take}
use Rattle.std.proofs.Common.{add-zero, add-suc, suc-add, zero-add, le_of_suc-le-suc, not-suc-le-zero}
use Rattle.std.proofs.lemmas.List.Folds.{list_all_more}
use Rattle.arith.specs.TestLaws.{and_both}
use Rattle.arith.specs.Every.{every, numbered_from, every_entry}

-- a test that passes at each element passes at element i
pub every_at : {A : Type 0} (test : A → Bool) (l : List A) (d : A) → every test l ≡ true → (i : ℕ) → i < length l → test (get_or l i d) ≡ true
every_at test [] d t i h = absurd (not-suc-le-zero h)
every_at test (x ∷ l) d t zero h = (and_both (test x) (every test l) t).0
every_at test (x ∷ l) d t (suc i) h = every_at test l d (and_both (test x) (every test l) t).1 i (le_of_suc-le-suc h)

entry_from :
    {A : Type 0} (test : ℕ → A → Bool) (n : ℕ) (l : List A) (d : A)
    → every (λ (p : ℕ × A). test p.0 p.1) (numbered_from n l) ≡ true → (i : ℕ) → i < length l → test (n + i) (get_or l i d) ≡ true
entry_from test n [] d t i h = absurd (not-suc-le-zero h)
entry_from {A} test n (x ∷ l) d t zero h = rw (add-zero n) (and_both (test n x) (every (λ (p : ℕ × A). test p.0 p.1) (numbered_from (suc n) l)) t).0
entry_from {A} test n (x ∷ l) d t (suc i) h =
    rw (add-suc n i, ← suc-add n i)
    (entry_from test (suc n) l d (and_both (test n x) (every (λ (p : ℕ × A). test p.0 p.1) (numbered_from (suc n) l)) t).1 i (le_of_suc-le-suc h))

-- a test that passes at each element with its number passes at element i
pub every_entry_lem : {A : Type 0} (test : ℕ → A → Bool) (l : List A) (d : A) → every_entry test l ≡ true → (i : ℕ) → i < length l → test i (get_or l i d) ≡ true
every_entry_lem test l d t i h = rw (zero-add i) at (entry_from test 0 l d t i h)

-- one element more, as a loop counts
pub every_next : {A : Type 0} (test : A → Bool) (l : List A) (d : A) (k : ℕ) → k < length l → every test (take (k + 1) l) ≡ every test (take k l) && test (get_or l k d)
every_next test l d k h = list_all_more test l k d h
