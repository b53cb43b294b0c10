-- Laws of the elements that pass a test and of the numbers of the others: of two lists one after the other, how many there are, that
-- those taken pass, and which numbers are listed.
use Rattle.std.specs.Prelude.{◌≡◌, refl, Bool, true, false, cond, List, [], ◌∷◌, ◌++◌, ℕ, zero, suc, ◌+◌, ◌-◌, ◌≤◌, ◌<◌, eqb, length, take, drop, get_or}
use Rattle.std.proofs.Common.{sym, ap, ◌∙◌, true≢false, arith, length-append, take-append-drop, eqb-true}
use Rattle.std.proofs.lemmas.Bool.{eqb-false}
use Rattle.salvage.specs.Passing.{passing, failing, Listed}

later : (m n : ℕ) {ns : List ℕ} → Listed n ns → Listed n (m ∷ ns)
later m n l = record { place = suc l.place; below = omega (arith, l.below); is = l.is }

module _ {A : Type 0} (f : A → Bool) where
  pub passing_append : (xs ys : List A) → passing f (xs ++ ys) ≡ passing f xs ++ passing f ys
  passing_append [] ys = refl
  passing_append (x ∷ xs) ys = go (f x) (passing_append xs ys)
    where
      go : (b : Bool) {zs : List A} → zs ≡ passing f xs ++ passing f ys → cond b (x ∷ zs) zs ≡ cond b (x ∷ passing f xs) (passing f xs) ++ passing f ys
      go true e = ap (λ (l : List A). x ∷ l) e
      go false e = e

  pub failing_append : (i : ℕ) (xs ys : List A) → failing f i (xs ++ ys) ≡ failing f i xs ++ failing f (i + length xs) ys
  failing_append i [] ys = let e : i + 0 ≡ i = omega arith in rw e refl
  failing_append i (x ∷ xs) ys = let e : i + suc (length xs) ≡ suc i + length xs = omega arith in rw e (go (f x) (failing_append (suc i) xs ys))
    where
      go : (b : Bool) {zs : List ℕ} → zs ≡ failing f (suc i) xs ++ failing f (suc i + length xs) ys → cond b zs (i ∷ zs) ≡ cond b (failing f (suc i) xs) (i ∷ failing f (suc i) xs) ++ failing f (suc i + length xs) ys
      go true e = e
      go false e = ap (λ (l : List ℕ). i ∷ l) e

  -- each element passes or has its number listed
  pub all_counted : (i : ℕ) (xs : List A) → length (passing f xs) + length (failing f i xs) ≡ length xs
  all_counted i [] = refl
  all_counted i (x ∷ xs) = go (f x) (all_counted (suc i) xs)
    where
      go : (b : Bool) → length (passing f xs) + length (failing f (suc i) xs) ≡ length xs → length (cond b (x ∷ passing f xs) (passing f xs)) + length (cond b (failing f (suc i) xs) (i ∷ failing f (suc i) xs)) ≡ suc (length xs)
      go true e = omega (arith, e)
      go false e = omega (arith, e)

  -- those of the first elements are no more than those of all
  pub fewer_passing : (n : ℕ) (xs : List A) → length (passing f (take n xs)) ≤ length (passing f xs)
  fewer_passing n xs =
      omega (arith, ap (λ (l : List A). length (passing f l)) (take-append-drop n xs), ap length (passing_append (take n xs) (drop n xs)), length-append (passing f (take n xs)) (passing f (drop n xs)))

  pub fewer_failing : (n i : ℕ) (xs : List A) → length (failing f i (take n xs)) ≤ length (failing f i xs)
  fewer_failing n i xs =
      omega (arith, ap (λ (l : List A). length (failing f i l)) (take-append-drop n xs), ap length (failing_append i (take n xs) (drop n xs)), length-append (failing f i (take n xs)) (failing f (i + length (take n xs)) (drop n xs)))

  -- each of the elements taken passes
  pub passing_passes : (xs : List A) (d : A) (i : ℕ) → i < length (passing f xs) → f (get_or (passing f xs) i d) ≡ true
  passing_passes [] d i h = absurd (omega arith)
  passing_passes (x ∷ xs) d i h = go (f x) refl i h (passing_passes xs d)
    where
      go : (b : Bool) → f x ≡ b → (j : ℕ) → j < length (cond b (x ∷ passing f xs) (passing f xs)) → ((k : ℕ) → k < length (passing f xs) → f (get_or (passing f xs) k d) ≡ true) → f (get_or (cond b (x ∷ passing f xs) (passing f xs)) j d) ≡ true
      go true e zero l rest = e
      go true e (suc j) l rest = rest j (omega arith)
      go false e j l rest = rest j l

  -- where each element passes, all are kept and no number is listed
  pub each_passing : (xs : List A) (d : A) → ((i : ℕ) → i < length xs → f (get_or xs i d) ≡ true) → passing f xs ≡ xs
  each_passing [] d h = refl
  each_passing (x ∷ xs) d h = rw (h 0 (omega arith), each_passing xs d (λ i l. h (suc i) (omega arith))) refl

  pub each_failing : (n : ℕ) (xs : List A) (d : A) → ((i : ℕ) → i < length xs → f (get_or xs i d) ≡ true) → failing f n xs ≡ []
  each_failing n [] d h = refl
  each_failing n (x ∷ xs) d h = rw (h 0 (omega arith)) (each_failing (suc n) xs d (λ i l. h (suc i) (omega arith)))

  -- n is the number of an element that does not pass
  pub record Fails (i : ℕ) (xs : List A) (d : A) (n : ℕ) : Type 0 where
    pub from : i ≤ n
    pub to : n < i + length xs
    pub fails : f (get_or xs (n - i) d) ≡ false

  here : (i : ℕ) (x d : A) (xs : List A) → f x ≡ false → Fails i (x ∷ xs) d i
  here i x d xs e =
      let at : i - i ≡ 0 = omega arith in
      record { from = omega arith; to = omega arith; fails = ap (λ (j : ℕ). f (get_or (x ∷ xs) j d)) at ∙ e }

  further : (i n : ℕ) (x d : A) (xs : List A) → Fails (suc i) xs d n → Fails i (x ∷ xs) d n
  further i n x d xs h =
      let at : n - i ≡ suc (n - suc i) = omega (arith, h.from) in
      record { from = omega (arith, h.from); to = omega (arith, h.to); fails = ap (λ (j : ℕ). f (get_or (x ∷ xs) j d)) at ∙ h.fails }

  -- what is listed at j is the number of such an element
  pub listed_fails : (i : ℕ) (xs : List A) (d : A) (j : ℕ) → j < length (failing f i xs) → Fails i xs d (get_or (failing f i xs) j 0)
  listed_fails i [] d j h = absurd (omega arith)
  listed_fails i (x ∷ xs) d j h = go (f x) refl j h (listed_fails (suc i) xs d)
    where
      go : (b : Bool) → f x ≡ b → (k : ℕ) → k < length (cond b (failing f (suc i) xs) (i ∷ failing f (suc i) xs)) → ((m : ℕ) → m < length (failing f (suc i) xs) → Fails (suc i) xs d (get_or (failing f (suc i) xs) m 0)) →
          Fails i (x ∷ xs) d (get_or (cond b (failing f (suc i) xs) (i ∷ failing f (suc i) xs)) k 0)
      go true e k l rest = further i (get_or (failing f (suc i) xs) k 0) x d xs (rest k l)
      go false e zero l rest = here i x d xs e
      go false e (suc k) l rest = further i (get_or (failing f (suc i) xs) k 0) x d xs (rest k (omega arith))

  -- and the number of every such element is listed
  pub fails_listed : (i : ℕ) (xs : List A) (d : A) (n : ℕ) → Fails i xs d n → Listed n (failing f i xs)
  fails_listed i [] d n h = absurd (omega (arith, h.from, h.to))
  fails_listed i (x ∷ xs) d n h = go (f x) refl (eqb n i) refl (fails_listed (suc i) xs d n)
    where
      after : (n ≡ i → ⊥) → Fails (suc i) xs d n
      after k =
          let l : suc i ≤ n = omega (arith, h.from, k) in
          let at : n - i ≡ suc (n - suc i) = omega (arith, l) in
          record { from = l; to = omega (arith, h.to); fails = ap (λ (j : ℕ). f (get_or (x ∷ xs) j d)) (sym at) ∙ h.fails }

      first : n ≡ i → f x ≡ false
      first e = let at : n - i ≡ 0 = omega (arith, e) in ap (λ (j : ℕ). f (get_or (x ∷ xs) j d)) (sym at) ∙ h.fails

      go : (b : Bool) → f x ≡ b → (t : Bool) → eqb n i ≡ t → (Fails (suc i) xs d n → Listed n (failing f (suc i) xs)) → Listed n (cond b (failing f (suc i) xs) (i ∷ failing f (suc i) xs))
      go true e true q rest = absurd (true≢false (sym e ∙ first (eqb-true n i q)))
      go true e false q rest = rest (after (eqb-false n i q))
      go false e true q rest = record { place = 0; below = omega arith; is = sym (eqb-true n i q) }
      go false e false q rest = later i n (rest (after (eqb-false n i q)))

  -- and the numbers rise
  pub failing_rise : (i : ℕ) (xs : List A) (j k : ℕ) → j < k → k < length (failing f i xs) → get_or (failing f i xs) j 0 < get_or (failing f i xs) k 0
  failing_rise i [] j k h l = absurd (omega arith)
  failing_rise i (x ∷ xs) j k h l = go (f x) j k h l (failing_rise (suc i) xs)
    where
      go : (b : Bool) (m n : ℕ) → m < n → n < length (cond b (failing f (suc i) xs) (i ∷ failing f (suc i) xs)) → ((m n : ℕ) → m < n → n < length (failing f (suc i) xs) → get_or (failing f (suc i) xs) m 0 < get_or (failing f (suc i) xs) n 0) →
          get_or (cond b (failing f (suc i) xs) (i ∷ failing f (suc i) xs)) m 0 < get_or (cond b (failing f (suc i) xs) (i ∷ failing f (suc i) xs)) n 0
      go true m n g r rest = rest m n g r
      go false m zero g r rest = absurd (omega arith)
      go false zero (suc n) g r rest = (listed_fails (suc i) xs x n (omega arith)).from
      go false (suc m) (suc n) g r rest = rest m n (omega arith) (omega arith)
