-- Laws of two lists taken in step, whatever is made of their elements.
use Rattle.std.specs.Prelude.{◌≡◌, refl, ℕ, zero, suc, ◌+◌, ◌*◌, ◌≤◌, ◌<◌, min, length, take, get_or}
use Rattle.std.proofs.Common.{ap, ⊎_elim, arith, add-zero, length-append}
use mathlib.Core.List.Memᴰ
use mathlib.Core.List.{List, [], ◌∷◌, ◌++◌, map, append-nil, append_assoc, append-eq-nil_iff, map-append, Memᴰ}
use Rattle.compare.specs.Differences.{in_step}

module _ {A B : Type 0} (f : ℕ → A → A → List B) where
  -- one element more in each list
  pub in_step_last : (i : ℕ) (xs ys : List A) (x y : A) → length xs ≡ length ys → in_step f i (xs ++ (x ∷ [])) (ys ++ (y ∷ [])) ≡ in_step f i xs ys ++ f (i + length xs) x y
  in_step_last i [] [] x y e = rw (append-nil, add-zero)
  in_step_last i [] (b ∷ ys) x y e = absurd (omega arith)
  in_step_last i (a ∷ xs) [] x y e = absurd (omega arith)
  in_step_last i (a ∷ xs) (b ∷ ys) x y e =
      let on : i + suc (length xs) ≡ suc i + length xs = omega arith in
      rw (in_step_last (suc i) xs ys x y (omega arith), on, append_assoc)

  -- what lies beyond the shorter list does not matter
  pub in_step_short : (i n : ℕ) (xs ys : List A) → min (length xs) (length ys) ≤ n → in_step f i xs ys ≡ in_step f i (take n xs) (take n ys)
  in_step_short i zero [] ys h = refl
  in_step_short i zero (x ∷ xs) [] h = refl
  in_step_short i zero (x ∷ xs) (y ∷ ys) h = absurd (omega arith)
  in_step_short i (suc n) [] ys h = refl
  in_step_short i (suc n) (x ∷ xs) [] h = refl
  in_step_short i (suc n) (x ∷ xs) (y ∷ ys) h = ap (λ (z : List B). f i x y ++ z) (in_step_short (suc i) n xs ys (omega arith))

  -- how much there is, where any two elements give at most c
  pub in_step_length : (c : ℕ) → ((j : ℕ) (x y : A) → length (f j x y) ≤ c) → (i n : ℕ) (xs ys : List A) → min (length xs) (length ys) ≤ n → length (in_step f i xs ys) ≤ c * n
  in_step_length c k i n [] ys h = omega arith
  in_step_length c k i n (x ∷ xs) [] h = omega arith
  in_step_length c k i zero (x ∷ xs) (y ∷ ys) h = absurd (omega arith)
  in_step_length c k i (suc n) (x ∷ xs) (y ∷ ys) h =
      omega (arith, length-append (f i x y) (in_step f (suc i) xs ys), k i x y, in_step_length c k (suc i) n xs ys (omega arith))

  -- what two elements give is in the whole
  pub in_step_has : {e : B} (i j : ℕ) (xs ys : List A) (d : A) → j < length xs → j < length ys → Memᴰ e (f (i + j) (get_or xs j d) (get_or ys j d)) → Memᴰ e (in_step f i xs ys)
  in_step_has i j [] ys d h k m = absurd (omega arith)
  in_step_has i j (x ∷ xs) [] d h k m = absurd (omega arith)
  in_step_has i zero (x ∷ xs) (y ∷ ys) d h k m = Memᴰ.append_left (in_step f (suc i) xs ys) (rw add-zero at m)
  in_step_has i (suc j) (x ∷ xs) (y ∷ ys) d h k m =
      let on : i + suc j ≡ suc i + j = omega arith in
      Memᴰ.append_right (f i x y) (in_step_has (suc i) j xs ys d (omega arith) (omega arith) (rw on at m))

  -- where an element of the whole comes from
  pub record From (i : ℕ) (xs ys : List A) (d : A) (e : B) : Type 0 where
    pub place : ℕ
    pub in_first : place < length xs
    pub in_second : place < length ys
    pub given : Memᴰ e (f (i + place) (get_or xs place d) (get_or ys place d))

  pub in_step_from : {e : B} (i : ℕ) (xs ys : List A) (d : A) → Memᴰ e (in_step f i xs ys) → From i xs ys d e
  in_step_from i [] ys d m = absurd (Memᴰ.not-nil m)
  in_step_from i (x ∷ xs) [] d m = absurd (Memᴰ.not-nil m)
  in_step_from {e = e} i (x ∷ xs) (y ∷ ys) d m =
      ⊎_elim
      (λ k. record { place = 0; in_first = omega arith; in_second = omega arith; given = rw add-zero k })
      (λ k. let r = in_step_from {e = e} (suc i) xs ys d k in
      let on : suc i + r.place ≡ i + suc r.place = omega arith in
      record { place = suc r.place; in_first = omega (arith, r.in_first); in_second = omega (arith, r.in_second); given = rw on at r.given })
      (Memᴰ.append_cases (f i x y) m)

  -- the lists the other way round, where g turns what two elements give
  pub in_step_swap : (g : B → B) (i n : ℕ) (xs ys : List A) → i + length xs ≤ n → ((j : ℕ) (x y : A) → j < n → f j y x ≡ map g (f j x y)) → in_step f i ys xs ≡ map g (in_step f i xs ys)
  in_step_swap g i n [] [] h k = refl
  in_step_swap g i n [] (y ∷ ys) h k = refl
  in_step_swap g i n (x ∷ xs) [] h k = refl
  in_step_swap g i n (x ∷ xs) (y ∷ ys) h k = rw (k i x y (omega arith), in_step_swap g (suc i) n xs ys (omega arith) k, map-append)

  -- where equal elements give nothing, so do equal lists
  pub in_step_none : ((j : ℕ) (x : A) → f j x x ≡ []) → (i : ℕ) (xs : List A) → in_step f i xs xs ≡ []
  in_step_none k i [] = refl
  in_step_none k i (x ∷ xs) = rw (k i x, in_step_none k (suc i) xs)

  -- and where only equal elements give nothing, lists of one length that give nothing are equal
  pub in_step_same : ((j : ℕ) (x y : A) → f j x y ≡ [] → x ≡ y) → (i : ℕ) (xs ys : List A) → length xs ≡ length ys → in_step f i xs ys ≡ [] → xs ≡ ys
  in_step_same k i [] [] e n = refl
  in_step_same k i [] (y ∷ ys) e n = absurd (omega arith)
  in_step_same k i (x ∷ xs) [] e n = absurd (omega arith)
  in_step_same k i (x ∷ xs) (y ∷ ys) e n =
      let both = append-eq-nil_iff.0 n in
      rw (k i x y both.0, in_step_same k (suc i) xs ys (omega arith) both.1)
