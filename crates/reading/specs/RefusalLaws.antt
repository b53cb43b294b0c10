-- Refusals 2, 3 and 4 of a reading, and refusal 3 of two whole numbers: each is given exactly under its condition, where none before it holds.
use Rattle.std.specs.Prelude.{◌≡◌, ℕ, Bool, true, false, cond, ◌&&◌, nat_le, refl, Ok, Err}
use Rattle.std.proofs.Common.{sym, subst, ◌∙◌, arith, leb-false}
use Rattle.std.proofs.lemmas.Bool.{lt-leb}
use Rattle.arith.specs.TestLaws.{first_fails, second_fails}
use Rattle.refusal.specs.declared.Refusal.{Refusal}
use Rattle.refusal.specs.declared.Refusal.TheVariants.{OutOfRange, TooDark}
use Rattle.reading.specs.Whole.{coordinate, tristimulus, to_whole}
use Rattle.reading.specs.Conditions.{all_finite, all_in_range, is_dark, ReadingCondition, not_finite, out_of_range, too_dark, MicroCondition, u_over, v_over}
use Rattle.reading.specs.Convert.{Converted, point, micro_limit, judged, of_uv, of_uv_prime, of_xy, of_xyz, of_coordinates, of_tristimulus, convert_reading, convert_micro}
use Rattle.reading.specs.declared.Chromaticity.{Chromaticity}
use Rattle.reading.specs.declared.Reading.{Reading}
use Rattle.reading.specs.declared.Reading.TheVariants.{Uv, UvPrime, Xy, Xyz}

-- the point that a reading's whole numbers come to by the rule of its kind
abbrev pub by_kind : Reading → Converted
by_kind (Uv u v) = of_uv (to_whole coordinate u) (to_whole coordinate v)
by_kind (UvPrime u v) = of_uv_prime (to_whole coordinate u) (to_whole coordinate v)
by_kind (Xy x y) = of_xy (to_whole coordinate x) (to_whole coordinate y)
by_kind (Xyz x y z) = of_xyz (to_whole tristimulus x) (to_whole tristimulus y) (to_whole tristimulus z)

-- one sentence for all four kinds: the three tests in their order, and then the point
pub in_order : (r : Reading) → convert_reading r ≡ judged (all_finite r) (all_in_range r) (cond (is_dark r) (Err TooDark) (by_kind r))
unfolding convert_reading of_coordinates of_tristimulus
in_order (Uv u v) = refl
in_order (UvPrime u v) = refl
in_order (Xy x y) = refl
in_order (Xyz x y z) = refl

-- under its condition a refusal is given
pub reading_condition_refused : (r : Reading) (s : Refusal) → ReadingCondition r s → convert_reading r ≡ Err s
reading_condition_refused r s (not_finite f) = in_order r ∙ rw f refl
reading_condition_refused r s (out_of_range f i) = in_order r ∙ rw (f, i) refl
reading_condition_refused r s (too_dark f i d) = in_order r ∙ rw (f, i, d) refl

-- where no condition is met, the reading comes to its point
pub clear_point : (r : Reading) → all_finite r ≡ true → all_in_range r ≡ true → is_dark r ≡ false → convert_reading r ≡ by_kind r
clear_point r f i d = in_order r ∙ rw (f, i, d) refl

-- u and v, and no refusal
abbrev pub IsPoint : Converted → Type 0
IsPoint c = (u : ℕ) × (v : ℕ) × (c ≡ Ok (point u v))

pub is_point : (r : Reading) → IsPoint (by_kind r)
is_point (Uv u v) = (_, _, refl)
is_point (UvPrime u v) = (_, _, refl)
is_point (Xy x y) = (_, _, refl)
is_point (Xyz x y z) = (_, _, refl)

-- what is a point is not refused
pub never : {A : Type 0} {c : Converted} {p : Chromaticity} {s : Refusal} → c ≡ Ok p → c ≡ Err s → A
never p q = let z : ◌≡◌ {A = ℕ} 0 1 = cc in absurd (omega arith)

-- a conversion gives at most one refusal: what holds of one that it gives holds of any that it gives
pub of_given : {c : Converted} {t s : Refusal} (P : Refusal → Type 0) → c ≡ Err t → c ≡ Err s → P t → P s
of_given {t = t} {s = s} P p q k = let e : t ≡ s = cc in subst P e k

-- a refusal that is given has its condition
pub reading_refused_condition : (r : Reading) (s : Refusal) → convert_reading r ≡ Err s → ReadingCondition r s
reading_refused_condition r s e = go (all_finite r) (all_in_range r) (is_dark r) refl refl refl
  where
    given : {t : Refusal} → ReadingCondition r t → ReadingCondition r s
    given {t} k = of_given (ReadingCondition r) (reading_condition_refused r t k) e k

    go : (f i d : Bool) → all_finite r ≡ f → all_in_range r ≡ i → is_dark r ≡ d → ReadingCondition r s
    go false i d a b c = given (not_finite a)
    go true false d a b c = given (out_of_range a b)
    go true true true a b c = given (too_dark a b c)
    go true true false a b c = never (is_point r).2 (sym (clear_point r a b c) ∙ e)

-- the same of two whole numbers
pub micro_condition_refused : (u v : ℕ) (s : Refusal) → MicroCondition u v s → convert_micro u v ≡ Err s
micro_condition_refused u v s (u_over h) = rw (first_fails (nat_le v micro_limit) (lt-leb u micro_limit h)) refl
micro_condition_refused u v s (v_over h) = rw (second_fails (nat_le u micro_limit) (lt-leb v micro_limit h)) refl

pub micro_refused_condition : (u v : ℕ) (s : Refusal) → convert_micro u v ≡ Err s → MicroCondition u v s
micro_refused_condition u v s = go (nat_le u micro_limit) (nat_le v micro_limit) refl refl
  where
    go : (a b : Bool) → nat_le u micro_limit ≡ a → nat_le v micro_limit ≡ b → cond (a && b) (Ok (point u v)) (Err OutOfRange) ≡ Err s → MicroCondition u v s
    go false b x y e = of_given (MicroCondition u v) refl e (u_over (leb-false u micro_limit x))
    go true false x y e = of_given (MicroCondition u v) refl e (v_over (leb-false v micro_limit y))
    go true true x y e = never refl e

-- two whole numbers that come to a point come to the point that they are
pub micro_point : (u v x y : ℕ) → convert_micro u v ≡ Ok (point x y) → convert_micro u v ≡ Ok (point u v)
micro_point u v x y = go (nat_le u micro_limit && nat_le v micro_limit)
  where
    go : (b : Bool) → cond b (Ok (point u v)) (Err OutOfRange) ≡ Ok (point x y) → cond b (Ok (point u v)) (Err OutOfRange) ≡ Ok (point u v)
    go true e = refl
    go false e = never e refl
