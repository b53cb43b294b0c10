-- The order of two whole numbers, by multiples and by equal fractions.
use Rattle.std.specs.Prelude.{◌≡◌, ℕ, ◌*◌, ◌<◌, Bool, true, false, ltb, nat_lt, refl}
use Rattle.std.proofs.Common.{sym, ap, ◌∙◌, mul_comm, mul-le-mul_right, mul-lt-mul_of_pos_right, lt-ltb, le-ltb, ltb-true, ltb-false}

-- two numbers and the same multiple of both are in the same order
pub multiple_test : (a b c : ℕ) → 0 < c → nat_lt (a * c) (b * c) ≡ nat_lt a b
multiple_test a b c C = go (nat_lt a b) refl
  where
    go : (t : Bool) → nat_lt a b ≡ t → nat_lt (a * c) (b * c) ≡ nat_lt a b
    go true t = lt-ltb (a * c) (b * c) (mul-lt-mul_of_pos_right (ltb-true a b t) C) ∙ sym t
    go false t = le-ltb (a * c) (b * c) (mul-le-mul_right c (ltb-false a b t)) ∙ sym t

-- of a / b = n / d: a < b is n < d
pub fraction_test : (a b n d : ℕ) → 0 < b → 0 < d → a * d ≡ n * b → nat_lt a b ≡ nat_lt n d
fraction_test a b n d B D h =
    sym (multiple_test a b d D) ∙ ap (λ (x : ℕ). ltb x (b * d)) h ∙ ap (λ (x : ℕ). ltb (n * b) x) (mul_comm b d) ∙ multiple_test n d b B
