-- Laws of the test for the same number: it says what it should, also by the bits in which a machine holds the numbers.
use Rattle.std.specs.Prelude.{◌≡◌, refl, Bool, true, false, eqb, ℤ, pos, negsuc}
use Rattle.std.proofs.Common.{ap, sym, ◌∙◌, true≢false, eqb-true, eq-eqb, SFits, to_z, of_z}
use Rattle.std.proofs.lemmas.Bool.{eqb-false}
use Rattle.std.specs.Int.{Width}
use Rattle.arith.specs.Same.{same}
use Rattle.arith.specs.SignedLaws.{back}
use Rattle.arith.specs.TestLaws.{untrue}

pub same_true : (x y : ℤ) → same x y ≡ true → x ≡ y
same_true (pos m) (pos n) e = ap pos (eqb-true m n e)
same_true (pos m) (negsuc n) e = absurd (true≢false (sym e))
same_true (negsuc m) (pos n) e = absurd (true≢false (sym e))
same_true (negsuc m) (negsuc n) e = ap negsuc (eqb-true m n e)

pub same_self : (x : ℤ) → same x x ≡ true
same_self (pos n) = eq-eqb n n refl
same_self (negsuc n) = eq-eqb n n refl

pub same_false : (x y : ℤ) → same x y ≡ false → x ≡ y → ⊥
same_false x y e f = true≢false (sym (same_self x) ∙ ap (same x) f ∙ e)

pub false_same : (x y : ℤ) → (x ≡ y → ⊥) → same x y ≡ false
false_same x y h = untrue (same x y) (λ e. h (same_true x y e))

-- which of the two stands first does not matter
pub same_either : (x y : ℤ) → same x y ≡ same y x
same_either x y = go (same x y) refl
  where
    go : (b : Bool) → same x y ≡ b → b ≡ same y x
    go true e = sym (ap (same y) (same_true x y e) ∙ same_self y)
    go false e = sym (false_same y x (λ f. same_false x y e (sym f)))

-- the numbers are the same where the bits are in which a machine holds them
module _ (w : Width) (x y : ℤ) where
  pub bits_same : SFits w x → SFits w y → of_z w x ≡ of_z w y → same x y ≡ true
  bits_same f g e = ap (λ (z : ℤ). same z y) (sym (back f) ∙ ap (to_z w) e ∙ back g) ∙ same_self y

  pub bits_differ : (of_z w x ≡ of_z w y → ⊥) → same x y ≡ false
  bits_differ h = false_same x y (λ e. h (ap (of_z w) e))

  pub bits_test : SFits w x → SFits w y → eqb (of_z w x) (of_z w y) ≡ same x y
  bits_test f g = go (eqb (of_z w x) (of_z w y)) refl
    where
      go : (b : Bool) → eqb (of_z w x) (of_z w y) ≡ b → b ≡ same x y
      go true e = sym (bits_same f g (eqb-true (of_z w x) (of_z w y) e))
      go false e = sym (bits_differ (eqb-false (of_z w x) (of_z w y) e))
