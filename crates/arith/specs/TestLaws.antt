-- Laws of tests, of `&&` and of `cond` that several crates cite.
use Rattle.std.specs.Prelude.{◌≡◌, refl, Bool, true, false, ◌&&◌, cond}
use Rattle.std.proofs.lemmas.Bool.{false≢true}

-- a test that cannot pass fails
pub untrue : (b : Bool) → (b ≡ true → ⊥) → b ≡ false
untrue true h = absurd (h refl)
untrue false h = refl

pub and_both : (a b : Bool) → a && b ≡ true → (a ≡ true) × (b ≡ true)
and_both true b e = (refl, e)
and_both false b e = absurd (false≢true e)

pub both_and : {a b : Bool} → a ≡ true → b ≡ true → a && b ≡ true
both_and {a} {b} x y = rw (x, y) refl

pub first_fails : {a : Bool} (b : Bool) → a ≡ false → a && b ≡ false
first_fails b e = rw e refl

pub second_fails : (a : Bool) {b : Bool} → b ≡ false → a && b ≡ false
second_fails true e = e
second_fails false e = refl

-- a property of both choices is one of the choice
pub cond_both : {A : Type 0} (P : A → Type 0) (b : Bool) {x y : A} → P x → P y → P (cond b x y)
cond_both P true hx hy = hx
cond_both P false hx hy = hy
