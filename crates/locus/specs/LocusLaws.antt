-- The cubic of the definition is the only one through its four values; a piece goes through its four entries, adjoining pieces meet, and the
-- locus passes through all entries. Squared differences are small.
use Rattle.std.specs.Prelude.{◌≡◌, refl, ℕ, zero, suc, ◌+◌, ◌-◌, ◌*◌, ◌≤◌, min, ℤ, pos, ◌+ℤ◌, ◌-ℤ◌, ◌*ℤ◌}
use Rattle.std.proofs.Common.{ap, sym, ◌∙◌, mul-le-mul, add-zero, arith}
use Rattle.arith.specs.Rounding.{nearest_quotient}
use Rattle.arith.specs.IntegerLaws.{Is, above, below, is_number, is_parts, is_gap, is_sum, is_difference, is_product, is_also, is_same}
use Rattle.locus.specs.Stored.{entry_u, entry_v, piece_length, entry_place}
use Rattle.locus.specs.Locus.{piece_of, first_of_four, denominator, cubic, between, locus_at, difference, distance_at, entry_distance}
use Rattle.locus.specs.Code.Bounds.{far_out}
use Rattle.locus.specs.Code.Pieces.{third_difference}

-- the four entries are i − 1 to i + 2, but in the first piece 1 to 4 and in the last 21 to 24
pub first_of_four_lem : (first_of_four 1 ≡ 1) × ((i : ℕ) → 2 ≤ i → i ≤ 22 → first_of_four i ≡ i - 1) × (first_of_four 23 ≡ 21)
first_of_four_lem = (refl, (λ i low high. omega arith), refl)

-- h is a piece's length
abbrev h : ℕ
h = piece_length

-- the cubic multiplied out: the terms that are added, and those that are taken away
abbrev pub plus : ℕ → ℕ → ℕ → ℕ → ℕ → ℕ
plus w x y z s =
    z * (s * s * s + 2 * h * h * s) + 3 * y * (4 * h * (s * s)) + 3 * x * (s * s * s + 6 * h * h * s) + w * (6 * h * (s * s) + denominator)

abbrev pub minus : ℕ → ℕ → ℕ → ℕ → ℕ → ℕ
minus w x y z s =
    z * (3 * h * (s * s)) + 3 * y * (s * s * s + 3 * h * h * s) + 3 * x * (5 * h * (s * s)) + w * (s * s * s + 11 * h * h * s)

pub cubic_is : (w x y z s : ℕ) → Is (cubic w x y z s) (plus w x y z s) (minus w x y z s)
cubic_is w x y z s =
    let a = is_number s in
    let b = is_gap s 2584 in
    let c = is_gap s 5168 in
    let d = is_gap s 7752 in
    is_also _ _
    (is_difference
    (is_sum
    (is_difference (is_product (is_number z) (is_product (is_product a b) c)) (is_product (is_number (3 * y)) (is_product (is_product a b) d)))
    (is_product (is_number (3 * x)) (is_product (is_product a c) d)))
    (is_product (is_number w) (is_product (is_product b c) d)))
    (omega arith)

-- a + b·s + c·s² + d·s³
unfoldable pub polynomial : ℤ → ℤ → ℤ → ℤ → ℕ → ℤ
polynomial a b c d s = a +ℤ b *ℤ pos s +ℤ c *ℤ pos (s * s) +ℤ d *ℤ pos (s * s * s)

-- as a difference, from those of its coefficients
polynomial_from :
    {a b c d : ℤ} {pa na pb nb pc nc pd nd : ℕ} (s : ℕ) → Is a pa na → Is b pb nb → Is c pc nc → Is d pd nd
    → Is (polynomial a b c d s) (pa + pb * s + pc * (s * s) + pd * (s * s * s)) (na + nb * s + nc * (s * s) + nd * (s * s * s))
unfolding polynomial
polynomial_from s ia ib ic id =
    is_also _ _
    (is_sum
    (is_sum (is_sum ia (is_product ib (is_number s))) (is_product ic (is_number (s * s))))
    (is_product id (is_number (s * s * s))))
    (omega arith)

polynomial_is :
    (a b c d : ℤ) (s : ℕ)
    → Is (polynomial a b c d s)
    (above a + above b * s + above c * (s * s) + above d * (s * s * s))
    (below a + below b * s + below c * (s * s) + below d * (s * s * s))
polynomial_is a b c d s = polynomial_from s (is_parts a) (is_parts b) (is_parts c) (is_parts d)

-- the coefficients of s and of s² in the cubic; that of s³ is the third difference
abbrev first_coefficient : ℕ → ℕ → ℕ → ℕ → ℤ
first_coefficient w x y z = pos (h * h * (18 * x + 2 * z)) -ℤ pos (h * h * (11 * w + 9 * y))

abbrev second_coefficient : ℕ → ℕ → ℕ → ℕ → ℤ
second_coefficient w x y z = pos (3 * h * (2 * w + 4 * y)) -ℤ pos (3 * h * (5 * x + z))

-- the cubic is a polynomial of degree 3 or less
pub cubic_polynomial :
    (w x y z s : ℕ)
    → polynomial (pos (denominator * w)) (first_coefficient w x y z) (second_coefficient w x y z) (third_difference w x y z) s ≡ cubic w x y z s
unfolding third_difference
cubic_polynomial w x y z s =
    is_same
    (polynomial_from s (is_number (denominator * w)) (is_gap (h * h * (18 * x + 2 * z)) (h * h * (11 * w + 9 * y)))
    (is_gap (3 * h * (2 * w + 4 * y)) (3 * h * (5 * x + z))) (is_gap (z + 3 * x) (3 * y + w)))
    (cubic_is w x y z s)
    (omega arith)

-- a polynomial is `denominator` times w, x, y and z at 0, 1, 2 and 3 lengths of a piece
pub record HasValues (a b c d : ℤ) (w x y z : ℕ) : Type 0 where
  pub at_0 : polynomial a b c d 0 ≡ pos (denominator * w)
  pub at_1 : polynomial a b c d piece_length ≡ pos (denominator * x)
  pub at_2 : polynomial a b c d (2 * piece_length) ≡ pos (denominator * y)
  pub at_3 : polynomial a b c d (3 * piece_length) ≡ pos (denominator * z)

module _ (a b c d : ℤ) (w x y z : ℕ) (has : HasValues a b c d w x y z) where
  value :
      (s k : ℕ) → polynomial a b c d s ≡ pos k
      → above a + above b * s + above c * (s * s) + above d * (s * s * s) ≡ k + (below a + below b * s + below c * (s * s) + below d * (s * s * s))
  value s k e = (rw e at (polynomial_is a b c d s)).is

  -- then its coefficients are the cubic's
  coefficients :
      (above b + h * h * (11 * w + 9 * y) ≡ below b + h * h * (18 * x + 2 * z))
      × (above c + 3 * h * (5 * x + z) ≡ below c + 3 * h * (2 * w + 4 * y))
      × (above d + 3 * y + w ≡ below d + z + 3 * x)
  coefficients = omega (arith, value 0 _ has.at_0, value 2584 _ has.at_1, value 5168 _ has.at_2, value 7752 _ has.at_3)

  -- so it is the cubic: no other polynomial of degree 3 or less, with whole coefficients, has these values
  pub cubic_only : (s : ℕ) → polynomial a b c d s ≡ cubic w x y z s
  cubic_only s =
      is_same (polynomial_is a b c d s) (cubic_is w x y z s)
      (omega (
        arith,
        value 0 _ has.at_0,
        ap (λ (n : ℕ). n * s) coefficients.0,
        ap (λ (n : ℕ). n * (s * s)) coefficients.1,
        ap (λ (n : ℕ). n * (s * s * s)) coefficients.2,
      ))

-- the cubic through entries k to k + 3, s places past entry k
abbrev from_entry : (ℕ → ℕ) → ℕ → ℕ → ℤ
from_entry entry k s = cubic (entry k) (entry (k + 1)) (entry (k + 2)) (entry (k + 3)) s

-- it goes through its four entries
module _ (entry : ℕ → ℕ) (k : ℕ) where
  at_node :
      (s whole : ℕ)
      → plus (entry k) (entry (k + 1)) (entry (k + 2)) (entry (k + 3)) s ≡ minus (entry k) (entry (k + 1)) (entry (k + 2)) (entry (k + 3)) s + denominator * whole
      → from_entry entry k s ≡ pos (denominator * whole)
  at_node s whole e = is_same (cubic_is _ _ _ _ s) (is_number (denominator * whole)) (omega arith)

  node : (j : ℕ) → j ≤ 3 → from_entry entry k (piece_length * j) ≡ pos (denominator * entry (k + j))
  node zero few = at_node 0 (entry k) (omega arith) ∙ ap (λ (n : ℕ). pos (denominator * entry n)) (sym (add-zero k))
  node (suc zero) few = at_node 2584 (entry (k + 1)) (omega arith)
  node (suc (suc zero)) few = at_node 5168 (entry (k + 2)) (omega arith)
  node (suc (suc (suc zero))) few = at_node 7752 (entry (k + 3)) (omega arith)
  node (suc (suc (suc (suc j)))) few = absurd (omega arith)

-- a piece goes through the four entries that it is made of, exactly
pub between_entry :
    (entry : ℕ → ℕ) (i j : ℕ) → first_of_four i ≤ j → j ≤ first_of_four i + 3
    → between entry i (entry_place j) ≡ pos (denominator * entry j)
unfolding between
between_entry entry i j low high =
    let k : ℕ = first_of_four i in
    let s : entry_place j - entry_place k ≡ piece_length * (j - k) = omega arith in
    let e : k + (j - k) ≡ j = omega arith in
    rw s (node entry k (j - k) (omega arith) ∙ ap (λ (n : ℕ). pos (denominator * entry n)) e)

-- adjoining pieces meet at the entry that they share
pub pieces_meet :
    (entry : ℕ → ℕ) (i : ℕ) → 1 ≤ i → i ≤ 22
    → between entry i (entry_place (i + 1)) ≡ between entry (i + 1) (entry_place (i + 1))
pieces_meet entry i low high =
    between_entry entry i (i + 1) (omega arith) (omega arith)
    ∙ sym (between_entry entry (i + 1) (i + 1) (omega arith) (omega arith))

-- a whole number needs no rounding
whole_rounded : (n : ℕ) → nearest_quotient (denominator * n) denominator ≡ n
whole_rounded n = omega arith

-- the locus passes through its entries
pub locus_entry : (entry : ℕ → ℕ) (i : ℕ) → 1 ≤ i → i ≤ 24 → locus_at entry (entry_place i) ≡ entry i
unfolding locus_at
locus_entry entry i low high =
    let p : piece_of (entry_place i) ≡ min 23 i = omega arith in
    rw (p, between_entry entry (min 23 i) i (omega arith) (omega arith)) (whole_rounded (entry i))

pub entry_distance_lem : (u v i : ℕ) → 1 ≤ i → i ≤ 24 → distance_at u v (entry_place i) ≡ entry_distance u v i
unfolding distance_at entry_distance
entry_distance_lem u v i low high = rw (locus_entry entry_u i low high, locus_entry entry_v i low high) refl

-- a squared difference of coordinates of readings fits 64 bits
pub square_small : (x y : ℕ) → x ≤ far_out → y ≤ far_out → difference x y * difference x y ≤ 16000000000000
square_small x y hx hy = mul-le-mul {n₁ = difference x y} {m₁ = difference x y} {n₂ = far_out} {m₂ = far_out} (omega arith) (omega arith)
