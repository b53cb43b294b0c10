-- The locus of `Locus` as the code holds it. The cubics of the two pieces that meet at an entry both go through that entry and its two
-- neighbours, so they are one quadratic through these three and a multiple of the one cubic that is 0 at them. `PieceLaws` proves that they
-- give the same locus at every place (document 02, No. 3, and rule 2 of "The search").
use Rattle.std.specs.Prelude.{◌≡◌, cond, ℕ, ◌+◌, ◌-◌, ◌*◌, ◌/◌, ◌≤◌, min, max, ℤ, pos, nat_abs, ◌+ℤ◌, ◌-ℤ◌, ◌*ℤ◌}
use Rattle.std.specs.Int.Signed.{lt_z}
use Rattle.locus.specs.Stored.{entry_u, entry_v, piece_length, entry_place, first_entry, last_entry}
use Rattle.locus.specs.Locus.{first_of_four, denominator}
use Rattle.locus.specs.declared.Curve.{Curve}
use Rattle.locus.specs.declared.Span.{Span}

-- half of the denominator, which makes the division round to nearest, halves up
abbrev pub half : ℕ
half = 3 * piece_length * piece_length * piece_length

-- the third difference of four neighbouring coordinates, z − 3y + 3x − w
unfoldable pub third_difference : ℕ → ℕ → ℕ → ℕ → ℤ
third_difference w x y z = pos (z + 3 * x) -ℤ pos (3 * y + w)

-- that of the four entries that piece i goes through
unfoldable pub third_difference_of : (ℕ → ℕ) → ℕ → ℤ
third_difference_of entry i = let k : ℕ = first_of_four i in third_difference (entry k) (entry (k + 1)) (entry (k + 2)) (entry (k + 3))

-- the curve through x, y and z at a middle entry's neighbour before it, itself and its neighbour after it, times the denominator, with half
-- of that added
abbrev pub curve_through : ℕ → ℕ → ℕ → ℤ → ℤ → Curve
curve_through x y z l r =
    record {
      a = pos (denominator * y + half);
      b = pos (3 * piece_length * piece_length) *ℤ (pos z -ℤ pos x);
      c = pos (3 * piece_length) *ℤ (pos (z + x) -ℤ pos (2 * y));
      left = l;
      right = r;
    }

-- the curve about entry m, with the third differences of the pieces that end and start there
unfoldable pub curve_about : (ℕ → ℕ) → ℕ → Curve
curve_about entry m = curve_through (entry (m - 1)) (entry m) (entry (m + 1)) (third_difference_of entry (m - 1)) (third_difference_of entry m)

-- the third difference that a curve has t places past its middle entry
abbrev pub third_difference_at : Curve → ℤ → ℤ
third_difference_at curve t = cond (lt_z t (pos 0)) curve.left curve.right

-- the cubic with the numbers a, b and c of a curve and the third difference d, t places past the middle entry
unfoldable pub numerator : ℤ → ℤ → ℤ → ℤ → ℤ → ℤ
numerator a b c d t = a +ℤ t *ℤ (b +ℤ t *ℤ c +ℤ (t *ℤ t -ℤ pos (piece_length * piece_length)) *ℤ d)

-- what a curve gives t places past its middle entry
abbrev pub curve_at : Curve → ℤ → ℕ
curve_at curve t = nat_abs (numerator curve.a curve.b curve.c (third_difference_at curve t) t) / denominator

-- the middle entry of the span about entry m, by which its places are counted
abbrev pub middle_entry : ℕ → ℕ
middle_entry m = min 23 (max 2 m)

-- rule 2: the locus over the bracket about entry m
unfoldable pub span_about : ℕ → Span
span_about m =
    record {
      from = entry_place (first_entry m);
      mid = entry_place (middle_entry m);
      to = entry_place (last_entry m);
      u = curve_about entry_u (middle_entry m);
      v = curve_about entry_v (middle_entry m);
    }

-- a span is that about one of the 24 entries
pub record AboutAnEntry (span : Span) : Type 0 where
  pub entry : ℕ
  pub first : 1 ≤ entry
  pub last : entry ≤ 24
  pub is : span ≡ span_about entry
