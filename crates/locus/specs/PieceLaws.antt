-- The code's curves give the locus: about each entry one quadratic and two third differences make up the cubics of its two pieces.
use Rattle.std.specs.Prelude.{◌≡◌, Bool, cond, List, T, ltb, ℤ, nat_abs, ◌-ℤ◌, ◌*ℤ◌}
use Rattle.std.proofs.Math.Path.{refl}
use Rattle.std.proofs.Common.{ap, ⊎_elim, eq-or-lt_of_le}
use Rattle.std.proofs.Math.Bool.{true, false}
use Prim.Native.Nat.{ℕ, ◌+◌, ◌-◌, ◌*◌, ◌/◌, ◌≤◌, max}
use native.Mathlib.Omega.{arith}
use Rattle.std.proofs.Math.IntN.{pos}
use Rattle.std.specs.Int.Signed.{non_neg}
use borrow.Author.Tests.{ltb-true, ltb-false}
use Rattle.arith.specs.Rounding.{nearest_quotient}
use Rattle.arith.specs.IntegerLaws.{Is, is_number, is_gap, is_sum, is_difference, is_product, is_also, is_nonneg, below_zero, abs_whole, gap_within, abs_product, at_least_is}
use Rattle.locus.specs.Stored.{table_u, table_v, entry_in, entry_u, entry_v, piece_length, entry_place, first_place, last_place, first_entry, last_entry}
use Rattle.locus.specs.StoredLaws.{steady_u, steady_v}
use Rattle.locus.specs.Locus.{piece_of, first_of_four, denominator, between, locus_at}
use Rattle.locus.specs.LocusLaws.{plus, minus, cubic_is, pieces_meet}
use Rattle.locus.specs.Code.Bounds.{far_out}
use Rattle.locus.specs.Code.Fits.{Steady, CurveFits}
use Rattle.locus.specs.Code.Pieces.{half, third_difference, third_difference_of, curve_through, curve_about, third_difference_at, numerator, curve_at, middle_entry, span_about, AboutAnEntry}
use Rattle.locus.specs.CurveLaws.{at_least_half, curve_small}
use Rattle.locus.specs.declared.Curve.{Curve}
use Rattle.locus.specs.declared.Span.{Span}

-- the numerator as a difference, from those of its parts
numerator_is :
    {a b c d t : ℤ} {pa na pb nb pc nc pd nd p n q m : ℕ}
    → Is a pa na → Is b pb nb → Is c pc nc → Is d pd nd → Is t p n → Is (t *ℤ t -ℤ pos 6677056) q m
    → Is (numerator a b c d t)
    (pa + (p * (pb + (p * pc + n * nc) + (q * pd + m * nd)) + n * (nb + (p * nc + n * pc) + (q * nd + m * pd))))
    (na + (p * (nb + (p * nc + n * pc) + (q * nd + m * pd)) + n * (pb + (p * pc + n * nc) + (q * pd + m * nd))))
unfolding numerator
numerator_is ha hb hc hd ht hs = is_sum ha (is_product ht (is_sum (is_sum hb (is_product ht hc)) (is_product hs hd)))

-- the numerator of the curve through x, y and z with third difference d
abbrev through : ℕ → ℕ → ℕ → ℤ → ℤ → ℤ
through x y z d t = let k : Curve = curve_through x y z d d in numerator k.a k.b k.c d t

-- the cubic through w, x, y and z, s places past the first, is the curve about the second of them or about the third, but for the half
module _ (w x y z s : ℕ) {t : ℤ} where
  about_second : Is t s 2584 → Is (through w x y (third_difference w x y z) t) (plus w x y z s + half) (minus w x y z s)
  unfolding third_difference
  about_second ht =
      let q = is_also (s * s) (5168 * s) (is_difference (is_product ht ht) (is_number 6677056)) (omega arith) in
      is_also _ _
      (numerator_is (is_number _) (is_product (is_number 20031168) (is_gap y w)) (is_product (is_number 7752) (is_gap (y + w) (2 * x)))
      (is_gap (z + 3 * x) (3 * y + w)) ht q)
      (omega arith)

  about_third : Is t s 5168 → Is (through x y z (third_difference w x y z) t) (plus w x y z s + half) (minus w x y z s)
  unfolding third_difference
  about_third ht =
      let q = is_also (s * s + 20031168) (10336 * s) (is_difference (is_product ht ht) (is_number 6677056)) (omega arith) in
      is_also _ _
      (numerator_is (is_number _) (is_product (is_number 20031168) (is_gap z x)) (is_product (is_number 7752) (is_gap (z + x) (2 * y)))
      (is_gap (z + 3 * x) (3 * y + w)) ht q)
      (omega arith)

-- the half that is added, and then the division, round to nearest, halves up
rounded : {q c : ℤ} {p n : ℕ} → Is q (p + half) n → Is c p n → n ≤ p → nat_abs q / denominator ≡ nearest_quotient (nat_abs c) denominator
rounded hq hc h = omega (arith, abs_whole hq (omega arith), abs_whole hc h)

-- at a place from entry i to entry i + 1 the locus is piece i, also where that piece ends
on_piece :
    (entry : ℕ → ℕ) (i place : ℕ) → 1 ≤ i → i ≤ 23 → entry_place i ≤ place → place ≤ entry_place (i + 1)
    → between entry i place ≡ between entry (piece_of place) place
on_piece entry i place l h lo hi =
    ⊎_elim
    (λ e. ⊎_elim (λ last. own (omega arith)) (λ m. shared e (omega arith)) (eq-or-lt_of_le h))
    (λ m. own (omega arith))
    (eq-or-lt_of_le hi)
  where
    own : piece_of place ≡ i → between entry i place ≡ between entry (piece_of place) place
    own p = rw p refl

    shared : place ≡ entry_place (i + 1) → i ≤ 22 → between entry i place ≡ between entry (piece_of place) place
    shared e m =
        let p : piece_of (entry_place (i + 1)) ≡ i + 1 = omega arith in
        rw (e, p) (pieces_meet entry i l m)

-- the curves about the entries of a steady table
module _ (table : List ℕ) (steady : Steady table) where
  abbrev e : ℕ → ℕ
  e = entry_in table

  next : (i j : ℕ) → 1 ≤ i → i ≤ 23 → j ≡ i + 1 → (e i ≤ e j + 10000) × (e j ≤ e i + 10000)
  next i j l h q = rw q (steady.near i l h)

  third_small : (i : ℕ) → nat_abs (third_difference_of e i) ≤ 40000
  unfolding third_difference_of third_difference
  third_small i =
      let k : ℕ = first_of_four i in
      let a = next k (k + 1) (omega arith) (omega arith) refl in
      let b = next (k + 1) (k + 2) (omega arith) (omega arith) (omega arith) in
      let c = next (k + 2) (k + 3) (omega arith) (omega arith) (omega arith) in
      gap_within (e (k + 3) + 3 * e (k + 1)) (3 * e (k + 2) + e k) 40000 (omega arith) (omega arith)

  curve_fits : (m : ℕ) → 2 ≤ m → m ≤ 23 → CurveFits (curve_about e m)
  unfolding curve_about
  curve_fits m l h =
      let a = next (m - 1) m (omega arith) (omega arith) (omega arith) in
      let b = next m (m + 1) (omega arith) h refl in
      let slope = gap_within (e (m + 1)) (e (m - 1)) 20000 (omega arith) (omega arith) in
      let bend = gap_within (e (m + 1) + e (m - 1)) (2 * e m) 20000 (omega arith) (omega arith) in
      record {
        a_nonneg = tt;
        a_large = omega (arith, steady.large m (omega arith));
        a_small = omega (arith, steady.small m (omega arith));
        b = omega (arith, abs_product (pos 20031168) (pos (e (m + 1)) -ℤ pos (e (m - 1))));
        c = omega (arith, abs_product (pos 7752) (pos (e (m + 1) + e (m - 1)) -ℤ pos (2 * e m)));
        left = third_small (m - 1);
        right = third_small m;
      }

  -- a place from entry m − 1 to entry m + 1
  module _ (m place : ℕ) (lm : 2 ≤ m) (hm : m ≤ 23) (lo : entry_place (m - 1) ≤ place) (hi : place ≤ entry_place (m + 1)) where
    abbrev t : ℤ
    t = pos place -ℤ pos (entry_place m)

    abbrev curve : Curve
    curve = curve_about e m

    abbrev n : ℤ
    n = numerator curve.a curve.b curve.c (third_difference_at curve t) t

    t_small : nat_abs t ≤ piece_length
    t_small = gap_within place (entry_place m) 2584 (omega arith) (omega arith)

    -- it lies in piece i, which ends or starts at entry m, and the curve has that piece's third difference there
    record Beside (i : ℕ) : Type 0 where
      first : 1 ≤ i
      last : i ≤ 23
      start : entry_place i ≤ place
      end : place ≤ entry_place (i + 1)
      second : first_of_four i + 1 ≤ m
      third : m ≤ first_of_four i + 2
      chosen : third_difference_at curve t ≡ third_difference_of e i

    beside : (b : Bool) → ltb place (entry_place m) ≡ b → Beside (cond b (m - 1) m)
    unfolding curve_about
    beside true q =
        let l = ltb-true place (entry_place m) q in
        record {
          first = omega arith;
          last = omega arith;
          start = lo;
          end = omega arith;
          second = omega arith;
          third = omega arith;
          chosen = rw (below_zero (is_gap place (entry_place m)), q) refl;
        }
    beside false q =
        let l = ltb-false place (entry_place m) q in
        record {
          first = omega arith;
          last = omega arith;
          start = l;
          end = hi;
          second = omega arith;
          third = omega arith;
          chosen = rw (below_zero (is_gap place (entry_place m)), q) refl;
        }

    module _ (i : ℕ) (at : Beside i) where
      abbrev k : ℕ
      k = first_of_four i

      abbrev s : ℕ
      s = place - entry_place k

      abbrev over : ℕ
      over = plus (e k) (e (k + 1)) (e (k + 2)) (e (k + 3)) s

      abbrev under : ℕ
      under = minus (e k) (e (k + 1)) (e (k + 2)) (e (k + 3)) s

      is_second : m ≡ k + 1 → Is n (over + half) under
      unfolding curve_about third_difference_of
      is_second q =
          let x : m - 1 ≡ k = omega arith in
          let z : m + 1 ≡ k + 2 = omega arith in
          rw (at.chosen, x, z, q)
          (about_second (e k) (e (k + 1)) (e (k + 2)) (e (k + 3)) s (is_also s 2584 (is_gap place (2584 * (k + 2))) (omega arith)))

      is_third : m ≡ k + 2 → Is n (over + half) under
      unfolding curve_about third_difference_of
      is_third q =
          let x : m - 1 ≡ k + 1 = omega arith in
          let z : m + 1 ≡ k + 3 = omega arith in
          rw (at.chosen, x, z, q)
          (about_third (e k) (e (k + 1)) (e (k + 2)) (e (k + 3)) s (is_also s 5168 (is_gap place (2584 * (k + 3))) (omega arith)))

      -- the curve is the piece's cubic, with the half added
      curve_is : Is n (over + half) under
      curve_is = ⊎_elim is_third (λ l. is_second (omega (arith, at.second))) (eq-or-lt_of_le at.third)

      piece_is : Is (between e i place) over under
      unfolding between
      piece_is = cubic_is (e k) (e (k + 1)) (e (k + 2)) (e (k + 3)) s

      under_over : under ≤ over
      under_over = omega (arith, at_least_is (at_least_half curve t (curve_fits m lm hm) t_small) curve_is)

      same_piece : between e i place ≡ between e (piece_of place) place
      same_piece = on_piece e i place at.first at.last at.start at.end

      gives : curve_at curve t ≡ locus_at e place
      unfolding locus_at
      gives = rw (← same_piece) (rounded curve_is piece_is under_over)

      own_nonneg : T (non_neg (between e (piece_of place) place))
      own_nonneg = rw same_piece at (is_nonneg piece_is under_over)

    -- the curve about entry m gives the locus there
    curve_gives : curve_at curve t ≡ locus_at e place
    curve_gives = gives _ (beside (ltb place (entry_place m)) refl)

    piece_nonneg : T (non_neg (between e (piece_of place) place))
    piece_nonneg = own_nonneg _ (beside (ltb place (entry_place m)) refl)

  coordinate_nonneg : (place : ℕ) → first_place ≤ place → place ≤ last_place → T (non_neg (between e (piece_of place) place))
  coordinate_nonneg place lo hi = piece_nonneg (max 2 (piece_of place)) place (omega arith) (omega arith) (omega arith) (omega arith)

-- on the locus neither numerator is below 0, so that no sign is lost in the rounding
pub not_below :
    (place : ℕ) → first_place ≤ place → place ≤ last_place
    → T (non_neg (between entry_u (piece_of place) place)) × T (non_neg (between entry_v (piece_of place) place))
not_below place lo hi = (coordinate_nonneg table_u steady_u place lo hi, coordinate_nonneg table_v steady_v place lo hi)

-- a curve gives the coordinate `entry` of the locus at a place, and its numbers are small
pub record CurveFollows (entry : ℕ → ℕ) (curve : Curve) (mid place : ℕ) : Type 0 where
  pub gives : curve_at curve (pos place -ℤ pos mid) ≡ locus_at entry place
  pub fits : CurveFits curve

-- a span gives the locus at a place, which is near its middle entry
pub record SpanFollows (span : Span) (place : ℕ) : Type 0 where
  pub u : CurveFollows entry_u span.u span.mid place
  pub v : CurveFollows entry_v span.v span.mid place
  pub near : nat_abs (pos place -ℤ pos span.mid) ≤ piece_length

-- the span about entry m runs over the bracket about it
pub span_ends : (m : ℕ) (span : Span) → span ≡ span_about m → (span.from ≡ entry_place (first_entry m)) × (span.to ≡ entry_place (last_entry m))
unfolding span_about
span_ends m span e = (ap (λ (s : Span). s.from) e, ap (λ (s : Span). s.to) e)

-- a span lies on the locus
pub span_range : {span : Span} → AboutAnEntry span → (first_place ≤ span.from) × (span.to ≤ last_place)
span_range {span} a = let e = span_ends a.entry span a.is in omega (arith, a.first, a.last)

-- a span gives the locus at each of its places
about_follows :
    (m place : ℕ) → 1 ≤ m → m ≤ 24 → entry_place (first_entry m) ≤ place → place ≤ entry_place (last_entry m)
    → SpanFollows (span_about m) place
unfolding span_about
about_follows m place m≥1 m≤24 lo hi =
    record {
      u = follows table_u steady_u;
      v = follows table_v steady_v;
      near = gap_within place (entry_place (middle_entry m)) 2584 (omega arith) (omega arith);
    }
  where
    follows :
        (table : List ℕ) → Steady table
        → CurveFollows (entry_in table) (curve_about (entry_in table) (middle_entry m)) (entry_place (middle_entry m)) place
    follows table s =
        record {
          gives = curve_gives table s (middle_entry m) place (omega arith) (omega arith) (omega arith) (omega arith);
          fits = curve_fits table s (middle_entry m) (omega arith) (omega arith);
        }

pub span_follows : {span : Span} {place : ℕ} → AboutAnEntry span → span.from ≤ place → place ≤ span.to → SpanFollows span place
span_follows {span} {place} a lo hi =
    let e = span_ends a.entry span a.is in
    rw a.is (about_follows a.entry place a.first a.last (rw e.0 at lo) (rw e.1 at hi))

-- the coordinates of the locus there are small
pub follows_small : {span : Span} {place : ℕ} → SpanFollows span place → (locus_at entry_u place ≤ far_out) × (locus_at entry_v place ≤ far_out)
follows_small {span} {place} f =
    let t : ℤ = pos place -ℤ pos span.mid in (
      rw f.u.gives at (curve_small span.u t f.u.fits f.near),
      rw f.v.gives at (curve_small span.v t f.v.fits f.near),
    )

-- and so they are on the whole locus
pub locus_small : (place : ℕ) → first_place ≤ place → place ≤ last_place → (locus_at entry_u place ≤ far_out) × (locus_at entry_v place ≤ far_out)
locus_small place lo hi = let m : ℕ = place / piece_length - 1 in follows_small (about_follows m place (omega arith) (omega arith) (omega arith) (omega arith))
