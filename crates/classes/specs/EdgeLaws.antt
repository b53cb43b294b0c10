-- Laws of the edge rule: what valid edges give, and how a loop over the edges goes on and ends.
use Rattle.std.specs.Prelude.{◌≡◌, Bool, true, ◌&&◌, List, [], ◌∷◌, ℕ, zero, suc, ◌+◌, ◌-◌, ◌≤◌, ◌<◌, leb, ltb, length, get_or}
use Rattle.std.proofs.Math.Path.{refl}
use Rattle.std.proofs.Common.{le_refl, add-zero, suc-add, not-suc-le-zero, arith}
use Rattle.std.proofs.Math.ListN.{take}
use Rattle.std.proofs.Math.Seq.{take_all}
use borrow.Author.Tests.{ltb-true, leb-true, le-leb}
use Rattle.arith.specs.TestLaws.{and_both}
use Rattle.arith.specs.Every.{every}
use Rattle.arith.specs.EveryLaws.{every_at, every_next}
use Rattle.classes.specs.Edges.{edge, neighbours, rises, rising, is_edge, edges_valid}

-- each edge but the last has a next
neighbours_length : (es : List ℕ) → length (neighbours es) ≡ length es - 1
neighbours_length [] = refl
neighbours_length (x ∷ []) = refl
neighbours_length (x ∷ y ∷ l) = let h = neighbours_length (y ∷ l) in omega arith

neighbours_at : (es : List ℕ) (k : ℕ) → k < length es - 1 → get_or (neighbours es) k (0, 0) ≡ (edge es k, edge es (k + 1))
neighbours_at [] k h = absurd (not-suc-le-zero h)
neighbours_at (x ∷ []) k h = absurd (not-suc-le-zero h)
neighbours_at (x ∷ y ∷ l) zero h = refl
neighbours_at (x ∷ y ∷ l) (suc k) h = rw (suc-add k 1) (neighbours_at (y ∷ l) k (omega arith))

-- rising edges: a later one is no lower
pub edge_le : (es : List ℕ) → rising es ≡ true → (j i : ℕ) → j + i ≤ length es - 1 → edge es j ≤ edge es (j + i)
edge_le es up j zero h = rw add-zero (le_refl _)
edge_le es up j (suc i) h =
    let e : j + suc i ≡ j + i + 1 = omega arith in
    let r = every_at rises (neighbours es) (0, 0) up (j + i) (omega (arith, neighbours_length es)) in
    let s : ltb (edge es (j + i)) (edge es (j + i + 1)) ≡ true = rw (neighbours_at es (j + i) (omega arith)) at r in
    rw e (omega (arith, edge_le es up j i (omega arith), ltb-true (edge es (j + i)) (edge es (j + i + 1)) s))

-- valid edges rise, and are at most 32
pub valid_rise : (es : List ℕ) → edges_valid es ≡ true → rising es ≡ true
unfolding edges_valid
valid_rise es v =
    let x = and_both (leb 2 (length es) && leb (length es) 32 && rising es) (every is_edge es) v in
    (and_both (leb 2 (length es) && leb (length es) 32) (rising es) x.0).1

pub valid_short : (es : List ℕ) → edges_valid es ≡ true → length es ≤ 32
unfolding edges_valid
valid_short es v =
    let x = and_both (leb 2 (length es) && leb (length es) 32 && rising es) (every is_edge es) v in
    let y = and_both (leb 2 (length es) && leb (length es) 32) (rising es) x.0 in
    leb-true (length es) 32 (and_both (leb 2 (length es)) (leb (length es) 32) y.0).1

module _ (es : List ℕ) (k : ℕ) where
  -- one edge more, as a loop counts: whether the edges so far rise, and whether each is from 1600 to 20001
  pub rises_next : {r : Bool} → k < length es - 1 → r ≡ every rises (take k (neighbours es)) → r && ltb (edge es k) (edge es (k + 1)) ≡ every rises (take (k + 1) (neighbours es))
  rises_next h e =
      let next = every_next rises (neighbours es) (0, 0) k (omega (arith, neighbours_length es)) in
      rw (e, next, neighbours_at es k h) refl

  pub fits_next : {f g : Bool} → k < length es → f ≡ every is_edge (take k es) → g ≡ is_edge (edge es k) → f && g ≡ every is_edge (take (k + 1) es)
  fits_next h e g = rw (e, g, every_next is_edge es 0 k h) refl

  -- the loop ends at the last edge, which is tested apart
  pub valid_ends :
      {r f g : Bool} → k ≡ length es - 1 → 2 ≤ length es → length es ≤ 32 → r ≡ every rises (take k (neighbours es)) → f ≡ every is_edge (take k es) → g ≡ is_edge (edge es k)
      → r && (f && g) ≡ edges_valid es
  unfolding edges_valid
  valid_ends e h l up fit last =
      let a : take k (neighbours es) ≡ neighbours es = take_all k (neighbours es) (omega (arith, neighbours_length es)) in
      let b : take (k + 1) es ≡ es = take_all (k + 1) es (omega arith) in
      rw (fits_next (omega arith) fit last, up, a, b, le-leb 2 (length es) h, le-leb (length es) 32 l) refl
