-- A house's view of a day turns on its part in the day alone.
use Rattle.std.specs.Prelude.{◌≡◌, refl, Ok, Err, Bool, true, false, cond, ◌&&◌, List, [], ◌∷◌, ◌++◌, map, ℕ, ◌+◌, ◌-◌, ◌≤◌, ◌<◌, ltb, leb, length, take, drop, replicate}
use Rattle.std.proofs.Common.{ap, sym, ◌∙◌, zero-add, arith, length-append, length-drop, drop_of_length-le, get_or-take, get_or-drop, get_or-append-add, ext_get_or, length-take-le, lt-ltb, le-ltb, ltb-true, le-leb, leb-true}
use Rattle.std.proofs.lemmas.Bool.{false≢true}
use Rattle.std.proofs.lemmas.List.{map-append, length-map, length-replicate}
use Rattle.std.proofs.Math.ListN.{get_or-append}
use Rattle.std.proofs.Math.Seq.{take-length}
use Rattle.arith.specs.TestLaws.{untrue, and_both, both_and}
use Rattle.records.specs.declared.fields.Record.{Record}
use Rattle.board.specs.declared.Party.{Party}
use Rattle.board.specs.declared.Party.TheVariants.{Ours, Partner}
use Rattle.board.specs.declared.Lot.{Lot}
use Rattle.board.specs.declared.Board.{Board}
use Rattle.board.specs.declared.Told.TheVariants.{Loaded}
use Rattle.board.specs.declared.Denied.TheVariants.{TooManyLots}
use Rattle.board.specs.declared.Answered.{Answered}
use Rattle.board.specs.Table.{most_lots, zero_lot, fresh, load_told, lot_at, Call, caller, reaches, tell, next, table_after, answers}
use Rattle.board.specs.TableLaws.{after_length}
use Rattle.board.specs.Boards.{board_of, owns, board_after, told_in}
use Rattle.board.specs.RuleLaws.{is_refused, load_taken, table_length, ours_reach, theirs_reach}
use Rattle.board.specs.SharingLaws.{table_board, after_board, told_board}
use Rattle.board.specs.AlikeLaws.{Alike, tell_alike, own_alike, other_alike}
use Rattle.board.specs.Isolation.{Day, morning, same, is_own, calls_of, told_of, lots_of, first_of, Part, part_of, View, view_of, Isolated}

-- ---- a house by itself

-- its first place, and all behind it, are its own
abbrev from : ℕ → Party → ℕ → Bool
from first w p = leb first p

-- its lots, behind as many lots of zeros as there are places before its first
abbrev behind : ℕ → List Lot → List Lot
behind first l = replicate first zero_lot ++ l

-- what calls are told there, one after the other, and the lots at the end
abbrev view_behind : (first : ℕ) → List Lot → List (Call Party) → View
view_behind first l cs = record { told = answers (from first) (behind first l) cs; lots = drop first (table_after (from first) (behind first l) cs) }

-- the view that a house's part by itself gives
abbrev pub alone : Part → View
alone a = view_behind a.first (map fresh a.load) a.calls

-- the caller of an own call is the house, and no place is both houses'
own_caller : (w v : Party) → same w v ≡ true → v ≡ w
own_caller Ours Ours e = refl
own_caller Ours Partner e = absurd (false≢true e)
own_caller Partner Ours e = absurd (false≢true e)
own_caller Partner Partner e = refl

apart : (n : ℕ) (w v : Party) → same w v ≡ false → (p : ℕ) → owns n v p ≡ true → owns n w p ≡ true → ⊥
apart n Ours Ours e p x y = false≢true (sym e)
apart n Ours Partner e p x y = omega (arith, leb-true n p x, ltb-true p n y)
apart n Partner Ours e p x y = omega (arith, ltb-true p n x, leb-true n p y)
apart n Partner Partner e p x y = false≢true (sym e)

-- the calls of both houses tell it, and leave it, what its own calls do
module _ (n k : ℕ) (w : Party) where
  told_alone : (t t' : List Lot) → Alike (owns n) (from k) w t t' → (cs : List (Call Party)) → told_of w cs (answers (owns n) t cs) ≡ answers (from k) t' (calls_of w cs)
  told_alone t t' a [] = refl
  told_alone t t' a (c ∷ cs) = go (is_own w c) refl (λ u u' b. told_alone u u' b cs)
    where
      go : (b : Bool) → is_own w c ≡ b →
          ((u u' : List Lot) → Alike (owns n) (from k) w u u' → told_of w cs (answers (owns n) u cs) ≡ answers (from k) u' (calls_of w cs)) →
          cond b (tell (owns n) t c ∷ told_of w cs (answers (owns n) (next (owns n) t c) cs)) (told_of w cs (answers (owns n) (next (owns n) t c) cs)) ≡ answers (from k) t' (cond b (c ∷ calls_of w cs) (calls_of w cs))
      go true e rest =
          let o = own_caller w (caller c) e in
          let d = tell_alike (owns n) (from k) w t t' a c o in
          let r = rest (next (owns n) t c) (next (from k) t' c) (own_alike (owns n) (from k) w t t' a c o) in
          λ i. d i ∷ r i
      go false e rest = rest (next (owns n) t c) t' (other_alike (owns n) (from k) w t t' a c (apart n w (caller c) e))

  after_alone : (t t' : List Lot) → Alike (owns n) (from k) w t t' → (cs : List (Call Party)) → Alike (owns n) (from k) w (table_after (owns n) t cs) (table_after (from k) t' (calls_of w cs))
  after_alone t t' a [] = a
  after_alone t t' a (c ∷ cs) = go (is_own w c) refl (λ u u' b. after_alone u u' b cs)
    where
      go : (b : Bool) → is_own w c ≡ b →
          ((u u' : List Lot) → Alike (owns n) (from k) w u u' → Alike (owns n) (from k) w (table_after (owns n) u cs) (table_after (from k) u' (calls_of w cs))) →
          Alike (owns n) (from k) w (table_after (owns n) (next (owns n) t c) cs) (table_after (from k) t' (cond b (c ∷ calls_of w cs) (calls_of w cs)))
      go true e rest = rest (next (owns n) t c) (next (from k) t' c) (own_alike (owns n) (from k) w t t' a c (own_caller w (caller c) e))
      go false e rest = rest (next (owns n) t c) t' (other_alike (owns n) (from k) w t t' a c (apart n w (caller c) e))

-- ---- a house on a table: it reaches its own lots l, which stand there from its first place on

module _ (n : ℕ) (w : Party) (first : ℕ) (l t : List Lot) where
  record Stands : Type 0 where
    pub reach : (p : ℕ) → reaches (owns n) t w p ≡ leb first p && ltb p (first + length l)
    pub lot : (i : ℕ) → i < length l → lot_at t (first + i) ≡ lot_at l i
    pub room : first + length l ≤ length t

  module _ (h : Stands) where
    behind_length : length (behind first l) ≡ first + length l
    behind_length = length-append (replicate first zero_lot) l ∙ omega (arith, length-replicate first zero_lot)

    stands_alike : Alike (owns n) (from first) w t (behind first l)
    stands_alike =
        record {
          reach = λ p. h.reach p ∙ ap (λ (k : ℕ). leb first p && ltb p k) (sym behind_length);
          lot = λ p r.
              let b = and_both (leb first p) (ltb p (first + length l)) (sym (h.reach p) ∙ r) in
              let low = leb-true first p b.0 in
              let high = ltb-true p (first + length l) b.1 in
              let i = p - first in
              let x : p ≡ first + i = omega (arith, low) in
              let y : length (replicate first zero_lot) + i ≡ p = omega (arith, low, length-replicate first zero_lot) in
              ap (lot_at t) x ∙ h.lot i (omega (arith, low, high)) ∙ sym (get_or-append-add (replicate first zero_lot) l i zero_lot) ∙ ap (lot_at (behind first l)) y;
        }

    -- and its lots stand there at the end
    stands_end : (cs : List (Call Party)) → take (length l) (drop first (table_after (owns n) t cs)) ≡ drop first (table_after (from first) (behind first l) (calls_of w cs))
    stands_end cs =
        let end = table_after (owns n) t cs in
        let own = table_after (from first) (behind first l) (calls_of w cs) in
        let a = after_alone n first w t (behind first l) stands_alike cs in
        let k = after_length (owns n) t cs in
        let m = after_length (from first) (behind first l) (calls_of w cs) ∙ behind_length in
        let e = length-take-le (length l) (drop first end) (omega (arith, length-drop first end, k, h.room)) in
        ext_get_or zero_lot (take (length l) (drop first end)) (drop first own) (e ∙ sym (length-drop first own ∙ omega (arith, m)))
        (λ i b.
        let j : i < length l = omega (arith, e) in
        let there : reaches (from first) own w (first + i) ≡ true = both_and (le-leb first (first + i) (omega arith)) (lt-ltb (first + i) (length own) (omega (arith, j, m))) in
        get_or-take (length l) (drop first end) i zero_lot j ∙ get_or-drop first end i zero_lot ∙ a.lot (first + i) (a.reach (first + i) ∙ there)
        ∙ sym (get_or-drop first own i zero_lot))

-- ---- both houses stand on the table of a load

module _ (xs ys : List Record) where
  abbrev both : List Lot
  both = map fresh (xs ++ ys)

  both_is : both ≡ map fresh xs ++ map fresh ys
  both_is = map-append fresh xs ys

  ours_stand : Stands (length xs) Ours 0 (map fresh xs) both
  ours_stand =
      record {
        reach = λ p. ours_reach xs ys p ∙ sym (rw (le-leb 0 p (omega arith), length-map xs fresh, zero-add (length xs)) refl);
        lot = λ i h. ap (λ (k : ℕ). lot_at both k) (zero-add i) ∙ ap (λ (t : List Lot). lot_at t i) both_is ∙ get_or-append (map fresh xs) (map fresh ys) zero_lot i h;
        room = omega (arith, length-map xs fresh, table_length xs ys);
      }

  theirs_stand : Stands (length xs) Partner (length xs) (map fresh ys) both
  theirs_stand =
      record {
        reach = λ p. theirs_reach xs ys p ∙ ap (λ (k : ℕ). leb (length xs) p && ltb p (length xs + k)) (sym (length-map ys fresh));
        lot = λ i h.
            ap (λ (t : List Lot). lot_at t (length xs + i)) both_is ∙ ap (λ (k : ℕ). lot_at (map fresh xs ++ map fresh ys) (k + i)) (sym (length-map xs fresh))
            ∙ get_or-append-add (map fresh xs) (map fresh ys) i zero_lot;
        room = omega (arith, length-map ys fresh, table_length xs ys);
      }

-- a partner without lots reaches nothing
none_stand : (xs : List Record) → Stands (length xs) Partner 0 [] (both xs [])
none_stand xs =
    record {
      reach = λ p. untrue (reaches (owns (length xs)) (both xs []) Partner p) (λ e.
          let b = and_both (leb (length xs) p) (ltb p (length xs + 0)) (sym (theirs_reach xs [] p) ∙ e) in
          omega (arith, leb-true (length xs) p b.0, ltb-true p (length xs + 0) b.1))
          ∙ sym (rw (le-leb 0 p (omega arith), le-ltb p 0 (omega arith)) refl);
      lot = λ i h. absurd (omega arith);
      room = omega arith;
    }

-- so the partner's lots stand from its first place on
partner_stands : (xs ys : List Record) → Stands (length xs) Partner (first_of (length xs) ys) (map fresh ys) (both xs ys)
partner_stands xs [] = none_stand xs
partner_stands xs (y ∷ ys) = theirs_stand xs (y ∷ ys)

-- and what lies behind our places is as many lots from there on
behind_ours : (xs ys : List Record) (t : List Lot) → length t ≡ length xs + length ys → drop (length xs) t ≡ take (length (map fresh ys)) (drop (first_of (length xs) ys) t)
behind_ours xs [] t e = drop_of_length-le t {i = length xs} (omega arith)
behind_ours xs (y ∷ ys) t e =
    let l = drop (length xs) t in
    let k : length l ≡ length (map fresh (y ∷ ys)) = length-drop (length xs) t ∙ omega (arith, length-map (y ∷ ys) fresh) in
    sym (take-length l) ∙ ap (λ (j : ℕ). take j l) k

-- ---- a day

fits : (rs : List Record) → load_told rs ≡ Ok Loaded → length rs ≤ most_lots
fits rs e = go (leb (length rs) most_lots) refl (ap is_refused e)
  where
    go : (b : Bool) → leb (length rs) most_lots ≡ b → is_refused (cond b (Ok Loaded) (Err TooManyLots)) ≡ false → length rs ≤ most_lots
    go true f g = leb-true (length rs) most_lots f
    go false f g = absurd (false≢true (sym g))

-- the table of both loads at the end of a day
abbrev end_of : Day → List Lot
end_of d = table_after (owns (length d.ours)) (both d.ours d.theirs) d.calls

-- a house that stands on the table of the loads has the view that its lots alone give it
module _ (w : Party) (d : Day) (first : ℕ) (l : List Lot) (h : Stands (length d.ours) w first l (both d.ours d.theirs)) where
  stands_view : lots_of w (board_of (length d.ours) (end_of d)) ≡ take (length l) (drop first (end_of d)) → (morning d).told ≡ Ok Loaded →
      view_of w d ≡ view_behind first l (calls_of w d.calls)
  stands_view e m =
      let n = length d.ours in
      let t = both d.ours d.theirs in
      let cs = d.calls in
      let b = ap (λ (a : Answered). a.board) (load_taken d.ours d.theirs (fits (d.ours ++ d.theirs) m)) in
      let x = ap (λ (z : Board). told_of w cs (told_in z cs)) b ∙ ap (told_of w cs) (told_board n t cs) ∙ told_alone n first w t (behind first l) (stands_alike n w first l t h) cs in
      let y = ap (λ (z : Board). lots_of w (board_after z cs)) b ∙ ap (lots_of w) (after_board n t cs) ∙ e ∙ stands_end n w first l t h cs in
      λ i. record { told = x i; lots = y i }

-- a house's view of a day is what its part alone gives
pub view_alone : (w : Party) (d : Day) → (morning d).told ≡ Ok Loaded → view_of w d ≡ alone (part_of w d)
view_alone Ours d m =
    let n = length d.ours in
    let e = ap (take n) (table_board n (end_of d)) ∙ ap (λ (k : ℕ). take k (end_of d)) (sym (length-map d.ours fresh)) in
    stands_view Ours d 0 (map fresh d.ours) (ours_stand d.ours d.theirs) e m
view_alone Partner d m =
    let n = length d.ours in
    let k = after_length (owns n) (both d.ours d.theirs) d.calls ∙ table_length d.ours d.theirs in
    let e = ap (drop n) (table_board n (end_of d)) ∙ behind_ours d.ours d.theirs (end_of d) k in
    stands_view Partner d (first_of n d.theirs) (map fresh d.theirs) (partner_stands d.ours d.theirs) e m

pub isolation : (w : Party) → Isolated w
isolation w d e l m p = view_alone w d l ∙ ap alone p ∙ sym (view_alone w e m)
