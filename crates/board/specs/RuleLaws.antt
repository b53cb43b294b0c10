-- A call is told what its rule says, and one rule always applies; what a refusal carries and leaves; whose places a load gives.
use Rattle.std.specs.Prelude.{◌≡◌, refl, Result, Ok, Err, Bool, true, false, cond, ◌&&◌, List, [], ◌++◌, map, ◌⊎◌, ℕ, ◌+◌, ◌≤◌, ◌<◌, eqb, ltb, leb, length}
use Rattle.std.proofs.Common.{ap, sym, ◌∙◌, inl, inr, arith, length-append, lt-ltb, ltb-true, eq-eqb, ne_eqb, eqb-true, le-leb}
use Rattle.std.proofs.lemmas.Bool.{false≢true, eqb-false, lt-leb}
use Rattle.std.proofs.lemmas.List.{length-map}
use Rattle.arith.specs.TestLaws.{and_both, both_and}
use Rattle.refusal.specs.declared.Refusal.{Refusal}
use Rattle.records.specs.declared.fields.Record.{Record}
use Rattle.board.specs.declared.Party.TheVariants.{Ours, Partner}
use Rattle.board.specs.declared.Lot.{Lot}
use Rattle.board.specs.declared.Told.{Told}
use Rattle.board.specs.declared.Told.TheVariants.{Loaded, Holds, Stored}
use Rattle.board.specs.declared.Denied.{Denied}
use Rattle.board.specs.declared.Denied.TheVariants.{TooManyLots, NoSuchPlace, StaleStamp, LastStamp}
use Rattle.board.specs.Table.{most_lots, last_stamp, fresh, refusal_of, stamp_of, lot_at, Call, reads, assigns, put, is_stored, reaches, tell, next}
use Rattle.board.specs.Boards.{board_of, loaded, owns}
use Rattle.board.specs.Rules.{Reached, Rule, read_no_place, read_lot, assign_no_place, stale, last, stored}

-- whether a load or a call is refused
abbrev pub is_refused : Result Told Denied → Bool
is_refused (Ok d) = false
is_refused (Err d) = true

-- refusal 18 alone carries a stamp
pub carries : (d : Denied) → (refusal_of d ≡ Refusal.StaleStamp) ⊎ (stamp_of d ≡ 0)
carries TooManyLots = inr refl
carries NoSuchPlace = inr refl
carries (StaleStamp s) = inl refl
carries LastStamp = inr refl

module _ {Who : Type 0} (may : Who → ℕ → Bool) (t : List Lot) where
  reached_true : (w : Who) (p : ℕ) → Reached may t w p → reaches may t w p ≡ true
  reached_true w p h = both_and h.allowed (lt-ltb p (length t) h.place)

  true_reached : (w : Who) (p : ℕ) → reaches may t w p ≡ true → Reached may t w p
  true_reached w p e = let b = and_both (may w p) (ltb p (length t)) e in record { allowed = b.0; place = ltb-true p (length t) b.1 }

  reached_false : (w : Who) (p : ℕ) → (Reached may t w p → ⊥) → reaches may t w p ≡ false
  reached_false w p f = go (reaches may t w p) refl
    where
      go : (b : Bool) → reaches may t w p ≡ b → b ≡ false
      go true e = absurd (f (true_reached w p e))
      go false e = refl

  false_reached : (w : Who) (p : ℕ) → reaches may t w p ≡ false → Reached may t w p → ⊥
  false_reached w p e h = false≢true (sym e ∙ reached_true w p h)

  -- a call is told what its rule says
  pub rule_told : (c : Call Who) (d : Result Told Denied) → Rule may t c d → tell may t c ≡ d
  rule_told c d (read_no_place w p f) = rw (reached_false w p f) refl
  rule_told c d (read_lot w p h) = rw (reached_true w p h) refl
  rule_told c d (assign_no_place w p stamp job f) = rw (reached_false w p f) refl
  rule_told c d (stale w p stamp job h f) = rw (reached_true w p h, ne_eqb stamp (lot_at t p).stamp f) refl
  rule_told c d (last w p stamp job h e l) = rw (reached_true w p h, eq-eqb stamp (lot_at t p).stamp e, eq-eqb stamp last_stamp l) refl
  rule_told c d (stored w p stamp job h e f) = rw (reached_true w p h, eq-eqb stamp (lot_at t p).stamp e, ne_eqb stamp last_stamp f) refl

  -- one rule applies, whatever the call
  pub told_rule : (c : Call Who) → Rule may t c (tell may t c)
  told_rule (reads w p) = go (reaches may t w p) refl
    where
      go : (b : Bool) → reaches may t w p ≡ b → Rule may t (reads w p) (cond b (Ok (Holds (lot_at t p))) (Err NoSuchPlace))
      go true e = read_lot w p (true_reached w p e)
      go false e = read_no_place w p (false_reached w p e)
  told_rule (assigns w p stamp job) = go (reaches may t w p) (eqb stamp (lot_at t p).stamp) (eqb stamp last_stamp) refl refl refl
    where
      go : (a b c : Bool) → reaches may t w p ≡ a → eqb stamp (lot_at t p).stamp ≡ b → eqb stamp last_stamp ≡ c →
          Rule may t (assigns w p stamp job) (cond a (cond b (cond c (Err LastStamp) (Ok Stored)) (Err (StaleStamp (lot_at t p).stamp))) (Err NoSuchPlace))
      go false b c e f g = assign_no_place w p stamp job (false_reached w p e)
      go true false c e f g = stale w p stamp job (true_reached w p e) (eqb-false stamp (lot_at t p).stamp f)
      go true true true e f g = last w p stamp job (true_reached w p e) (eqb-true stamp (lot_at t p).stamp f) (eqb-true stamp last_stamp g)
      go true true false e f g = stored w p stamp job (true_reached w p e) (eqb-true stamp (lot_at t p).stamp f) (eqb-false stamp last_stamp g)

  -- a refused call leaves the table as it was
  pub refused_next : (c : Call Who) (d : Denied) → tell may t c ≡ Err d → next may t c ≡ t
  refused_next (reads w p) d e = refl
  refused_next (assigns w p stamp job) d e = ap (λ (d : Result Told Denied). put (is_stored d) t p job) e

-- a load of more than 64 records in all is refused and hands back the board of no lots; any other is taken, ours first
pub load_over : (xs ys : List Record) → most_lots < length (xs ++ ys) → loaded xs ys ≡ record { board = board_of 0 []; told = Err TooManyLots }
load_over xs ys h = rw (lt-leb (length (xs ++ ys)) most_lots h) refl

pub load_taken : (xs ys : List Record) → length (xs ++ ys) ≤ most_lots → loaded xs ys ≡ record { board = board_of (length xs) (map fresh (xs ++ ys)); told = Ok Loaded }
load_taken xs ys h = rw (le-leb (length (xs ++ ys)) most_lots h) refl

-- a load that is taken gives our house the first places, as many as its list has records, and the partner those behind them
module _ (xs ys : List Record) where
  pub table_length : length (map fresh (xs ++ ys)) ≡ length xs + length ys
  table_length = length-map (xs ++ ys) fresh ∙ length-append xs ys

  pub ours_reach : (p : ℕ) → reaches (owns (length xs)) (map fresh (xs ++ ys)) Ours p ≡ ltb p (length xs)
  ours_reach p = go (ltb p (length xs)) refl
    where
      go : (b : Bool) → ltb p (length xs) ≡ b → b && ltb p (length (map fresh (xs ++ ys))) ≡ b
      go true e = lt-ltb p (length (map fresh (xs ++ ys))) (omega (arith, ltb-true p (length xs) e, table_length))
      go false e = refl

  pub theirs_reach : (p : ℕ) → reaches (owns (length xs)) (map fresh (xs ++ ys)) Partner p ≡ leb (length xs) p && ltb p (length xs + length ys)
  theirs_reach p = ap (λ (n : ℕ). leb (length xs) p && ltb p n) table_length
