-- `store`: where the job is stored the board has it in its slot, and the table at its place.
use Rattle.std.proofs.Common.{◌≡◌, ◌++◌, ◌+◌, ◌<◌, ℕ, List, Result, Ok, Err, Bool, true, false, cond, length, drop, set, refl, ap, sym, ◌∙◌, rules, length-set, ltb-true, ltb}
use Rattle.std.proofs.Math.Seq.{set-append_left}
use Rattle.arith.specs.TestLaws.{and_both}
use Rattle.records.specs.Columns.{over}
use Rattle.board.specs.declared.Party.{Party}
use Rattle.board.specs.declared.Lot.{Lot}
use Rattle.board.specs.declared.Board.{Board}
use Rattle.board.specs.declared.Told.{Told}
use Rattle.board.specs.declared.Told.TheVariants.{Stored}
use Rattle.board.specs.declared.Denied.{Denied}
use Rattle.board.specs.declared.Denied.TheVariants.{NoSuchPlace}
use Rattle.board.specs.Table.{with_job, lot_at, assigns, is_stored, put, reaches, found}
use Rattle.board.specs.Boards.{table_of, with_table, owns, handed}
use Rattle.board.specs.SharingLaws.{with_own}
use Rattle.board.proofs.Board.store.Goals as goal

-- a lot that is found is the table's, at a place that the party reaches
reached : {Who : Type 0} (may : Who → ℕ → Bool) (t : List Lot) (w : Who) (p : ℕ) {l : Lot} → Ok l ≡ found may t w p → (p < length t) × (l ≡ lot_at t p)
reached may t w p {l} e = go (reaches may t w p) refl e
  where
    go : (b : Bool) → reaches may t w p ≡ b → Ok l ≡ cond b (Ok (lot_at t p)) (Err NoSuchPlace) → (p < length t) × (l ≡ lot_at t p)
    go true r e = (ltb-true p (length t) (and_both (may w p) (ltb p (length t)) r).1, cc)
    go false r e = absurd cc

-- a slot that the table has is changed as the table is
slot_set : (b : Board) (p : ℕ) (l : Lot) → p < length (table_of b) → set b.lots p l ≡ over (set (table_of b) p l) b.lots
slot_set b p l h =
    let t = table_of b in
    ap (λ (z : Board). set z.lots p l) (sym (with_own b)) ∙ set-append_left t (drop (length t) b.lots) p l h ∙ ap (λ (k : ℕ). set t p l ++ drop k b.lots) (sym (length-set t p l))

-- the board with the job in its slot, where the job is stored
stored : (b : Board) (w : Party) (p stamp job : ℕ) {l : Lot} → Ok l ≡ found (owns b.ours) (table_of b) w p → stamp ≡ l.stamp → (handed b (assigns w p stamp job)).told ≡ Ok Stored →
    record b { lots = set b.lots p (record { «record» = l.«record»; job = job; stamp = stamp + 1 }) } ≡ (handed b (assigns w p stamp job)).board
stored b w p stamp job {l} e s d =
    let f = reached (owns b.ours) (table_of b) w p {l = l} e in
    ap (λ (n : ℕ). record b { lots = set b.lots p (record { «record» = l.«record»; job = job; stamp = n + 1 }) }) s
    ∙ ap (λ (z : List Lot). record b { lots = z }) (slot_set b p (with_job l job) f.0)
    ∙ ap (λ (z : Lot). with_table b (set (table_of b) p (with_job z job))) f.1
    ∙ ap (λ (z : Result Told Denied). with_table b (put (is_stored z) (table_of b) p job)) (sym d)

pub returns-clause-board : goal.returns-clause-board
returns-clause-board c =
    let a = c.args in
    stored a.self.now a.party a.place a.stamp a.job (sym c.in_ok-lot.was ∙ c.lot.ensures) c.if-stamp-lot.false (search rules)
