-- Dispatchers who share a board can rely on it: the laws.
use Rattle.std.specs.Prelude.{◌≡◌, refl, Result, Ok, Err, List, [], ◌∷◌, ◌++◌, ℕ, zero, suc, ◌+◌, length, take, drop, replicate}
use Rattle.std.proofs.Common.{ap, sym, ◌∙◌, arith}
use Rattle.std.proofs.lemmas.Slice.{drop-append-drop}
use Rattle.std.proofs.Math.Seq.{take-append_seam}
use Rattle.records.specs.declared.fields.Record.{Record}
use Rattle.records.specs.Columns.{over}
use Rattle.board.specs.declared.Party.{Party}
use Rattle.board.specs.declared.Lot.{Lot}
use Rattle.board.specs.declared.Board.{Board}
use Rattle.board.specs.declared.Told.{Told}
use Rattle.board.specs.declared.Told.TheVariants.{Stored}
use Rattle.board.specs.declared.Denied.{Denied}
use Rattle.board.specs.declared.Denied.TheVariants.{StaleStamp}
use Rattle.board.specs.Table.{most_lots, zero_lot, with_job, table_from, lot_at, Call, assigns, tell, next, table_after, answers, Untouched}
use Rattle.board.specs.TableLaws.{next_length, told_after, swap, stored_lot, after_length, lot_after}
use Rattle.board.specs.Boards.{board_of, table_of, with_table, ours_from, owns, handed, board_after, told_in}
use Rattle.board.specs.Rules.{Reached, stale, stored}
use Rattle.board.specs.RuleLaws.{rule_told, refused_next}
use Rattle.board.specs.Sharing.{History, Commute, Holders, FirstStored}

-- another list of the same length at the front
front : {A : Type 0} (n : ℕ) (t l : List A) → length t ≡ length (take n l) → take n (over t l) ≡ t
front zero [] l e = refl
front zero (x ∷ t) l e = absurd (omega arith)
front (suc n) [] [] e = refl
front (suc n) [] (y ∷ l) e = absurd (omega arith)
front (suc n) (x ∷ t) [] e = absurd (omega arith)
front (suc n) (x ∷ t) (y ∷ l) e = ap (λ (z : List _). x ∷ z) (front n t l (omega arith))

over_over : {A : Type 0} (s t l : List A) → length t ≡ length s → over t (over s l) ≡ over t l
over_over s t l e = ap (λ (z : List _). t ++ z) (drop-append-drop (length s) l s (length t) (omega arith) refl)

table_with : (b : Board) (t : List Lot) → length t ≡ length (table_of b) → table_of (with_table b t) ≡ t
table_with b t e = front b.count t b.lots e

with_with : (b : Board) (s t : List Lot) → length t ≡ length s → with_table (with_table b s) t ≡ with_table b t
with_with b s t e = λ i. record { ours = b.ours; count = b.count; lots = over_over s t b.lots e i }

-- a board with its own table
own_front : {A : Type 0} (n : ℕ) (l : List A) → over (take n l) l ≡ l
own_front zero l = refl
own_front (suc n) [] = refl
own_front (suc n) (x ∷ l) = ap (λ (z : List _). x ∷ z) (own_front n l)

pub with_own : (b : Board) → with_table b (table_of b) ≡ b
with_own b = let e = own_front b.count b.lots in λ i. record { ours = b.ours; count = b.count; lots = e i }

-- the board of a table
pub table_board : (n : ℕ) (t : List Lot) → table_of (board_of n t) ≡ t
table_board n t = take-append_seam t (drop (length t) (replicate most_lots zero_lot))

with_board : (n : ℕ) (s t : List Lot) → length t ≡ length s → with_table (board_of n s) t ≡ board_of n t
with_board n s t e =
    let k = sym e in
    let l = over_over s t (replicate most_lots zero_lot) e in
    λ i. record { ours = n; count = k i; lots = l i }

-- the table of the board after a call is the table after the call
table_next : (b : Board) (c : Call Party) → table_of (handed b c).board ≡ next (owns b.ours) (table_of b) c
table_next b c = table_with b (next (owns b.ours) (table_of b) c) (next_length (owns b.ours) (table_of b) c)

-- a refused call hands back the board as it was
pub refused_board : (b : Board) (c : Call Party) (d : Denied) → (handed b c).told ≡ Err d → (handed b c).board ≡ b
refused_board b c d e = ap (with_table b) (refused_next (owns b.ours) (table_of b) c d e) ∙ with_own b

-- a history from any board, through its table
pub after_is : (b : Board) (cs : List (Call Party)) → board_after b cs ≡ with_table b (table_after (owns b.ours) (table_of b) cs)
after_is b [] = sym (with_own b)
after_is b (c ∷ cs) =
    let may = owns b.ours in
    let t = next may (table_of b) c in
    after_is (with_table b t) cs
    ∙ ap (λ (z : List Lot). with_table (with_table b t) (table_after may z cs)) (table_next b c)
    ∙ with_with b t (table_after may t cs) (after_length may t cs)

pub told_is : (b : Board) (cs : List (Call Party)) → told_in b cs ≡ answers (owns b.ours) (table_of b) cs
told_is b [] = refl
told_is b (c ∷ cs) =
    let may = owns b.ours in
    let t = next may (table_of b) c in
    ap (λ (z : List (Result Told Denied)). tell may (table_of b) c ∷ z) (told_is (with_table b t) cs ∙ ap (λ (z : List Lot). answers may z cs) (table_next b c))

pub table_after_lem : (b : Board) (cs : List (Call Party)) → table_of (board_after b cs) ≡ table_after (owns b.ours) (table_of b) cs
table_after_lem b cs =
    let may = owns b.ours in
    ap table_of (after_is b cs) ∙ table_with b (table_after may (table_of b) cs) (after_length may (table_of b) cs)

-- a history leaves the places to the houses that have them
pub after_ours : (b : Board) (cs : List (Call Party)) → (board_after b cs).ours ≡ b.ours
after_ours b cs = ap (λ (z : Board). z.ours) (after_is b cs)

-- and from the board of a table
pub after_board : (n : ℕ) (t : List Lot) (cs : List (Call Party)) → board_after (board_of n t) cs ≡ board_of n (table_after (owns n) t cs)
after_board n t cs =
    after_is (board_of n t) cs
    ∙ ap (λ (z : List Lot). with_table (board_of n t) (table_after (owns n) z cs)) (table_board n t)
    ∙ with_board n t (table_after (owns n) t cs) (after_length (owns n) t cs)

pub told_board : (n : ℕ) (t : List Lot) (cs : List (Call Party)) → told_in (board_of n t) cs ≡ answers (owns n) t cs
told_board n t cs = told_is (board_of n t) cs ∙ ap (λ (z : List Lot). answers (owns n) z cs) (table_board n t)

pub history : (ours theirs : List Record) (cs : List (Call Party)) → History ours theirs cs
history ours theirs cs =
    let n = ours_from ours theirs in
    let t = table_from (ours ++ theirs) in
    record { board = after_board n t cs; told = told_board n t cs }

pub commute : (b : Board) (v w : Party) (p q r s i j : ℕ) → (p ≡ q → ⊥) → Commute b (assigns v p r i) (assigns w q s j)
commute b v w p q r s i j f =
    let may = owns b.ours in
    let x = assigns v p r i in
    let y = assigns w q s j in
    let t = table_of b in
    record {
      board = after_is b (x ∷ y ∷ []) ∙ ap (with_table b) (swap may t v w p q r s i j f) ∙ sym (after_is b (y ∷ x ∷ []));
      first = sym (ap (λ (z : List Lot). tell may z x) (table_next b y) ∙ told_after may t y v p r i (λ m e. f e));
      second = ap (λ (z : List Lot). tell may z y) (table_next b x) ∙ told_after may t x w q s j (λ m e. f (sym e));
    }

-- after calls that store nothing there a place has the lot that it had, and it is reached as before
kept_lot : (b : Board) (cs : List (Call Party)) (p : ℕ) → Untouched (owns b.ours) p (table_of b) cs → lot_at (table_of (board_after b cs)) p ≡ lot_at (table_of b) p
kept_lot b cs p f = ap (λ (z : List Lot). lot_at z p) (table_after_lem b cs) ∙ lot_after (owns b.ours) (table_of b) cs p f

kept_place : (b : Board) (cs : List (Call Party)) (w : Party) (p : ℕ) → Reached (owns b.ours) (table_of b) w p → Reached (owns (board_after b cs).ours) (table_of (board_after b cs)) w p
kept_place b cs w p h =
    record { allowed = ap (λ (n : ℕ). owns n w p) (after_ours b cs) ∙ h.allowed; place = omega (arith, h.place, ap length (table_after_lem b cs), after_length (owns b.ours) (table_of b) cs) }

pub first_stored : (b : Board) (w : Party) (p i : ℕ) (xs ys : List (Call Party)) → Holders b w p i xs ys → (j : ℕ) → FirstStored b w p i xs ys j
first_stored b w p i xs ys h j =
    let l = lot_at (table_of b) p in
    let s = l.stamp in
    let x = assigns w p s i in
    let y = assigns w p s j in
    let b₁ = board_after b xs in
    let may = owns b₁.ours in
    let t₁ = table_of b₁ in
    let r₁ = kept_place b xs w p (record { allowed = h.own; place = h.place }) in
    let l₁ : lot_at t₁ p ≡ l = kept_lot b xs p h.before in
    let d₁ : tell may t₁ x ≡ Ok Stored = rule_told may t₁ x (Ok Stored) (stored w p s i r₁ (ap (λ (z : Lot). z.stamp) (sym l₁)) (λ e. omega (arith, e, h.under))) in
    let b₂ = (handed b₁ x).board in
    let l₂ : lot_at (table_of b₂) p ≡ with_job l i =
    ap (λ (z : List Lot). lot_at z p) (table_next b₁ x) ∙ stored_lot may t₁ w p s i r₁.place d₁ ∙ ap (λ (z : Lot). with_job z i) l₁ in
    let r₂ : Reached may (table_of b₂) w p =
    record { allowed = r₁.allowed; place = omega (arith, r₁.place, ap length (table_next b₁ x), next_length may t₁ x) } in
    let b₃ = board_after b₂ ys in
    let t₃ = table_of b₃ in
    let l₃ : lot_at t₃ p ≡ with_job l i = kept_lot b₂ ys p h.between ∙ l₂ in
    let n₃ : (lot_at t₃ p).stamp ≡ s + 1 = ap (λ (z : Lot). z.stamp) l₃ in
    let d₃ : tell (owns b₃.ours) t₃ y ≡ Err (StaleStamp (lot_at t₃ p).stamp) =
    rule_told (owns b₃.ours) t₃ y (Err (StaleStamp (lot_at t₃ p).stamp)) (stale w p s j (kept_place b₂ ys w p r₂) (λ e. omega (arith, e, n₃))) in
    record {
      first = d₁;
      second = d₃ ∙ ap (λ (n : ℕ). Err (StaleStamp n)) n₃;
      lot = ap (λ (z : Board). lot_at (table_of z) p) (refused_board b₃ y (StaleStamp (lot_at t₃ p).stamp) d₃) ∙ l₃;
    }
