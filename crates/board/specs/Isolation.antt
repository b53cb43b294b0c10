-- What one house learns of a board that two houses share (document 02, No. 11): the statement.
use Rattle.std.specs.Prelude.{◌≡◌, Result, Ok, Bool, true, false, cond, List, [], ◌∷◌, ℕ, length, take, drop}
use Rattle.records.specs.declared.fields.Record.{Record}
use Rattle.board.specs.declared.Party.{Party}
use Rattle.board.specs.declared.Party.TheVariants.{Ours, Partner}
use Rattle.board.specs.declared.Lot.{Lot}
use Rattle.board.specs.declared.Board.{Board}
use Rattle.board.specs.declared.Told.{Told}
use Rattle.board.specs.declared.Told.TheVariants.{Loaded}
use Rattle.board.specs.declared.Denied.{Denied}
use Rattle.board.specs.declared.Answered.{Answered}
use Rattle.board.specs.Table.{Call, caller}
use Rattle.board.specs.Boards.{table_of, loaded, board_after, told_in}

-- a day at the board: what each house loads, and then the calls of both in the order in which they come
pub record Day : Type 0 where
  pub ours : List Record
  pub theirs : List Record
  pub calls : List (Call Party)

-- what the load hands back
abbrev pub morning : Day → Answered
morning d = loaded d.ours d.theirs

-- whether two houses are one
abbrev pub same : Party → Party → Bool
same Ours Ours = true
same Ours Partner = false
same Partner Ours = false
same Partner Partner = true

-- whether a call is the house's own
abbrev pub is_own : Party → Call Party → Bool
is_own w c = same w (caller c)

-- of all calls the house's own, in their order
abbrev pub calls_of : Party → List (Call Party) → List (Call Party)
calls_of w [] = []
calls_of w (c ∷ cs) = cond (is_own w c) (c ∷ calls_of w cs) (calls_of w cs)

-- of what all calls are told, what its own are told
abbrev pub told_of : Party → List (Call Party) → List (Result Told Denied) → List (Result Told Denied)
told_of w [] ds = []
told_of w (c ∷ cs) [] = []
told_of w (c ∷ cs) (d ∷ ds) = cond (is_own w c) (d ∷ told_of w cs ds) (told_of w cs ds)

-- the house's lots on a board, in the order of their places
abbrev pub lots_of : Party → Board → List Lot
lots_of Ours b = take b.ours (table_of b)
lots_of Partner b = drop b.ours (table_of b)

-- the place of a house's first lot, where so many places come before; 0 stands for it where the house has no lot
abbrev pub first_of : (before : ℕ) → List Record → ℕ
first_of before [] = 0
first_of before (r ∷ rs) = before

-- the house's part in a day: its load, the place of its first lot, and its calls
pub record Part : Type 0 where
  pub load : List Record
  pub first : ℕ
  pub calls : List (Call Party)

abbrev pub part_of : Party → Day → Part
part_of Ours d = record { load = d.ours; first = 0; calls = calls_of Ours d.calls }
part_of Partner d = record { load = d.theirs; first = first_of (length d.ours) d.theirs; calls = calls_of Partner d.calls }

-- the house's view of a day: what each of its calls is told, and its lots at the end
pub record View : Type 0 where
  pub told : List (Result Told Denied)
  pub lots : List Lot

abbrev pub view_of : Party → Day → View
view_of w d = record { told = told_of w d.calls (told_in (morning d).board d.calls); lots = lots_of w (board_after (morning d).board d.calls) }

-- two days, neither load refused, in which the house has the same part give it the same view
abbrev pub Isolated : Party → Type 0
Isolated w = (d e : Day) → (morning d).told ≡ Ok Loaded → (morning e).told ≡ Ok Loaded → part_of w d ≡ part_of w e → view_of w d ≡ view_of w e
