-- A board as a table of lots, whose its places are, and what its methods hand back (document 02, No. 6 and 11). Definitions only.
use Rattle.std.specs.Prelude.{Result, Ok, Err, Bool, cond, List, [], ◌∷◌, ◌++◌, ℕ, eqb, ltb, leb, length, take, replicate}
use Rattle.records.specs.declared.fields.Record.{Record}
use Rattle.records.specs.Columns.{over}
use Rattle.board.specs.declared.Party.{Party}
use Rattle.board.specs.declared.Party.TheVariants.{Ours, Partner}
use Rattle.board.specs.declared.Lot.{Lot}
use Rattle.board.specs.declared.Board.{Board}
use Rattle.board.specs.declared.Told.{Told}
use Rattle.board.specs.declared.Denied.{Denied}
use Rattle.board.specs.declared.Denied.TheVariants.{NoSuchPlace}
use Rattle.board.specs.declared.Answered.{Answered}
use Rattle.board.specs.Table.{most_lots, zero_lot, has_room, table_from, load_told, Call, tell, next}

-- the board of a table: the lots in their places, the first `ours` of them ours, and zeros beyond them
abbrev pub board_of : (ours : ℕ) → List Lot → Board
board_of ours t = record { ours = ours; count = length t; lots = over t (replicate most_lots zero_lot) }

-- the table of a board: as many of its lots as it counts, and all of them where it counts more
abbrev pub table_of : Board → List Lot
table_of b = take b.count b.lots

-- the board with another table, as long as its own, in the place of its own
abbrev pub with_table : Board → List Lot → Board
with_table b t = record { ours = b.ours; count = b.count; lots = over t b.lots }

-- how many lots of a load are ours: none where it is refused
abbrev pub ours_from : (ours theirs : List Record) → ℕ
ours_from ours theirs = cond (has_room (ours ++ theirs)) (length ours) 0

-- a load hands back the board of both lists' table, ours first; they count together
abbrev pub loaded : (ours theirs : List Record) → Answered
loaded ours theirs = record { board = board_of (ours_from ours theirs) (table_from (ours ++ theirs)); told = load_told (ours ++ theirs) }

-- whose a place is: the first `ours` places are ours, and those behind them the partner's
abbrev pub owns : (ours : ℕ) → Party → ℕ → Bool
owns ours Ours p = ltb p ours
owns ours Partner p = leb ours p

-- the parties by their numbers: 0 is ours and 1 the partner; no place is another number's, which is refusal 17
abbrev pub party_numbered : ℕ → Result Party Denied
party_numbered n = cond (eqb n 0) (Ok Ours) (cond (eqb n 1) (Ok Partner) (Err NoSuchPlace))

-- a call hands back the board with its table after the call, and what the table tells a caller who may touch his own places
abbrev pub handed : Board → Call Party → Answered
handed b c = record { board = with_table b (next (owns b.ours) (table_of b) c); told = tell (owns b.ours) (table_of b) c }

-- the board after a history of calls, and what they are told, each in its turn
abbrev pub board_after : Board → List (Call Party) → Board
board_after b [] = b
board_after b (c ∷ cs) = board_after (handed b c).board cs

abbrev pub told_in : Board → List (Call Party) → List (Result Told Denied)
told_in b [] = []
told_in b (c ∷ cs) = (handed b c).told ∷ told_in (handed b c).board cs
