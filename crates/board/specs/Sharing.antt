-- What dispatchers who share a board can rely on, of whichever house they are (document 02, No. 6 and 11): the statements.
use Rattle.std.specs.Prelude.{◌≡◌, Ok, Err, true, List, [], ◌∷◌, ◌++◌, ℕ, ◌+◌, ◌<◌, length}
use Rattle.records.specs.declared.fields.Record.{Record}
use Rattle.board.specs.declared.Party.{Party}
use Rattle.board.specs.declared.Board.{Board}
use Rattle.board.specs.declared.Told.TheVariants.{Stored}
use Rattle.board.specs.declared.Denied.TheVariants.{StaleStamp}
use Rattle.board.specs.Table.{last_stamp, with_job, table_from, lot_at, Call, assigns, table_after, answers, Untouched}
use Rattle.board.specs.Boards.{board_of, table_of, ours_from, owns, loaded, handed, board_after, told_in}

-- a history of calls from a load gives, in board and answers, what the table of both lists gives
pub record History (ours theirs : List Record) (cs : List (Call Party)) : Type 0 where
  pub board : board_after (loaded ours theirs).board cs ≡ board_of (ours_from ours theirs) (table_after (owns (ours_from ours theirs)) (table_from (ours ++ theirs)) cs)
  pub told : told_in (loaded ours theirs).board cs ≡ answers (owns (ours_from ours theirs)) (table_from (ours ++ theirs)) cs

-- two calls on a board give the same board in either order, and each is told the same
pub record Commute (b : Board) (x y : Call Party) : Type 0 where
  pub board : board_after b (x ∷ y ∷ []) ≡ board_after b (y ∷ x ∷ [])
  pub first : (handed b x).told ≡ (handed (handed b y).board x).told
  pub second : (handed (handed b x).board y).told ≡ (handed b y).told

-- two dispatchers of house w have seen the current stamp of place p on a board; after the calls xs the first assigns job i there, and after the calls ys the second assigns there too
module _ (b : Board) (w : Party) (p i : ℕ) (xs ys : List (Call Party)) where
  abbrev pub seen : ℕ
  seen = (lot_at (table_of b) p).stamp

  -- the board as the first of them finds it and leaves it, and as the second finds it
  abbrev pub at_first : Board
  at_first = board_after b xs

  abbrev pub after_first : Board
  after_first = (handed at_first (assigns w p seen i)).board

  abbrev pub at_second : Board
  at_second = board_after after_first ys

  -- the place is their house's, it has a lot, its stamp is under 65,535, and no other call stores a job there
  pub record Holders : Type 0 where
    pub own : owns b.ours w p ≡ true
    pub place : p < length (table_of b)
    pub under : seen < last_stamp
    pub before : Untouched (owns b.ours) p (table_of b) xs
    pub between : Untouched (owns after_first.ours) p (table_of after_first) ys

  -- the first is stored, the second, with job j, is told the stamp that is now current, and the lot has the first's job
  pub record FirstStored (j : ℕ) : Type 0 where
    pub first : (handed at_first (assigns w p seen i)).told ≡ Ok Stored
    pub second : (handed at_second (assigns w p seen j)).told ≡ Err (StaleStamp (seen + 1))
    pub lot : lot_at (table_of (handed at_second (assigns w p seen j)).board) p ≡ with_job (lot_at (table_of b) p) i
