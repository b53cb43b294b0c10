use Rattle.std.proofs.Common.{◌≡◌, ◌++◌, map, take}
use Rattle.records.specs.Columns.{list_of}
use Rattle.records.specs.Slices.{held}
use Rattle.board.specs.Table.{fresh}
use Rattle.board.specs.Boards.{board_of, table_of}
use Rattle.board.proofs.Board.with_list.Given as goal

-- at each turn the board has its lots and those of the list so far
abbrev pub invariant-loop-i : goal.invariant-loop-i
invariant-loop-i l = l.self ≡ board_of l.fn.self.ours (table_of l.fn.self ++ map fresh (take l.i (list_of (held l.list))))
