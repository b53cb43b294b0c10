-- A board that is the board of a table is, with lots behind its own, the board of the longer table.
use Rattle.std.proofs.Common.{◌≡◌, ℕ, List, ◌++◌, ap, ◌∙◌}
use Rattle.board.specs.declared.Lot.{Lot}
use Rattle.board.specs.declared.Board.{Board}
use Rattle.board.specs.Boards.{board_of, table_of}
use Rattle.board.specs.SharingLaws.{table_board}

pub joined : (n : ℕ) (t l : List Lot) {b r : Board} → b ≡ board_of n t → r ≡ board_of b.ours (table_of b ++ l) → r ≡ board_of n (t ++ l)
joined n t l e f = f ∙ ap (λ (z : Board). board_of z.ours (table_of z ++ l)) e ∙ ap (λ (z : List Lot). board_of n (z ++ l)) (table_board n t)
