-- `push`: the slot behind the table's lots is set, and what lies behind it stays zero.
use Rattle.std.proofs.Common.{◌≡◌, ◌+◌, [], ◌∷◌, ◌++◌, length, replicate, set, ap, ◌∙◌, arith, length-append}
use Rattle.records.specs.Columns.{over}
use Rattle.records.specs.ColumnsLaws.{over_append}
use Rattle.board.specs.declared.Board.{Board}
use Rattle.board.specs.Table.{most_lots, zero_lot}
use Rattle.board.specs.Boards.{table_of}
use Rattle.board.proofs.Board.push.Goals as goal

pub returns : goal.returns
returns c =
    let b = c.args.self.now in
    let t = table_of b in
    let zeros = replicate most_lots zero_lot in
    let l = c.args.lot in
    let n : b.count ≡ length t = ap (λ (z : Board). z.count) c.requires.board in
    let k : b.count + 1 ≡ length (t ++ (l ∷ [])) = omega (arith, n, length-append t (l ∷ [])) in
    let s : set b.lots b.count l ≡ over (t ++ (l ∷ [])) zeros =
    ap (λ (z : Board). set z.lots b.count l) c.requires.board ∙ ap (λ (j : _). set (over t zeros) j l) n ∙ over_append t l zeros (omega arith) in
    λ i. record { ours = b.ours; count = k i; lots = s i }
