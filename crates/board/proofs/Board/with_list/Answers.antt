-- `with_list`: at each turn the board has its lots and those of the list so far.
use Rattle.std.proofs.Common.{◌≡◌, ℕ, List, [], ◌∷◌, ◌++◌, map, take, length, ap, sym, ◌∙◌, arith, append_assoc}
use Rattle.std.proofs.lemmas.List.{map_more}
use Rattle.std.proofs.Math.Seq.{take-length}
use Rattle.records.specs.declared.fields.Record.{Record}
use Rattle.records.specs.Files.{zero_record}
use Rattle.records.specs.Columns.{list_of}
use Rattle.records.specs.Slices.{held}
use Rattle.records.specs.ColumnsLaws.{length_list}
use Rattle.board.specs.declared.Lot.{Lot}
use Rattle.board.specs.Table.{fresh}
use Rattle.board.specs.Boards.{board_of, table_of}
use Rattle.board.proofs.Joining.{joined}
use Rattle.board.proofs.Board.with_list.Goals as goal

pub loop-i-preserved : goal.loop-i-preserved
loop-i-preserved c =
    let n = c.args.self.ours in
    let i = c.loop-i.i in
    let t = table_of c.args.self in
    let rs = list_of (held c.args.list) in
    let l = map fresh (take i rs) in
    let k = length_list (held c.args.list) in
    joined n (t ++ l) (c.from.result ∷ []) c.loop-i.invariant c.push.ensures
    ∙ ap (λ (x : Lot). board_of n ((t ++ l) ++ (x ∷ []))) (c.from.ensures ∙ ap fresh c.record.ensures.record)
    ∙ ap (board_of n) (append_assoc t l _ ∙ ap (λ (z : List Lot). t ++ z) (sym (map_more fresh rs i zero_record (omega (arith, k, c.len-i-end.ensures.length)))))

pub returns : goal.returns
returns c =
    let rs = list_of (held c.args.list) in
    let k = length_list (held c.args.list) in
    let e : c.loop-i.i ≡ length rs = omega (arith, k, c.len-i-end.ensures.length) in
    c.loop-i.invariant ∙ ap (λ (z : List Record). board_of c.args.self.ours (table_of c.args.self ++ map fresh z)) (ap (λ (n : ℕ). take n rs) e ∙ take-length rs)
