-- `load`: refused by the length of both lists, or our list is put on a board, and theirs behind it.
use Rattle.std.proofs.Common.{◌≡◌, ℕ, ◌+◌, Ok, Err, [], ◌++◌, map, length, ap, sym, ◌∙◌, arith, length-append, leb-true, leb-false}
use Rattle.std.proofs.lemmas.List.{map-append, length-map}
use Rattle.records.specs.Columns.{Columns, size_of, list_of}
use Rattle.records.specs.Slices.{held}
use Rattle.records.specs.ColumnsLaws.{length_list}
use Rattle.board.specs.declared.Board.{Board}
use Rattle.board.specs.declared.Told.TheVariants.{Loaded}
use Rattle.board.specs.declared.Denied.TheVariants.{TooManyLots}
use Rattle.board.specs.Table.{most_lots, fresh}
use Rattle.board.specs.Boards.{board_of}
use Rattle.board.specs.RuleLaws.{load_over, load_taken}
use Rattle.board.proofs.Joining.{joined}
use Rattle.board.proofs.Board.load.Goals as goal

together : (c d : Columns) → length (list_of c ++ list_of d) ≡ size_of c + size_of d
together c d = length-append (list_of c) (list_of d) ∙ omega (arith, length_list c, length_list d)

pub returns-then-not-fits-clause-answered : goal.returns-then-not-fits-clause-answered
returns-then-not-fits-clause-answered c =
    let xs = held c.args.ours in
    let ys = held c.args.theirs in
    let over = leb-false _ most_lots (sym c.fits.ensures ∙ c.if-not-fits.true) in
    ap (λ (b : Board). record { board = b; told = Err TooManyLots }) c.empty.ensures
    ∙ sym (load_over (list_of xs) (list_of ys) (omega (arith, together xs ys, over, c.len-n.ensures.length, c.len-m.ensures.length)))

pub with_list-requires-2-clause-room : goal.with_list-requires-2-clause-room
with_list-requires-2-clause-room c =
    let xs = list_of (held c.args.ours) in
    let room = leb-true _ most_lots (sym c.fits.ensures ∙ c.if-not-fits.false) in
    let b = joined c.len-n.result [] (map fresh xs) c.empty-2.ensures c.with_list.ensures in
    omega (arith, ap (λ (z : Board). z.count) b, length-map xs fresh, length_list (held c.args.ours), room, c.len-n.ensures.length, c.len-m.ensures.length)

pub returns-clause-answered : goal.returns-clause-answered
returns-clause-answered c =
    let xs = list_of (held c.args.ours) in
    let ys = list_of (held c.args.theirs) in
    let n = c.len-n.result in
    let room = leb-true _ most_lots (sym c.fits.ensures ∙ c.if-not-fits.false) in
    let ours = joined n [] (map fresh xs) c.empty-2.ensures c.with_list.ensures in
    let both = joined n (map fresh xs) (map fresh ys) ours c.with_list-2.ensures in
    ap (λ (b : Board). record { board = b; told = Ok Loaded })
    (both ∙ ap (board_of n) (sym (map-append fresh xs ys)) ∙ ap (λ (k : ℕ). board_of k (map fresh (xs ++ ys))) (c.len-n.ensures.length ∙ sym (length_list (held c.args.ours))))
    ∙ sym (load_taken xs ys (omega (arith, together (held c.args.ours) (held c.args.theirs), room, c.len-n.ensures.length, c.len-m.ensures.length)))
