use Rattle.std.proofs.Common.{refl, ◌∙◌, arith}
use Rattle.records.specs.FilesLaws.{empty}
use Rattle.records.specs.ColumnsLaws.{has_row}
use Rattle.records.proofs.Stores.{row_stored, row_narrow}
use Rattle.records.proofs.transfer.put_rows.Goals as goal

pub loop-i-init : goal.loop-i-init
loop-i-init c = (refl, refl, empty)

pub row-requires : goal.row-requires
row-requires c = has_row _ c.loop-i.i (omega (arith, c.loop-i-test.true, c.requires.0))

pub loop-i-preserved : goal.loop-i-preserved
loop-i-preserved c =
    let l = c.loop-i in
    let r = c.row.result in
    let e = c.row.ensures in
    let stored = c.put_record in
    (stored.auto.out ∙ l.invariant.0, row_stored _ l.i r e c.args.out.now l.invariant.1 stored.ensures.bytes, row_narrow _ l.i r e l.invariant.2 stored.ensures.narrow)
