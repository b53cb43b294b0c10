use Rattle.std.proofs.Common.{sym, ◌∙◌, arith}
use Rattle.records.specs.ColumnsLaws.{has_row, list_at, list_beyond}
use Rattle.records.proofs.columns.Columns.record.Goals as goal

pub row-requires : goal.row-requires
row-requires c = has_row _ c.args.i (omega (arith, c.len.ensures.length))

pub returns-then-i-len-clause-record : goal.returns-then-i-len-clause-record
returns-then-i-len-clause-record c = c.row.ensures ∙ sym (list_at _ c.args.i (omega (arith, c.len.ensures.length)))

pub returns-else-i-len-clause-record : goal.returns-else-i-len-clause-record
returns-else-i-len-clause-record c = sym (list_beyond _ c.args.i (omega (arith, c.len.ensures.length)))
