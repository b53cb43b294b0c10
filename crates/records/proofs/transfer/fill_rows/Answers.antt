use Rattle.std.proofs.Common.{arith, rules}
use Rattle.records.specs.Layout.{width_of}
use Rattle.records.specs.Columns.{Columns}
use Rattle.records.specs.Slices.{held_mut}
use Rattle.records.specs.ColumnsLaws.{Level, has_row, level_row}
use Rattle.records.proofs.Rows.{none_read, level_read, next_read}
use Rattle.records.proofs.transfer.fill_rows.Goals as goal
use Rattle.records.proofs.transfer.fill_rows.Goals.{At-loop-i}

-- the columns as they were given, and as the loop has them
abbrev given : At-loop-i → Columns
given s = held_mut s.args.columns.now

abbrev now : At-loop-i → Columns
now s = held_mut s.loop-i.columns

level : (s : At-loop-i) → Level (now s) (given s)
level s = level_read (width_of s.args.layout) s.args.file.now (given s) s.loop-i.i (now s) s.loop-i.invariant.0 (omega (arith, s.requires.0))

pub loop-i-init : goal.loop-i-init
loop-i-init c = (none_read (width_of c.args.layout) c.args.file.now _, search rules)

pub store-requires : goal.store-requires
store-requires c =
    let k = (goal.at.store-requires c).At-loop-i in
    level_row (now k) (given k) c.loop-i.i (level k) (has_row (given k) c.loop-i.i (omega (arith, c.loop-i-test.true, c.requires.0)))

pub loop-i-preserved : goal.loop-i-preserved
loop-i-preserved c =
    (next_read (width_of c.args.layout) c.args.file.now _ _ c.loop-i.i _ _ c.record_from.result c.record_length-record_length.ensures (omega (arith, c.loop-i-test.true, c.requires.0)) c.loop-i.invariant.0 c.record_from.ensures c.store.ensures.stored, search rules)
