-- A return where there is no room, and one byte more.
use Rattle.std.proofs.Common.{rules}
use Rattle.text.specs.WroteLaws.{wrote_nothing}
use Rattle.text.proofs.Passed.{passed_full, passed_more}
use Rattle.text.proofs.stream.block.Goals as goal
use Rattle.text.proofs.stream.block.Goals.{then-x-eq-NEWLINE, else-x-eq-NEWLINE}

pub returns-then-out-end-lt-LINE_ROOM-clause-result :
    goal.returns-then-out-end-lt-LINE_ROOM-clause-result
returns-then-out-end-lt-LINE_ROOM-clause-result c = passed_full c.loop-i.invariant c.if-out-end-lt-LINE_ROOM.true

pub loop-i-preserved : goal.loop-i-preserved
loop-i-preserved c =
    let p = c.loop-i.invariant in
    let room = c.if-out-end-lt-LINE_ROOM.false in
    elim c.if-x-eq-NEWLINE.branch [
      | then-x-eq-NEWLINE w ↦ passed_more p c.loop-i-test.true room (search rules) (search rules)
      | else-x-eq-NEWLINE w ↦ passed_more p c.loop-i-test.true room (search rules) (search (rules, wrote_nothing))
    ]
