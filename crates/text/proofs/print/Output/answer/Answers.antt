-- The two halves are two appends in a row; which text it is goes by the test of the refusal.
use Rattle.std.proofs.Common.{eq-eqb, ne_eqb, arith}
use Rattle.text.specs.PrintLaws.{places_short, accepted_halves}
use Rattle.text.proofs.Put.{put_then, put_as}
use Rattle.text.proofs.print.Output.answer.Goals as goal

pub rest-requires : goal.rest-requires
rest-requires c =
    omega (arith, places_short c.args.answer.place c.args.answer.low c.args.answer.high)

pub returns-then-answer-eq0 : goal.returns-then-answer-eq0
returns-then-answer-eq0 c =
    simp (eq-eqb _ _ c.if-answer-eq0.true) (put_as (accepted_halves c.args.answer) (put_then c.places.ensures c.rest.ensures))

pub returns : goal.returns
returns c = simp (ne_eqb _ _ c.if-answer-eq0.false) c.number.ensures
