-- `accepted_answer` may work out Duv at the best point of its search: it lies on the span.
use Rattle.cct.proofs.Assembly.{best_on}
use Rattle.cct.proofs.accepted_answer.Goals as goal

pub duv_on-duv-requires : goal.duv_on-duv-requires
duv_on-duv-requires c =
    let a = c.args in
    best_on a.p.u a.p.v a.max_steps a.near a.span c.run-found.result c.requires.0 c.requires.1 c.run-found.ensures
