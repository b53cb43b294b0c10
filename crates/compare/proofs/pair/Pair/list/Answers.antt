-- `list` meets its contract: the differences are written from the target's start on, where it has room.
use Rattle.std.proofs.Common.{rules, sym, ◌∙◌, leb-true}
use Rattle.compare.proofs.Stores.{put_over}
use Rattle.compare.proofs.pair.Pair.list.Goals as goal

pub returns-clause-target : goal.returns-clause-target
returns-clause-target c =
    let n = c.new-entries.ensures in
    (search rules) ∙ put_over (rw (n.target, n.end) at c.put.ensures.put) (leb-true _ _ (sym c.has_room.ensures ∙ c.if-not-has_room.false))
