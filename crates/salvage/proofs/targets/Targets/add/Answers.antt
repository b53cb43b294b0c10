-- `add` meets its contract: a record that matches is stored, and the number of another one is listed.
use Rattle.std.proofs.Common.{sym, ◌∙◌}
use Rattle.salvage.proofs.Turns.{adds_kept, adds_dropped}
use Rattle.salvage.proofs.targets.Targets.add.Goals as goal

pub returns-then-is_match-clause-adds : goal.returns-then-is_match-clause-adds
returns-then-is_match-clause-adds c =
    let a = c.args in
    let t = a.self.now in
    adds_kept a.edges.now a.r a.i t.kept t.file.now t.list.now c.requires (sym c.is_match.ensures ∙ c.if-is_match.true) c.store_record.ensures.target

pub returns-else-is_match-clause-adds : goal.returns-else-is_match-clause-adds
returns-else-is_match-clause-adds c =
    let a = c.args in
    let t = a.self.now in
    adds_dropped a.edges.now a.r a.i t.kept t.file.now t.list.now c.requires (sym c.is_match.ensures ∙ c.if-is_match.false)
