-- `salvage` meets its contract: what is written is read to the records kept.
use Rattle.std.proofs.Common.{sym, length}
use Rattle.salvage.proofs.Whole.{told_back}
use Rattle.salvage.proofs.salvage.Goals as goal

pub returns-clause-back : goal.returns-clause-back
returns-clause-back c =
    let a = c.args in
    told_back a.edges.now a.record_length a.bytes.now (length a.file.now) (length a.dropped.now) _ (sym c.write.ensures.outcome) (λ i. (c.type_inv.bytes i).fits)
