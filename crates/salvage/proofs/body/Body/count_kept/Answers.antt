-- `count_kept` meets its contract: a turn adds one where the record matches.
use Rattle.std.proofs.Common.{sym, ap, ◌∙◌, length, take, length-take, arith}
use Rattle.records.specs.Files.{whole_records}
use Rattle.salvage.specs.SalvageLaws.{kept_or_dropped}
use Rattle.salvage.proofs.Turns.{none_kept, one_kept, one_dropped, count_next}
use Rattle.salvage.proofs.body.Body.count_kept.Goals as goal
use Rattle.salvage.proofs.body.Body.count_kept.Goals.{then-is_match, else-is_match}

pub loop-i-init : goal.loop-i-init
loop-i-init c = none_kept c.args.self.edges.now (whole_records c.args.self.record_length c.args.self.bytes.now)

pub overflow_add-kept : goal.overflow_add-kept
overflow_add-kept c =
    let s = c.args.self in
    let rs = take c.loop-i.i (whole_records s.record_length s.bytes.now) in
    omega (arith, kept_or_dropped s.edges.now rs, length-take c.loop-i.i (whole_records s.record_length s.bytes.now))

pub loop-i-preserved : goal.loop-i-preserved
loop-i-preserved c =
    let s = c.args.self in
    let r = c.record in
    let next = count_next s.edges.now (whole_records s.record_length s.bytes.now) c.loop-i.i (omega arith) r.result r.ensures in
    let says = c.is_match.ensures in
    elim c.if-is_match.branch [
      | then-is_match w ↦ omega (arith, next, c.loop-i.invariant, w.kept-is, ap length (one_kept s.edges.now r.result 0 (sym says ∙ w.if-is_match.true)).0)
      | else-is_match w ↦ omega (arith, next, c.loop-i.invariant, w.kept-is, ap length (one_dropped s.edges.now r.result 0 (sym says ∙ w.if-is_match.false)).0)
    ]
