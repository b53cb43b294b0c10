-- `sort` meets its contract: each turn adds a record.
use Rattle.std.proofs.Common.{refl, ◌∙◌, arith}
use Rattle.records.specs.Files.{whole_records}
use Rattle.salvage.proofs.Turns.{none_sorted, next_room, next_sorted}
use Rattle.salvage.proofs.body.Body.sort.Goals as goal

pub loop-i-init : goal.loop-i-init
loop-i-init c =
    let a = c.args in
    record { sorted = none_sorted a.self.edges.now a.file.now a.dropped.now (whole_records a.self.record_length a.self.bytes.now); same = (refl, refl) }

pub add-requires : goal.add-requires
add-requires c =
    let s = c.args.self in
    next_room s.edges.now (whole_records s.record_length s.bytes.now) c.loop-i.i (omega arith) c.record.result c.record.ensures c.loop-i.invariant.sorted c.requires.0 c.requires.1

pub loop-i-preserved : goal.loop-i-preserved
loop-i-preserved c =
    let s = c.args.self in
    let l = c.loop-i.invariant in
    let a = c.add.ensures in
    record {
      sorted = next_sorted s.edges.now (whole_records s.record_length s.bytes.now) c.loop-i.i (omega arith) c.record.result c.record.ensures l.sorted a.adds;
      same = (a.same.0 ∙ l.same.0, a.same.1 ∙ l.same.1);
    }
