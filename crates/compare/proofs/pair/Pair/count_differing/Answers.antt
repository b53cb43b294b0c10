-- `count_differing` meets its contract: each turn adds the fields of one record.
use Rattle.std.proofs.Common.{◌≤◌, ap, sym, length, ◌∙◌, arith}
use Rattle.compare.specs.Differences.{field_count}
use Rattle.compare.specs.EntryLaws.{length_of_record}
use Rattle.compare.proofs.Whole.{entries_all, next_length}
use Rattle.compare.proofs.pair.Pair.count_differing.Goals as goal

-- a record has as many as it has fields at most
few : (c : goal.After-count_fields-count) → c.count_fields-count.result ≤ field_count
few c = rw c.count_fields-count.ensures (length_of_record 0 c.record.result c.record-in-loop-i.result)

pub overflow_add-count : goal.overflow_add-count
overflow_add-count c = omega (arith, few c, c.loop-i.invariant.few, c.both-i-end.ensures.few)

pub loop-i-preserved : goal.loop-i-preserved
loop-i-preserved c =
    let l = c.loop-i in
    let r = c.record in
    let s = c.record-in-loop-i in
    let t = next_length c.args.self.first.bytes.now c.args.self.second.bytes.now l.i (omega arith) r.result s.result r.ensures s.ensures in
    record { few = omega (arith, few c); counted = omega (arith, l.invariant.counted, t, c.count_fields-count.ensures) }

pub returns : goal.returns
returns c =
    let l = c.loop-i in
    l.invariant.counted ∙ ap length (sym (entries_all c.args.self.first.bytes.now c.args.self.second.bytes.now l.i (omega arith)))
