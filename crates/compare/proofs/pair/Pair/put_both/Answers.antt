-- `put_both` meets its contract: each turn adds the entries of one record.
use Rattle.std.proofs.Common.{◌∙◌, arith}
use Rattle.compare.proofs.Stores.{put_length}
use Rattle.compare.proofs.Whole.{entries_all, next_within, next_put}
use Rattle.compare.proofs.pair.Pair.put_both.Goals as goal

pub put_fields-requires : goal.put_fields-requires
put_fields-requires c =
    let l = c.loop-i in
    let r = c.record in
    let s = c.record-in-loop-i in
    let w = next_within c.args.self.first.bytes.now c.args.self.second.bytes.now l.i (omega arith) r.result s.result r.ensures s.ensures in
    (omega (arith, c.both-i-end.ensures.few), omega (arith, w, c.requires, l.invariant.put.next, put_length l.invariant.put))

pub loop-i-preserved : goal.loop-i-preserved
loop-i-preserved c =
    let l = c.loop-i in
    let r = c.record in
    let s = c.record-in-loop-i in
    record {
      put = next_put c.args.self.first.bytes.now c.args.self.second.bytes.now l.i (omega arith) r.result s.result r.ensures s.ensures l.invariant.put c.put_fields.ensures.put;
      same = c.put_fields.ensures.same ∙ l.invariant.same;
    }

pub returns-clause-put : goal.returns-clause-put
returns-clause-put c = rw (entries_all c.args.self.first.bytes.now c.args.self.second.bytes.now c.loop-i.i (omega arith)) c.loop-i.invariant.put
