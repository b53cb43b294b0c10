-- `put` meets its contract: the records that both files have, and then those that only one has.
use Rattle.std.proofs.Common.{◌-◌, arith}
use Rattle.compare.specs.EntryLaws.{extra_length}
use Rattle.compare.proofs.Stores.{put_length, put_then}
use Rattle.compare.proofs.Whole.{parts, parts_length}
use Rattle.compare.proofs.pair.Pair.put.Goals as goal

pub put_both-requires : goal.put_both-requires
put_both-requires c = omega (arith, parts_length c.args.self.first.bytes.now c.args.self.second.bytes.now)

pub put_extra-requires : goal.put_extra-requires
put_extra-requires c =
    let p = c.put_both.ensures.put in
    (omega arith, omega (arith, c.count-m.ensures.few), omega (arith, parts_length c.args.self.first.bytes.now c.args.self.second.bytes.now, c.requires, p.next, put_length p))

pub put_extra-requires-2 : goal.put_extra-requires-2
put_extra-requires-2 c =
    let m = c.count-m.result in
    let n = c.count-n.result in
    let p = c.put_both.ensures.put in
    let q = c.put_extra.ensures.put in
    (omega arith, omega (arith, c.count-n.ensures.few), omega (arith, parts_length c.args.self.first.bytes.now c.args.self.second.bytes.now, c.requires, p.next, q.next, extra_length 8 n (m - n), put_length p, put_length q))

pub returns-clause-put : goal.returns-clause-put
returns-clause-put c =
    rw (parts c.args.self.first.bytes.now c.args.self.second.bytes.now, ← c.count-m.ensures.count, ← c.count-n.ensures.count)
    (put_then c.put_both.ensures.put (put_then c.put_extra.ensures.put c.put_extra-2.ensures.put))
