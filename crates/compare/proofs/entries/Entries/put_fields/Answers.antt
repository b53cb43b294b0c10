-- `put_fields` meets its contract: each turn adds the entry of one field.
use Rattle.std.proofs.Common.{rules, ◌<◌, pos, length, get_or, ap, ◌∙◌, arith, w64, SFits}
use Rattle.std.proofs.Math.Seq.{take_all}
use Rattle.arith.specs.SignedLaws.{back}
use Rattle.compare.specs.Differences.{of_field}
use Rattle.compare.proofs.Stores.{put_length}
use Rattle.compare.proofs.Turns.{turn_within, turn_put, of_contents}
use Rattle.compare.proofs.entries.Entries.put_fields.Goals as goal

pub put_field-requires : goal.put_field-requires
put_field-requires c =
    let a = c.args in
    let l = c.loop-k in
    let p = c.contents_of-first in
    let q = c.contents_of-second in
    let in_p : l.k < length p.result = omega (arith, ap length p.ensures) in
    let in_q : l.k < length q.result = omega (arith, ap length q.ensures) in
    let fits_x : SFits w64 (get_or p.result l.k (pos 0)) = search rules in
    let fits_y : SFits w64 (get_or q.result l.k (pos 0)) = search rules in
    let w = turn_within (of_field a.index) p.result q.result (pos 0) l.k in_p in_q in
    let e = ap length (of_contents a.index a.r a.s p.ensures q.ensures) in
    (c.requires.0, omega arith, rw (back fits_x, back fits_y) (omega (arith, w, e, c.requires.1, l.invariant.put.next, put_length l.invariant.put)))

pub loop-k-preserved : goal.loop-k-preserved
loop-k-preserved c =
    let l = c.loop-k in
    let p = c.contents_of-first in
    let q = c.contents_of-second in
    let in_p : l.k < length p.result = omega (arith, ap length p.ensures) in
    let in_q : l.k < length q.result = omega (arith, ap length q.ensures) in
    let fits_x : SFits w64 (get_or p.result l.k (pos 0)) = search rules in
    let fits_y : SFits w64 (get_or q.result l.k (pos 0)) = search rules in
    let put = rw (back fits_x, back fits_y) at c.put_field.ensures.put in
    record { put = turn_put (of_field c.args.index) p.result q.result (pos 0) l.k in_p in_q l.invariant.put put; same = c.put_field.ensures.same ∙ l.invariant.same }

pub returns : goal.returns
returns c =
    let a = c.args in
    let l = c.loop-k in
    let p = c.contents_of-first.result in
    let q = c.contents_of-second.result in
    let e = c.contents_of-first.ensures in
    let f = c.contents_of-second.ensures in
    record { put = rw (← of_contents a.index a.r a.s e f) (rw (take_all l.k p (omega (arith, ap length e)), take_all l.k q (omega (arith, ap length f))) at l.invariant.put); same = l.invariant.same }
