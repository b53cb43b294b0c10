-- `places_differing` meets its contract: each turn adds the place where the contents differ there.
use Rattle.std.proofs.Common.{rules, ◌<◌, pos, length, get_or, arith, w64, SFits}
use Rattle.arith.specs.SameLaws.{bits_same, bits_differ}
use Rattle.compare.proofs.Turns.{count_next}
use Rattle.compare.proofs.contents.places_differing.Goals.{then-first-k, else-first-k}
use Rattle.compare.proofs.contents.places_differing.Goals as goal

pub loop-k-preserved : goal.loop-k-preserved
loop-k-preserved c =
    let l = c.loop-k in
    let p = c.args.first.now in
    let q = c.args.second.now in
    let x = get_or p l.k (pos 0) in
    let y = get_or q l.k (pos 0) in
    let in_p : l.k < length p = search rules in
    let in_q : l.k < length q = search rules in
    let fits_x : SFits w64 x = search rules in
    let fits_y : SFits w64 y = search rules in
    let next = count_next p q (pos 0) l.k in_p in_q in
    elim c.if-first-k.branch [
      | then-first-k w ↦ let more = rw (bits_differ w64 x y w.if-first-k.true) at next in record { few = omega (arith, w.count-is, l.invariant.few); counted = omega (arith, w.count-is, l.invariant.counted, more) }
      | else-first-k w ↦ let more = rw (bits_same w64 x y fits_x fits_y w.if-first-k.false) at next in record { few = omega (arith, w.count-is, l.invariant.few); counted = omega (arith, w.count-is, l.invariant.counted, more) }
    ]
