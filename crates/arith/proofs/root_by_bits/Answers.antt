-- `Rooting` holds before every round, and what it keeps is the root after the last.
use Rattle.std.proofs.Common.{◌≡◌, ◌+◌, ◌-◌, ◌<◌, arith}
use Rattle.arith.proofs.Bits.{begun, taken, passed, ended}
use Rattle.arith.proofs.root_by_bits.Goals as goal
use Rattle.arith.proofs.root_by_bits.Goals.{then-growth-rest, else-growth-rest}

pub loop-init : goal.loop-init
loop-init c =
    let e : c.args.bits - 0 ≡ c.args.bits = omega arith in
    rw e (begun c.requires.0 c.requires.1 c.requires.2)

pub loop-preserved : goal.loop-preserved
loop-preserved c =
    let l = c.loop in
    let pos : 0 < c.args.bits - l.counter = omega arith in
    let e : c.args.bits - (l.counter + 1) ≡ c.args.bits - l.counter - 1 = omega arith in
    rw e (elim c.if-growth-rest.branch [
      | then-growth-rest w ↦ taken pos l.invariant (omega arith) (omega arith)
      | else-growth-rest w ↦ passed pos l.invariant (omega arith) (omega arith) (omega arith)
    ])

pub returns : goal.returns
returns c =
    let l = c.loop in
    let e : c.args.bits - l.counter ≡ 0 = omega arith in
    ended (omega arith) (rw e at l.invariant)
