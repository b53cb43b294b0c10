use Prim.Native.Nat.{◌-◌}
use Rattle.arith.proofs.Bits.{Rooting}
use Rattle.arith.proofs.root_by_bits.Given as goal

abbrev pub invariant-loop : goal.invariant-loop
invariant-loop l = Rooting l.n (l.bits - l.counter) l.rest l.root l.square
