-- `has_room` meets its contract: no more differs than could, and otherwise the count decides.
use Rattle.std.proofs.Common.{ℕ, ◌*◌, leb, length, ap, sym, le-leb, arith}
use Rattle.compare.specs.Comparison.{file_differences, entry_length}
use Rattle.compare.proofs.Whole.{parts_length, both_most}
use Rattle.compare.proofs.pair.Pair.has_room.Goals as goal

pub returns-then-both-others : goal.returns-then-both-others
returns-then-both-others c =
    let a = c.args.self.first.bytes.now in
    let b = c.args.self.second.bytes.now in
    sym (le-leb (entry_length * length (file_differences a b)) c.args.room (omega (arith, parts_length a b, both_most a b)))

pub overflow_add-result : goal.overflow_add-result
overflow_add-result c = omega (arith, both_most c.args.self.first.bytes.now c.args.self.second.bytes.now)

pub overflow_mul-result : goal.overflow_mul-result
overflow_mul-result c = omega (arith, both_most c.args.self.first.bytes.now c.args.self.second.bytes.now)

pub returns : goal.returns
returns c = ap (λ (k : ℕ). leb k c.args.room) (omega (arith, parts_length c.args.self.first.bytes.now c.args.self.second.bytes.now))
