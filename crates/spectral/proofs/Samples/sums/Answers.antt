-- `sums` meets its contract: each sum is the definition's of the samples passed, and 64 bits hold it.
use Rattle.std.proofs.Common.{refl, take_all, arith}
use Rattle.spectral.specs.Samples.{sum_of_products}
use Rattle.spectral.specs.SumLaws.{summable, sum_next, sum_fits}
use Rattle.spectral.proofs.Samples.sums.Goals as goal

pub loop-k-init : goal.loop-k-init
unfolding sum_of_products
loop-k-init c = record { x = refl; y = refl; z = refl }

pub bounds-self-k : goal.bounds-self-k
bounds-self-k c = omega (arith, (summable _ _ _ _ c.requires).0.same)

pub overflow_add-sums : goal.overflow_add-sums
overflow_add-sums c = omega (arith, sum_fits _ _ (summable _ _ _ _ c.requires).0 c.loop-k.k (omega arith) c.loop-k.invariant.x refl)

pub bounds-self-k-in-loop-k : goal.bounds-self-k-in-loop-k
bounds-self-k-in-loop-k c = omega (arith, (summable _ _ _ _ c.requires).1.same)

pub overflow_add-sums-in-loop-k : goal.overflow_add-sums-in-loop-k
overflow_add-sums-in-loop-k c = omega (arith, sum_fits _ _ (summable _ _ _ _ c.requires).1 c.loop-k.k (omega arith) c.loop-k.invariant.y refl)

pub bounds-self-k-in-loop-k-2 : goal.bounds-self-k-in-loop-k-2
bounds-self-k-in-loop-k-2 c = omega (arith, (summable _ _ _ _ c.requires).2.same)

pub overflow_add-sums-in-loop-k-2 : goal.overflow_add-sums-in-loop-k-2
overflow_add-sums-in-loop-k-2 c = omega (arith, sum_fits _ _ (summable _ _ _ _ c.requires).2 c.loop-k.k (omega arith) c.loop-k.invariant.z refl)

pub loop-k-preserved : goal.loop-k-preserved
loop-k-preserved c =
    let l = c.loop-k in
    let t = summable _ _ _ _ c.requires in
    record {
      x = sum_next _ _ t.0 l.k (omega arith) l.invariant.x refl;
      y = sum_next _ _ t.1 l.k (omega arith) l.invariant.y refl;
      z = sum_next _ _ t.2 l.k (omega arith) l.invariant.z refl;
    }

pub returns : goal.returns
returns c =
    let a = c.args.self.now in
    let l = c.loop-k in
    let t = summable _ _ _ _ c.requires in
    rw (l.invariant.x, l.invariant.y, l.invariant.z, take_all l.k a.samples.now (omega arith), take_all l.k a.x_bar.now (omega (arith, t.0.same)), take_all l.k a.y_bar.now (omega (arith, t.1.same)), take_all l.k a.z_bar.now (omega (arith, t.2.same))) refl
