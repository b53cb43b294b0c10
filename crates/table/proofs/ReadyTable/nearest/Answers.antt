use mathlib.Core.Path.{◌≡◌, refl, ap, ◌∙◌}
use Prim.Native.Nat.{ℕ}
use native.Mathlib.Omega.{arith}
use Rattle.std.specs.Prelude.{Option, Some}
use Rattle.arith.specs.Least.{least_of}
use Rattle.arith.specs.LeastLaws.{least}
use Rattle.table.specs.Ready.{last_ready, ready_place, ready_distance, nearest_ready}
use Rattle.table.specs.Code.Scan.{Within, nearest_of}
use Rattle.table.specs.ScanLaws.{scan_last}
use Rattle.table.specs.declared.Nearest.{Nearest}
use Rattle.table.proofs.ReadyTable.nearest.Goals as goal

-- what is kept at the end is the nearest of all ready points
ended :
    (u v near k : ℕ) {kept : Nearest} → kept ≡ nearest_of u v near k → k ≡ 1565 → Within u v near
    → kept.number ≡ Some (least_of (ready_distance u v) last_ready)
ended u v near k h e w = ap (λ (x : Nearest). x.number) (h ∙ ap (nearest_of u v near) e) ∙ scan_last u v near w

pub unwrap-requires : goal.unwrap-requires
unwrap-requires c =
    let a = c.args in
    rw (ended a.p.u a.p.v a.near c.loop-k.k c.loop-k.invariant (omega arith) c.requires.3) refl

-- and so is the number that is unwrapped
found : {o : Option ℕ} {m k : ℕ} → o ≡ Some m → o ≡ Some k → k ≡ m
found x y = cc

pub place_of-requires : goal.place_of-requires
place_of-requires c =
    let a = c.args in
    let l = least (ready_distance a.p.u a.p.v) last_ready in
    omega (arith, found (ended a.p.u a.p.v a.near c.loop-k.k c.loop-k.invariant (omega arith) c.requires.3) c.unwrap.ensures, l.among)

pub returns-clause-answers : goal.returns-clause-answers
unfolding nearest_ready
returns-clause-answers c =
    let a = c.args in
    c.place_of.ensures ∙ ap ready_place (found (ended a.p.u a.p.v a.near c.loop-k.k c.loop-k.invariant (omega arith) c.requires.3) c.unwrap.ensures)
