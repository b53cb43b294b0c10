use mathlib.Core.Path.{◌≡◌}
use Prim.Native.Nat.{ℕ, ◌≤◌}
use native.Mathlib.Omega.{arith}
use Rattle.std.specs.Prelude.{Ok}
use Rattle.locus.specs.Locus.{distance_at}
use Rattle.locus.specs.Admission.{admission}
use Rattle.locus.specs.declared.Nearest.{Nearest}
use Rattle.locus.specs.Code.Pieces.{span_about}
use Rattle.locus.specs.declared.Span.{Span}
use Rattle.search.specs.Golden.{most_steps, steps_of}
use Rattle.search.specs.Code.Progress.{Tracks, Lies}
use Rattle.search.specs.declared.Progress.{Progress}
use Rattle.search.proofs.Moves.{tracks_next, begins, lies, answers}
use Rattle.search.proofs.run.Goals as goal

-- the bracket lies within the span
within :
    (u v : ℕ) (near : Nearest) (j : ℕ) {span : Span} {s : Progress}
    → (admission u v ≡ Ok near) × (span ≡ span_about near.entry) → j ≤ most_steps → Tracks (distance_at u v) near.entry j s → Lies span s
within u v near j {span} p h k = lies (distance_at u v) (begins u v near span p.0 p.1) h k

-- the search begins about an admitted reading's entry
pub begin-s-requires : goal.begin-s-requires
begin-s-requires c = begins c.args.p.u c.args.p.v c.args.near c.args.span c.requires.0 c.requires.1

pub invariant_of-reading : goal.invariant_of-reading
invariant_of-reading c =
    let n = (begins c.args.p.u c.args.p.v c.args.near c.args.span c.requires.0 c.requires.1).admitted in
    record { u_small = n.u_small; v_small = n.v_small }

pub step-s-requires : goal.step-s-requires
step-s-requires c = within c.args.p.u c.args.p.v c.args.near c.loop-j.j c.requires (omega (arith, c.min-steps.ensures)) c.loop-j.invariant

pub loop-j-preserved : goal.loop-j-preserved
loop-j-preserved c =
    let a = c.args in
    let l = c.loop-j in
    rw c.step-s.ensures (tracks_next (distance_at a.p.u a.p.v) a.near.entry l.j l.s (omega (arith, c.min-steps.ensures)) l.invariant)

pub high-requires : goal.high-requires
high-requires c =
    let a = c.args in
    omega (arith, within a.p.u a.p.v a.near c.loop-j.j c.requires (omega (arith, c.min-steps.ensures)) c.loop-j.invariant)

pub returns : goal.returns
returns c =
    let a = c.args in
    let l = c.loop-j in
    let done : l.j ≡ steps_of a.max_steps = omega (arith, c.min-steps.ensures) in
    rw c.high.ensures (answers (distance_at a.p.u a.p.v) a.near.entry a.max_steps l.s c.min-steps.ensures (rw done at l.invariant))
