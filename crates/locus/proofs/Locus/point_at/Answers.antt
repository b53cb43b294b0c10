use mathlib.Core.Path.{◌≡◌}
use Prim.Native.Nat.{ℕ, ◌≤◌}
use native.Mathlib.Omega.{arith}
use Rattle.locus.specs.Code.Pieces.{span_about, AboutAnEntry}
use Rattle.locus.specs.PieceLaws.{span_ends}
use Rattle.locus.specs.declared.Span.{Span}
use Rattle.locus.proofs.Locus.point_at.Goals as goal

about : {m : ℕ} {span : Span} → span ≡ span_about m → 1 ≤ m → m ≤ 24 → AboutAnEntry span
about {m} e l h = record { entry = m; first = l; last = h; is = e }

pub point_at-requires : goal.point_at-requires
point_at-requires c =
    let s = c.span_about-span.ensures.answers in
    let e = span_ends _ c.span_about-span.result s in
    (about s (omega arith) (omega arith), omega (arith, e), omega (arith, e))
