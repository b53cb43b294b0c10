-- How the parts that the code works out make up the answer of the definitions.
use mathlib.Core.Path.{◌≡◌, refl}
use Prim.Native.Nat.{ℕ}
use native.Mathlib.Omega.{arith}
use lib.IntN.{pos}
use Rattle.std.proofs.Common.{Ok}
use Rattle.locus.specs.declared.Span.{Span}
use Rattle.locus.specs.declared.Nearest.{Nearest}
use Rattle.locus.specs.Locus.{distance_at}
use Rattle.locus.specs.LocusLaws.{entry_distance_lem}
use Rattle.locus.specs.Code.Pieces.{span_about}
use Rattle.locus.specs.PieceLaws.{span_ends}
use Rattle.locus.specs.Admission.{admission}
use Rattle.locus.specs.AdmissionLaws.{admitted_near}
use Rattle.search.specs.declared.Search.{Search}
use Rattle.search.specs.Golden.{steps_of}
use Rattle.search.specs.GoldenLaws.{after_inside, after_near}
use Rattle.search.specs.Code.Found.{found}
use Rattle.cct.specs.Code.OnSpan.{OnSpan}
use Rattle.cct.specs.FloatAnswers.{double}
use lib.Ieee.{of_bits, of_int, binary64}

-- the best point of a search for an admitted reading lies on its span, within the limit
pub best_on : (u v n : ℕ) (near : Nearest) (span : Span) (s : Search) → admission u v ≡ Ok near → span ≡ span_about near.entry → s ≡ found (distance_at u v) near.entry n → OnSpan span u v s.best s.distance
unfolding found
best_on u v n near span s h about e =
    let m = near.entry in
    let a = admitted_near u v m near.distance h in
    let ends = span_ends m span about in
    let i = after_inside (distance_at u v) m a.first a.last (steps_of n) (omega arith) in
    let f = after_near (distance_at u v) m a.first a.last (steps_of n) (omega arith) in
    let g = entry_distance_lem u v m a.first a.last in
    rw e
    (record {
      about = record { entry = m; first = a.first; last = a.last; is = about };
      low = omega arith;
      high = omega arith;
      away = refl;
      small = omega arith;
    })

-- the float that is written 0.0 is the whole number 0 as a float
pub zero_float : of_bits binary64 0 ≡ double (pos 0)
unfolding of_bits of_int
zero_float = refl
