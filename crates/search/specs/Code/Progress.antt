-- What a search begins with, what it holds under way and how a step changes it.
use Rattle.std.specs.Prelude.{◌≡◌, Bool, cond, ℕ, ◌+◌, ◌-◌, ◌*◌, ◌≤◌, ltb}
use Rattle.locus.specs.Stored.{entry_place, last_place, first_entry, last_entry}
use Rattle.locus.specs.AdmissionLaws.{Admitted}
use Rattle.locus.specs.Code.Pieces.{AboutAnEntry}
use Rattle.locus.specs.declared.Span.{Span}
use Rattle.search.specs.Golden.{pieces, fibonacci, inner_low, inner_high, State, after}
use Rattle.search.specs.declared.Progress.{Progress}

-- what a search begins with: an admitted reading and the span over the bracket about its entry m
pub record Begins (u v : ℕ) (span : Span) (m distance : ℕ) : Type 0 where
  pub admitted : Admitted u v m distance
  pub about : AboutAnEntry span
  pub from : span.from ≡ entry_place (first_entry m)
  pub to : span.to ≡ entry_place (last_entry m)

-- the state of the rules
abbrev pub state_of : Progress → State
state_of p = record { low = p.low; high = p.low + 2 * p.long + p.short; best = p.best }

-- the code's search is that of the rules after j steps, with the lengths and distances that it keeps
pub record Tracks (d : ℕ → ℕ) (m j : ℕ) (p : Progress) : Type 0 where
  pub state : state_of p ≡ after d m j
  pub long : p.long ≡ pieces m * fibonacci (16 - j)
  pub short : p.short ≡ pieces m * fibonacci (15 - j)
  pub left : p.left ≡ d (inner_low (pieces m) j p.low)
  pub right : p.right ≡ d (inner_high (pieces m) j p.low)
  pub least : p.least ≡ d p.best

-- the bracket lies within a span
pub record Lies (span : Span) (p : Progress) : Type 0 where
  pub about : AboutAnEntry span
  pub on_locus : span.to ≤ last_place
  pub low : span.from ≤ p.low
  pub high : p.low + 2 * p.long + p.short ≤ span.to
  pub lengths : p.short ≤ p.long

-- one step on, to the left or to the right
unfoldable pub moved : Bool → (ℕ → ℕ) → Progress → Progress
moved goLeft d p =
    let place : ℕ = cond goLeft (p.low + p.short) (p.low + p.long + p.long) in
    let nearer : Bool = ltb (d place) p.least in
    record {
      low = cond goLeft p.low (p.low + p.long);
      long = p.short;
      short = p.long - p.short;
      left = cond goLeft (d place) p.right;
      right = cond goLeft p.left (d place);
      best = cond nearer place p.best;
      least = cond nearer (d place) p.least;
    }
