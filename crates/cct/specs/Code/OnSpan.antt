-- What the code that works out Duv is handed: a place of a span, with the reading's distance there.
use Rattle.std.specs.Prelude.{◌≡◌, ℕ, ◌*◌, ◌≤◌, ◌<◌}
use Rattle.locus.specs.Locus.{distance_at}
use Rattle.locus.specs.Code.Pieces.{AboutAnEntry}
use Rattle.locus.specs.declared.Span.{Span}

pub record OnSpan (span : Span) (u v place distance : ℕ) : Type 0 where
  pub about : AboutAnEntry span
  pub low : span.from ≤ place
  pub high : place ≤ span.to
  pub away : distance ≡ distance_at u v place
  -- its root fits an i32
  pub small : distance < 2147483648 * 2147483648
