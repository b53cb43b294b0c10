-- Entries written into a target.
use Rattle.std.specs.Prelude.{◌≡◌, List, ℕ, ◌+◌, ◌*◌, ℤ, length}
use Rattle.std.proofs.lemmas.List.Edits.{sets}
use Rattle.compare.specs.Differences.{Entry, numbers}
use Rattle.compare.specs.Comparison.{entry_length}

-- the entries stand in the target from a place on, what else it held is there still, and the next entry goes to `end`
pub record Put (old new : List ℤ) (at end : ℕ) (es : List Entry) : Type 0 where
  pub target : new ≡ sets old at (numbers es)
  pub next : end ≡ at + entry_length * length es
