-- What a function that appends to an output buffer has done.
use Rattle.std.specs.Prelude.{ℕ, ◌+◌, ◌≤◌, ◌≡◌, List, ◌++◌, length, take, drop}

-- the buffer `old` became `new`: it holds the text from `at` up to `end`, and every other byte is as it was
pub record Wrote (at : ℕ) (old new : List ℕ) (end : ℕ) (text : List ℕ) : Type 0 where
  pub ends : end ≡ at + length text
  pub fits : end ≤ length old
  pub holds : new ≡ take at old ++ text ++ drop end old
