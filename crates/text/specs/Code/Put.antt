-- What a method that appends to the output has done.
use Rattle.std.specs.Prelude.{ℕ, ◌+◌, ◌≤◌, ◌≡◌, List, length}
use Rattle.text.specs.declared.print.Output.{Output}
use Rattle.text.specs.Wrote.{Wrote}

-- so many bytes more have room
abbrev pub Room : Output → ℕ → Type 0
Room o n = o.end + n ≤ length o.bytes.now

-- the output goes on with the text, in the buffer that it was in
pub record Put (old new : Output) (text : List ℕ) : Type 0 where
  pub wrote : Wrote old.end old.bytes.now new.bytes.now new.end text
  pub long : length new.bytes.now ≡ length old.bytes.now
  pub same : new.bytes.ghost_name ≡ old.bytes.ghost_name
