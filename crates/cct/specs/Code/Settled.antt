-- What an answer that may be refused comes to: itself, or what the refusal is answered with.
use Rattle.std.specs.Prelude.{Result, Ok, Err}
use Rattle.refusal.specs.declared.Refusal.{Refusal}

abbrev pub settled : {A : Type 0} → (Refusal → A) → Result A Refusal → A
settled f (Ok a) = a
settled f (Err r) = f r
