-- Refusals 2 and 3 of a list of floats, for the contract of `judge`.
use Rattle.std.specs.Prelude.{List, cond, Float, Result, Ok, Err}
use Rattle.std.specs.List.{list_all}
use Rattle.std.specs.Float.Ieee.Scale.{finite}
use Rattle.refusal.specs.declared.Refusal.{Refusal}
use Rattle.refusal.specs.declared.Refusal.TheVariants.{NotFinite, OutOfRange}
use Rattle.reading.specs.Whole.{in_range}
use Rattle.reading.specs.declared.Quantity.{Quantity}

-- in the table's order, each judged over all floats
abbrev pub judge : Quantity → List Float → Result Unit Refusal
judge q l = cond (list_all finite l) (cond (list_all (in_range q) l) (Ok tt) (Err OutOfRange)) (Err NotFinite)
