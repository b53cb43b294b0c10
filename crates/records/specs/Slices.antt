-- The columns behind eight slices, as a function finds or leaves them. Definitions only.
use Rattle.std.specs.Prelude.{◌≡◌}
use Rattle.records.specs.Columns.{Columns, columns}
use Rattle.records.specs.declared.columns.Columns as shared
use Rattle.records.specs.declared.columns.ColumnsMut.{ColumnsMut}

abbrev pub held : shared.Columns → Columns
held c = columns c.u.now c.v.now c.place.now c.low.now c.high.now c.duv.now c.steps.now c.class.now

abbrev pub held_mut : ColumnsMut → Columns
held_mut c = columns c.u.now c.v.now c.place.now c.low.now c.high.now c.duv.now c.steps.now c.class.now

-- each slice is the one that was lent, so that what it holds is what its owner finds
pub record SameSlices (new old : ColumnsMut) : Type 0 where
  pub u : new.u.ghost_name ≡ old.u.ghost_name
  pub v : new.v.ghost_name ≡ old.v.ghost_name
  pub place : new.place.ghost_name ≡ old.place.ghost_name
  pub low : new.low.ghost_name ≡ old.low.ghost_name
  pub high : new.high.ghost_name ≡ old.high.ghost_name
  pub duv : new.duv.ghost_name ≡ old.duv.ghost_name
  pub steps : new.steps.ghost_name ≡ old.steps.ghost_name
  pub class : new.class.ghost_name ≡ old.class.ghost_name
