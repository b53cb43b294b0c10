-- One row of the columns, as a loop reads or stores it.
use Rattle.std.specs.Prelude.{ℕ, ◌<◌, length, set}
use Rattle.records.specs.Columns.{Columns}
use Rattle.records.specs.declared.fields.Record.{Record}

-- each column reaches row i
pub record HasRow (c : Columns) (i : ℕ) : Type 0 where
  pub u : i < length c.u
  pub v : i < length c.v
  pub place : i < length c.place
  pub low : i < length c.low
  pub high : i < length c.high
  pub duv : i < length c.duv
  pub steps : i < length c.steps
  pub class : i < length c.class

-- the record in row i instead of what was there
abbrev pub stored : Columns → ℕ → Record → Columns
stored c i r =
    record {
      u = set c.u i r.u;
      v = set c.v i r.v;
      place = set c.place i r.place;
      low = set c.low i r.low;
      high = set c.high i r.high;
      duv = set c.duv i r.duv;
      steps = set c.steps i r.steps;
      class = set c.class i r.class;
    }
