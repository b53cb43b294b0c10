-- The two layouts of a record, by how many bytes Duv has. Definitions only.
use Rattle.std.specs.Prelude.{ℕ, cond, eqb, Result, Ok, Err}
use Rattle.refusal.specs.declared.Refusal.{Refusal}
use Rattle.refusal.specs.declared.Refusal.TheVariants.{BadRecordLength}
use Rattle.records.specs.Fields.{duv_width, earlier_duv_width, record_length_of}
use Rattle.records.specs.declared.layout.Layout.{Layout}
use Rattle.records.specs.declared.layout.Layout.TheVariants.{Earlier, Written}

abbrev pub width_of : Layout → ℕ
width_of Earlier = earlier_duv_width
width_of Written = duv_width

abbrev pub length_of : Layout → ℕ
length_of layout = record_length_of (width_of layout)

-- the layout of records of this length, or refusal 14
abbrev pub layout_of : ℕ → Result Layout Refusal
layout_of long =
    cond (eqb long (record_length_of earlier_duv_width)) (Ok Earlier)
    (cond (eqb long (record_length_of duv_width)) (Ok Written) (Err BadRecordLength))
