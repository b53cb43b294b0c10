-- `count_fields` meets its contract: a record has an entry for each field that differs.
use Rattle.std.proofs.Common.{◌∙◌}
use Rattle.compare.proofs.Turns.{record_count}
use Rattle.compare.proofs.contents.count_fields.Goals as goal

pub returns : goal.returns
returns c = rw (c.contents_of.ensures, c.contents_of-2.ensures) at c.places_differing.ensures ∙ record_count 0 c.args.r c.args.s
