use mathlib.Core.Path.{refl}
use Rattle.locus.specs.Stored.{stored_u, stored_v, table_u, table_v, entry_in}
use Rattle.locus.specs.Locus.{between, locus_at}
use Rattle.table.specs.Ready.{ready_from}
use Rattle.table.proofs.ReadyTable.new.Goals as goal

pub returns : goal.returns
unfolding ready_from locus_at between entry_in table_u table_v stored_u stored_v
returns c = refl

pub invariant_of-result : goal.invariant_of-result
unfolding ready_from locus_at between entry_in table_u table_v stored_u stored_v
invariant_of-result c = record { ready = refl }
