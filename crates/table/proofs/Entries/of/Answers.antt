use Rattle.table.proofs.Tables.{readable}
use Rattle.table.proofs.Entries.of.Goals as goal

pub invariant_of-result : goal.invariant_of-result
invariant_of-result c = record { readable = readable c.args.r _ c.table_in.ensures c.requires.0 _ c.requires.1 }
