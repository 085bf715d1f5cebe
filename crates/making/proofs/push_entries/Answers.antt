use Rattle.making.proofs.Pieces.{entry_none, entry_more}
use Rattle.making.proofs.push_entries.Goals as goal

pub loop-entry-init : goal.loop-entry-init
loop-entry-init c = entry_none _ _ _

pub loop-entry-preserved : goal.loop-entry-preserved
loop-entry-preserved c = entry_more c.args.first c.args.step c.loop-entry.entry c.loop-entry.invariant c.push_u64.ensures
