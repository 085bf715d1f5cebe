use Rattle.table.proofs.Words.{stored_small}
use Rattle.table.proofs.Entries.offset.Goals as goal

pub returns-clause-small : goal.returns-clause-small
returns-clause-small c = rw (c.offset.ensures, c.kind.ensures) (stored_small _ _ _)
