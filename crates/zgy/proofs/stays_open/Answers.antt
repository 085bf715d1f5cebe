use Rattle.zgy.proofs.Whole.{stays_open}
use Rattle.zgy.proofs.stays_open.Goals as goal

pub returns : goal.returns
returns c = stays_open
