use Rattle.subtiles.proofs.Orders.{there_and_back}
use Rattle.subtiles.proofs.there_and_back.Goals as goal

pub returns : goal.returns
returns c = there_and_back
