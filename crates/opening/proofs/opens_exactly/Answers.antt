use Rattle.opening.proofs.Rules.{opens_exactly}
use Rattle.opening.proofs.opens_exactly.Goals as goal

pub returns : goal.returns
returns c = opens_exactly
