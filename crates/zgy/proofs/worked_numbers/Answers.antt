use Rattle.zgy.proofs.Worked.{worked}
use Rattle.zgy.proofs.worked_numbers.Goals as goal

pub returns : goal.returns
returns c = worked
