use Rattle.zgy.proofs.Refusals.{every-call_refuses}
use Rattle.zgy.proofs.every_call_refuses_by_number.Goals as goal

pub returns : goal.returns
returns c = every-call_refuses
