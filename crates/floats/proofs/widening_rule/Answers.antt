use Rattle.floats.proofs.Widening.{widening}
use Rattle.floats.proofs.widening_rule.Goals as goal

pub returns : goal.returns
returns c = widening
