use Rattle.geometry.proofs.Levels.{halving_rule}
use Rattle.geometry.proofs.halving_rule.Goals as goal

pub returns : goal.returns
returns c = halving_rule
