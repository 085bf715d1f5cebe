use Rattle.opening.proofs.Rules.{record_passes}
use Rattle.opening.proofs.record_passes.Goals as goal

pub returns : goal.returns
returns c = record_passes
