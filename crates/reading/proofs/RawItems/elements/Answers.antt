use mathlib.Core.Path.{◌∙◌}
use Rattle.runs.proofs.Steps.{ready-width}
use Rattle.reading.proofs.RawItems.elements.Goals as goal

pub returns : goal.returns
returns c = c.index.ensures.0 ∙ ready-width _ _ _ _ c.args.v.now.ready
