use mathlib.Core.Path.{◌∙◌}
use Rattle.geometry.proofs.Levels.{div_ceil-is}
use Rattle.geometry.proofs.ceil_div.Goals as goal

pub returns : goal.returns
returns c = c.div_ceil.ensures ∙ div_ceil-is c.args.n c.args.d c.requires.0
