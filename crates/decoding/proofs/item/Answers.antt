use mathlib.Core.Path.{◌∙◌}
use native.Mathlib.Omega.{arith}
use Rattle.decoding.proofs.Items.{one}
use Rattle.decoding.proofs.item.Goals as goal

pub returns-in-1 : goal.returns-in-1
returns-in-1 c = rw c.in-1.is (c.from.ensures ∙ c.u8_at.ensures ∙ one _ _, omega arith)
