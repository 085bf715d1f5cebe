use mathlib.Core.Path.{◌∙◌}
use native.Mathlib.Nat.{mul-one}
use Rattle.cube.specs.Regions.{float_verdict}
use Rattle.regions.proofs.float_verdict.Goals as goal

pub returns : goal.returns
unfolding float_verdict
returns c = c.check_region.ensures ∙ simp mul-one
