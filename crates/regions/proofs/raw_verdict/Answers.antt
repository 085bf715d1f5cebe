use mathlib.Core.Path.{◌∙◌}
use Rattle.record.proofs.Laws.{width-le}
use Rattle.cube.specs.Regions.{raw_verdict}
use Rattle.regions.proofs.raw_verdict.Goals as goal

pub check_region-requires : goal.check_region-requires
check_region-requires c = rw c.width_of.ensures (width-le _)

pub returns : goal.returns
unfolding raw_verdict
returns c = c.check_region.ensures ∙ rw c.width_of.ensures
