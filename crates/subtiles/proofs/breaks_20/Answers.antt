use Rattle.subtiles.specs.Subtiles.{breaks20}
use Rattle.subtiles.proofs.breaks_20.Goals as goal

pub returns : goal.returns
unfolding breaks20
returns c = simp (c.power_in.ensures, c.power_in-2.ensures, c.power_in-3.ensures)
