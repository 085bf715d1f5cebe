use Rattle.runs.specs.Views.{whole, Filled}
use Rattle.runs.proofs.Sites.{PartsOf}
use Rattle.runs.proofs.walk.read_bricks.Given as goal

abbrev pub invariant-loop-along : goal.invariant-loop-along
invariant-loop-along g l = Filled g.R.Items.width g.R.Items.sample l.v (record { at = 0; n = l.along-iterator.at }) (whole l.v 1) (whole l.v 2) l.initial.out l.out × PartsOf l.v.site.lattice 0 l.along-iterator
