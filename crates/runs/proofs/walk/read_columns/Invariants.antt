use Rattle.runs.specs.Views.{whole, Filled}
use Rattle.runs.proofs.Sites.{PartsOf}
use Rattle.runs.proofs.walk.read_columns.Given as goal

abbrev pub invariant-loop-across : goal.invariant-loop-across
invariant-loop-across g l = Filled g.R.Items.width g.R.Items.sample l.v l.i (record { at = 0; n = l.across-iterator.at }) (whole l.v 2) l.initial.out l.out × PartsOf l.v.site.lattice 1 l.across-iterator
