use Rattle.runs.specs.Views.{Filled}
use Rattle.runs.proofs.Sites.{PartsOf}
use Rattle.runs.proofs.walk.read_boxes.Given as goal

abbrev pub invariant-loop-down : goal.invariant-loop-down
invariant-loop-down g l = Filled g.R.Items.width g.R.Items.sample l.v l.i l.j (record { at = 0; n = l.down-iterator.at }) l.initial.out l.out × PartsOf l.v.site.lattice 2 l.down-iterator
