use Prim.Native.Nat.{◌≤◌}
use Rattle.runs.specs.Views.{whole, Filled}
use Rattle.runs.proofs.walk.read_column.Given as goal

abbrev pub invariant-loop-t : goal.invariant-loop-t
invariant-loop-t g l = Filled g.R.Items.width g.R.Items.sample l.v (record { at = l.i.at; n = l.t }) l.j (whole l.v 2) l.initial.out l.out × (l.t ≤ l.i.n)
