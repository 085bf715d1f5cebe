use Prim.Native.Nat.{◌≤◌}
use Rattle.runs.specs.Views.{Filled}
use Rattle.runs.proofs.walk.read_inlines.Given as goal

abbrev pub invariant-loop-t : goal.invariant-loop-t
invariant-loop-t g l = Filled g.R.Items.width g.R.Items.sample l.v (record { at = l.b.i.at; n = l.t }) l.b.j l.b.k l.initial.out l.out × (l.t ≤ l.b.i.n)
