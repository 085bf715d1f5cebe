use Prim.Native.Nat.{◌≤◌}
use Rattle.runs.specs.Views.{only, Filled}
use Rattle.runs.proofs.walk.read_rows.Given as goal

abbrev pub invariant-loop-t : goal.invariant-loop-t
invariant-loop-t g l = Filled g.R.Items.width g.R.Items.sample l.v (only l.i) (record { at = l.j.at; n = l.t }) l.k l.initial.out l.out × (l.t ≤ l.j.n)
