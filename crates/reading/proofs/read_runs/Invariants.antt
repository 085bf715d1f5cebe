use Prim.Native.Nat.{◌≤◌}
use Rattle.runs.specs.Views.{Filled}
use Rattle.cube.specs.Places.{item_bytes}
use Rattle.reading.specs.Items.{raw_at}
use Rattle.reading.proofs.read_runs.Given as goal

abbrev pub invariant-loop-t : goal.invariant-loop-t
invariant-loop-t l = Filled item_bytes raw_at l.v (record { at = l.b.i.at; n = l.t }) l.b.j l.b.k l.initial.out l.out × (l.t ≤ l.b.i.n)
