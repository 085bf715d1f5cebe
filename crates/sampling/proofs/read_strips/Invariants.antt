use Prim.Native.Nat.{◌≤◌}
use Rattle.runs.specs.Views.{Filled}
use Rattle.sampling.specs.Samples.{one, float_at}
use Rattle.sampling.proofs.read_strips.Given as goal

abbrev pub invariant-loop-t : goal.invariant-loop-t
invariant-loop-t l = Filled one float_at l.v (record { at = l.b.i.at; n = l.t }) l.b.j l.b.k l.initial.out l.out × (l.t ≤ l.b.i.n)
