use mathlib.Core.Path.{◌≡◌}
use Rattle.endian.specs.Loops.{sum_to}
use Rattle.geometry.specs.Geometry.{bricks_in}
use Rattle.geometry.proofs.Volume.bricks_below.Given as goal

abbrev pub invariant-loop-l : goal.invariant-loop-l
invariant-loop-l l = l.sum ≡ sum_to (bricks_in l.self.size l.self.side) l.l
