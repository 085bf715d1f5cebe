use Rattle.geometry.proofs.ShapeOf.{Counted}
use Rattle.geometry.proofs.Volume.shape.Given as goal

abbrev pub invariant-loop-l : goal.invariant-loop-l
invariant-loop-l l = Counted l.self.size l.self.side l.l l.bricks l.alphas
