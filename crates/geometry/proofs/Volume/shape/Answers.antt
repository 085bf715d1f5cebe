use native.Mathlib.Omega.{arith}
use Rattle.geometry.proofs.ShapeOf.{counted_start, counted-few, counted-small, counted-more, counted-last}
use Rattle.geometry.proofs.Volume.shape.Goals as goal

pub loop-l-init : goal.loop-l-init
loop-l-init c = counted_start c.args.self.sizes

pub overflow_add-bricks : goal.overflow_add-bricks
overflow_add-bricks c = omega (arith, c.bricks_at-here.ensures, (counted-small c.args.self.sizes c.loop-l.invariant).0)

pub overflow_add-alphas : goal.overflow_add-alphas
overflow_add-alphas c = omega (arith, c.alphas_at-alphas.ensures, (counted-small c.args.self.sizes c.loop-l.invariant).1)

pub returns-then-here-eq1 : goal.returns-then-here-eq1
returns-then-here-eq1 c =
    counted-last c.args.self.sizes c.loop-l.invariant c.bricks_at-here.ensures c.alphas_at-alphas.ensures c.if-here-eq1.true

pub loop-l-preserved : goal.loop-l-preserved
loop-l-preserved c =
    counted-more c.args.self.sizes c.loop-l.invariant c.bricks_at-here.ensures c.alphas_at-alphas.ensures c.if-here-eq1.false

pub unreachable-requires : goal.unreachable-requires
unreachable-requires c = omega (arith, counted-few c.args.self.sizes c.loop-l.invariant)
