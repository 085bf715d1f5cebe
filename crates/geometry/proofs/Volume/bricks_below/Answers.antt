use mathlib.Core.Path.{sym}
use native.Mathlib.Omega.{arith}
use Rattle.endian.proofs.Search.{sum-none, sum_more}
use Rattle.geometry.specs.Geometry.{bricks_in}
use Rattle.geometry.proofs.Levels.{bricks_room, sizes_small, bricks-few, sum-most}
use Rattle.geometry.proofs.Volume.bricks_below.Goals as goal

pub loop-l-init : goal.loop-l-init
loop-l-init c = sym (sum-none (bricks_in c.args.self.size c.args.self.side))

pub overflow_add-sum : goal.overflow_add-sum
overflow_add-sum c =
    let few = sizes_small c.args.self.sizes in
    let most = sum-most (bricks_in c.args.self.size c.args.self.side) bricks_room (λ m. bricks-few m few) c.loop-l.l in
    omega (arith, c.loop-l.invariant, c.bricks_at-sum.ensures, bricks-few c.loop-l.l few, most)

pub loop-l-preserved : goal.loop-l-preserved
loop-l-preserved c = omega (arith, c.loop-l.invariant, c.bricks_at-sum.ensures, sum_more (bricks_in c.args.self.size c.args.self.side) c.loop-l.l)
