use Rattle.record.proofs.Laws.{shape-bricks}
use Rattle.checks.specs.Checks.{breaks8}
use Rattle.checks.proofs.check8.Goals as goal

pub returns : goal.returns
unfolding breaks8
returns c = rw (c.shape_in-shape.ensures, shape-bricks c.args.d)
