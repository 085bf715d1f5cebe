use mathlib.Core.Path.{◌∙◌}
use native.Mathlib.Omega.{arith}
use Rattle.geometry.proofs.Levels.{sizes_small, halvings, bricks-few}
use Rattle.geometry.proofs.Volume.bricks_at.Goals as goal

pub overflow_mul-result : goal.overflow_mul-result
overflow_mul-result c =
    rw (c.alphas_at.ensures, c.count_at.ensures ∙ (halvings c.args.self.sizes c.args.l).2) (omega (arith, bricks-few c.args.l (sizes_small c.args.self.sizes)))

pub returns : goal.returns
returns c =
    rw (c.alphas_at.ensures, c.count_at.ensures ∙ (halvings c.args.self.sizes c.args.l).2)
