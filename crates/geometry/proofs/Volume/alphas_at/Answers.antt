use mathlib.Core.Path.{◌∙◌}
use native.Mathlib.Omega.{arith}
use Rattle.geometry.proofs.Levels.{sizes_small, halvings, tiles_few}
use Rattle.geometry.proofs.Volume.alphas_at.Goals as goal

pub overflow_mul-result : goal.overflow_mul-result
overflow_mul-result c =
    let e = halvings c.args.self.sizes c.args.l in
    rw (c.count_at.ensures ∙ e.0, c.count_at-2.ensures ∙ e.1) (omega (arith, tiles_few c.args.l (sizes_small c.args.self.sizes)))

pub returns : goal.returns
returns c =
    let e = halvings c.args.self.sizes c.args.l in
    rw (c.count_at.ensures ∙ e.0, c.count_at-2.ensures ∙ e.1)
