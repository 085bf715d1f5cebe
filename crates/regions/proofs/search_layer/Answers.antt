use mathlib.Core.Path.{sym, ◌∙◌}
use Rattle.regions.proofs.Finds.{find_start, part_hit, part_more}
use native.Mathlib.Omega.{arith}
use Rattle.regions.proofs.search_layer.Goals as goal

pub loop-y-init : goal.loop-y-init
loop-y-init g c = (omega arith, find_start _ _)

pub returns-then-is_some : goal.returns-then-is_some
returns-then-is_some g c =
    part_hit _ _ c.args.b.crossline c.loop-y.y _ (omega arith) c.loop-y.invariant.1 c.search_row-found.ensures (sym c.is_some.ensures ∙ c.if-is_some.true)

pub loop-y-preserved : goal.loop-y-preserved
loop-y-preserved g c =
    (omega arith, part_more _ _ c.loop-y.y _ c.loop-y.invariant.1 c.search_row-found.ensures (sym c.is_some.ensures ∙ c.if-is_some.false))
