use mathlib.Core.Path.{sym, ◌∙◌}
use native.Mathlib.Omega.{arith}
use Rattle.regions.specs.Search.{entries_in}
use Rattle.regions.proofs.Finds.{find_start, part_hit, part_more, part_none}
use Rattle.regions.proofs.search.Goals as goal

pub loop-z-init : goal.loop-z-init
loop-z-init g c = (omega arith, find_start _ _)

pub returns-then-is_some : goal.returns-then-is_some
unfolding entries_in
returns-then-is_some g c =
    part_hit _ _ c.args.b.vertical c.loop-z.z _ (omega arith) c.loop-z.invariant.1 c.search_layer-found.ensures (sym c.is_some.ensures ∙ c.if-is_some.true)

pub loop-z-preserved : goal.loop-z-preserved
loop-z-preserved g c =
    (omega arith, part_more _ _ c.loop-z.z _ c.loop-z.invariant.1 c.search_layer-found.ensures (sym c.is_some.ensures ∙ c.if-is_some.false))

pub returns : goal.returns
unfolding entries_in
returns g c =
    part_none _ _ c.args.b.vertical c.loop-z.z (omega arith) c.loop-z.invariant.1
