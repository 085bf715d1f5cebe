use Rattle.regions.proofs.Finds.{row_hit, row_more, find_start}
use native.Mathlib.Omega.{arith}
use mathlib.Core.Path.{sym, ◌∙◌}
use Rattle.regions.specs.Search.{fails}
use Rattle.regions.proofs.search_row.Goals as goal

pub loop-x-init : goal.loop-x-init
loop-x-init g c = (omega arith, find_start _ _)

pub returns-then-fails : goal.returns-then-fails
returns-then-fails g c =
    row_hit (fails g.C.EntryCheck.stored c.args.entries.now.table c.args.entries.now.file.now) c.args.from c.args.count c.loop-x.x (omega arith) c.loop-x.invariant.1 (sym c.fails.ensures ∙ c.if-fails.true)

pub loop-x-preserved : goal.loop-x-preserved
loop-x-preserved g c =
    (omega arith, row_more _ _ c.loop-x.x c.loop-x.invariant.1 (sym c.fails.ensures ∙ c.if-fails.false))
