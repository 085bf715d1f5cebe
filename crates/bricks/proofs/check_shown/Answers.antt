use mathlib.Core.Path.{sym, ap, ◌∙◌}
use Rattle.table.specs.declared.Kind.{Kind}
use Rattle.cube.proofs.Rows.{missing_narrow}
use Rattle.bricks.specs.Bricks.{shown_verdict}
use Rattle.bricks.proofs.Views.{as_missing}
use Rattle.bricks.proofs.check_shown.Goals as goal

pub check_filler-requires : goal.check_filler-requires
check_filler-requires c =
    (c.requires.0, rw c.missing_brick.ensures (missing_narrow c.args.r))

pub returns-in-Missing : goal.returns-in-Missing
returns-in-Missing c =
    c.check_filler.ensures ∙ as_missing _ _ _ c.missing_brick.ensures ∙ ap (λ (k : Kind). shown_verdict c.args.r k c.args.filler.now) (sym c.in-Missing.is)
