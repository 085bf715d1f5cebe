use mathlib.Core.Path.{refl, sym, ◌∙◌}
use Rattle.bricks.proofs.Views.{view_none, shows_file}
use Rattle.bricks.proofs.brick_view.Goals as goal

pub returns-in-Err : goal.returns-in-Err
returns-in-Err c =
    shows_file _ _ _ (view_none _ _ _ _ _ (sym c.brick_view_verdict.ensures ∙ c.in-Err.is)) refl refl refl
