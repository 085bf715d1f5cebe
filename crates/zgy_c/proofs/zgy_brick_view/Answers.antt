use mathlib.Core.Path.{◌∙◌}
use Rattle.table.proofs.Tables.{kind_is}
use Rattle.bricks.proofs.Entries.{seen_made, seen_in}
use Rattle.zgy_c.proofs.Views.{view_taken, view_seen}
use Rattle.zgy_c.proofs.zgy_brick_view.Goals as goal

pub of-entries-requires : goal.of-entries-requires
of-entries-requires c = seen_made _ _ _ (view_seen _ _ _ _ _ c.brick_view_verdict.ensures c.in-Ok.is).0

pub kind-requires : goal.kind-requires
kind-requires c = (seen_in _ _ _ (view_seen _ _ _ _ _ c.brick_view_verdict.ensures c.in-Ok.is).0 _ c.of-entries.ensures.table).1

pub returns-in-Ok : goal.returns-in-Ok
returns-in-Ok c =
    let named = rw c.of-entries.ensures.file at c.kind.ensures in
    c.part.ensures
    ∙ view_taken _ _ _ _ _ _ (view_seen _ _ _ _ _ c.brick_view_verdict.ensures c.in-Ok.is).1 c.of-entries.ensures.table (named ∙ kind_is _ _ c.of-entries.ensures.table _ _)
