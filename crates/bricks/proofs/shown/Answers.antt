use mathlib.Core.Path.{refl, sym, ◌∙◌}
use native.Mathlib.Omega.{arith}
use Rattle.table.proofs.Tables.{brick-is}
use Rattle.bricks.proofs.Entries.{seen, seen_made, seen_in, made_kind, made_end}
use Rattle.bricks.proofs.Views.{view_parts, filler_shown, view_kind, shows_file, shows_filler}
use Rattle.bricks.proofs.shown.Goals as goal

pub of-entries-requires : goal.of-entries-requires
of-entries-requires c = seen_made _ _ _ (seen _ _ _ (view_parts _ _ _ _ c.requires).0)

pub kind-requires : goal.kind-requires
kind-requires c = (seen_in _ _ _ (seen _ _ _ (view_parts _ _ _ _ c.requires).0) _ c.of-entries.ensures.table).1

pub slice_bounds-result-end : goal.slice_bounds-result-end
slice_bounds-result-end c =
    let named = made_kind _ _ _ c.of-entries.ensures.table c.of-entries.ensures.file c.kind.ensures in
    let l = (filler_shown _ _ _ _ _ c.requires (sym named) c.in-Missing.is).0 in
    omega (arith, brick-is _ _ c.of-entries.ensures.table)

pub overflow_add-end : goal.overflow_add-end
overflow_add-end c =
    let inside = made_end _ _ _ c.of-entries.ensures.table c.of-entries.ensures.file c.kind.ensures (seen _ _ _ (view_parts _ _ _ _ c.requires).0) c.in-Stored.is in
    omega (arith, inside, c.well_formed)

pub slice_bounds-result-end-in-Stored : goal.slice_bounds-result-end-in-Stored
slice_bounds-result-end-in-Stored c =
    made_end _ _ _ c.of-entries.ensures.table c.of-entries.ensures.file c.kind.ensures (seen _ _ _ (view_parts _ _ _ _ c.requires).0) c.in-Stored.is

pub returns-in-Missing : goal.returns-in-Missing
returns-in-Missing c =
    let named = made_kind _ _ _ c.of-entries.ensures.table c.of-entries.ensures.file c.kind.ensures in
    shows_filler _ _ (filler_shown _ _ _ _ _ c.requires (sym named) c.in-Missing.is).1 (brick-is _ _ c.of-entries.ensures.table) refl refl

pub returns-in-Stored : goal.returns-in-Stored
returns-in-Stored c =
    let named = made_kind _ _ _ c.of-entries.ensures.table c.of-entries.ensures.file c.kind.ensures in
    shows_file _ _ _ (view_kind _ _ _ _ _ c.requires (sym named ∙ c.in-Stored.is)) (brick-is _ _ c.of-entries.ensures.table) refl refl
