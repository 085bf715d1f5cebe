use mathlib.Core.Path.{sym, ap, ◌∙◌}
use Rattle.std.proofs.lemmas.Result.{err_from_is_err_and}
use Rattle.record.proofs.Laws.{answered_ok, answered_err}
use Rattle.table.specs.declared.Kind.{Kind}
use Rattle.bricks.specs.Bricks.{shown_verdict}
use Rattle.bricks.proofs.Entries.{narrow_in, seen, seen_derived}
use Rattle.bricks.proofs.Views.{view_refused, view_taken}
use Rattle.bricks.proofs.brick_view_verdict.Goals as goal

pub check_shown-requires : goal.check_shown-requires
check_shown-requires c =
    let known = answered_ok _ _ (sym c.kind_of_entry.ensures ∙ c.in_ok-kind.was) in
    (seen_derived _ _ _ (seen _ _ _ known.0), λ v e. narrow_in _ _ _ v (known.1 ∙ e))

pub returns-in_err-kind : goal.returns-in_err-kind
returns-in_err-kind c =
    let p = err_from_is_err_and c.from_residual.result c.from_residual.ensures.1 in
    rw (p.1, p.2) (sym (view_refused _ _ _ _ _ (answered_err _ _ (sym c.kind_of_entry.ensures ∙ c.in_err-kind.was))))

pub returns : goal.returns
returns c =
    let known = answered_ok _ _ (sym c.kind_of_entry.ensures ∙ c.in_ok-kind.was) in
    c.check_shown.ensures ∙ ap (λ (k : Kind). shown_verdict c.args.r k c.args.filler.now) (sym known.1) ∙ sym (view_taken _ _ _ _ known.0)
