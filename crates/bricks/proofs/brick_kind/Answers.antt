use mathlib.Core.Path.{sym, ◌∙◌}
use Rattle.std.proofs.lemmas.Result.{err_from_is_err_and}
use Rattle.record.proofs.Laws.{answered_ok, answered_err}
use Rattle.bricks.specs.Bricks.{kind_answer}
use Rattle.bricks.proofs.Entries.{narrow_in}
use Rattle.bricks.proofs.brick_kind.Goals as goal

pub brick_of-requires : goal.brick_of-requires
brick_of-requires c =
    let known = answered_ok _ _ (sym c.kind_of_entry.ensures ∙ c.in_ok-kind.was) in
    λ v e. narrow_in _ _ _ v (known.1 ∙ e)

pub returns-in_err-kind : goal.returns-in_err-kind
unfolding kind_answer
returns-in_err-kind c =
    let p = err_from_is_err_and c.from_residual.result c.from_residual.ensures.1 in
    rw (p.1, p.2, answered_err _ _ (sym c.kind_of_entry.ensures ∙ c.in_err-kind.was))

pub returns : goal.returns
unfolding kind_answer
returns c =
    let known = answered_ok _ _ (sym c.kind_of_entry.ensures ∙ c.in_ok-kind.was) in
    rw (known.0, c.brick_of.ensures, known.1)
