use mathlib.Core.Path.{sym, ◌∙◌}
use Rattle.std.proofs.lemmas.Result.{err_from_is_err_and}
use Rattle.table.proofs.Tables.{kind_is}
use Rattle.bricks.proofs.Entries.{seen, seen_made, seen_in}
use Rattle.bricks.proofs.kind_of_entry.Goals as goal

pub of-requires : goal.of-requires
of-requires c = seen_made _ _ _ (seen _ _ _ (sym c.check_entry.ensures ∙ c.in_ok-check_entry.was))

pub kind-requires : goal.kind-requires
kind-requires c = (seen_in _ _ _ (seen _ _ _ (sym c.check_entry.ensures ∙ c.in_ok-check_entry.was)) _ c.of.ensures.table).1

pub returns-in_err-check_entry : goal.returns-in_err-check_entry
returns-in_err-check_entry c =
    let p = err_from_is_err_and c.from_residual.result c.from_residual.ensures.1 in
    rw (p.1, p.2, sym c.check_entry.ensures ∙ c.in_err-check_entry.was)

pub returns : goal.returns
returns c =
    let named = rw c.of.ensures.file at c.kind.ensures in
    rw (sym c.check_entry.ensures ∙ c.in_ok-check_entry.was, named ∙ kind_is _ _ c.of.ensures.table _ _)
