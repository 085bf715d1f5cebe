use mathlib.Core.Path.{sym, ◌∙◌}
use Rattle.checks.proofs.Described.{sized}
use Rattle.checks.proofs.check_description.Goals as goal

pub check8-requires : goal.check8-requires
check8-requires c = sized _ (sym c.check4.ensures ∙ c.if-check4.false) (sym c.check6.ensures ∙ c.if-check6.false)
