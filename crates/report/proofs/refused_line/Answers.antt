use mathlib.Core.Path.{◌∙◌}
use Rattle.text.proofs.Pour.{writes_step}
use Rattle.report.proofs.refused_line.Goals as goal

pub returns : goal.returns
returns c =
    writes_step (rw (c.from.ensures ∙ c.number.ensures) at c.numbered.ensures) (rw (c.from-2.ensures ∙ c.entry.ensures) at c.number_line.ensures)
