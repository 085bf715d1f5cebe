use Rattle.text.proofs.Pour.{writes_step}
use Rattle.report.proofs.three_line.Goals as goal

pub returns : goal.returns
returns c =
    writes_step (writes_step (rw c.from.ensures at c.numbered.ensures) (rw c.from-2.ensures at c.numbered-2.ensures))
    (rw c.from-3.ensures at c.number_line.ensures)
