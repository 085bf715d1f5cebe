use Rattle.text.proofs.Pour.{writes_step}
use Rattle.report.specs.Listing.{header_lines}
use Rattle.report.proofs.header_lines.Goals as goal

pub returns : goal.returns
unfolding header_lines
returns c =
    let two = writes_step (rw c.from.ensures at c.number_line.ensures) (rw c.from-2.ensures at c.number_line-2.ensures) in
    let four = writes_step (writes_step two c.three_line.ensures) c.three_line-2.ensures in
    let levels = rw c.from-3.ensures at c.number_line-3.ensures in
    let bricks = rw c.from-4.ensures at c.number_line-4.ensures in
    writes_step (writes_step (writes_step four levels) bricks) c.number_line-5.ensures
