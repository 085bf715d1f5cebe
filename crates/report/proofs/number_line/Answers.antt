use Rattle.text.proofs.Pour.{writes_step}
use Rattle.report.proofs.number_line.Goals as goal

pub returns : goal.returns
returns c = writes_step c.numbered.ensures c.push.ensures
