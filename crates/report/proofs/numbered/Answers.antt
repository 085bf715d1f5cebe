use Rattle.text.proofs.Pour.{writes_step}
use Rattle.report.proofs.numbered.Goals as goal

pub returns : goal.returns
returns c = writes_step c.push_bytes.ensures c.push_decimal.ensures
