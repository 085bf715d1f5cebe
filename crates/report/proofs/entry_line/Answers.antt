use Rattle.text.proofs.Pour.{writes_step}
use Rattle.report.specs.Listing.{entry_line}
use Rattle.report.proofs.entry_line.Goals as goal

pub returns : goal.returns
unfolding entry_line
returns c = writes_step (writes_step c.numbered.ensures c.kind_text.ensures) c.push.ensures
