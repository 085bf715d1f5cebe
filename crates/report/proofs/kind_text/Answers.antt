use Rattle.text.proofs.Pour.{writes_step}
use Rattle.report.specs.Listing.{kind_text}
use Rattle.report.proofs.kind_text.Goals as goal

pub returns-in-Missing : goal.returns-in-Missing
unfolding kind_text
returns-in-Missing c = rw c.in-Missing.is c.push_bytes.ensures

pub returns-in-Constant : goal.returns-in-Constant
unfolding kind_text
returns-in-Constant c = rw c.in-Constant.is (writes_step c.push_bytes-in-Constant.ensures c.constant_text.ensures)

pub returns-in-Stored : goal.returns-in-Stored
unfolding kind_text
returns-in-Stored c = rw c.in-Stored.is c.numbered.ensures
