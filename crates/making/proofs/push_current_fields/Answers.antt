use Rattle.text.proofs.Pour.{writes_step}
use Rattle.making.specs.Making.{current_fields}
use Rattle.making.proofs.push_current_fields.Goals as goal

pub returns : goal.returns
unfolding current_fields
returns c = writes_step (writes_step c.push_zeros.ensures c.push_three.ensures) c.push_zeros-2.ensures
