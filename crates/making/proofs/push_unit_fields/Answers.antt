use Rattle.text.proofs.Pour.{writes_step}
use Rattle.making.specs.Making.{unit_fields}
use Rattle.making.proofs.push_unit_fields.Goals as goal

pub returns : goal.returns
unfolding unit_fields
returns c = writes_step (writes_step (writes_step c.push.ensures c.push_u64.ensures) c.push-2.ensures) c.push_u64-2.ensures
