use Rattle.text.proofs.Pour.{writes_step}
use Rattle.making.specs.Making.{brick_fields}
use Rattle.making.proofs.push_brick_fields.Goals as goal

pub returns : goal.returns
unfolding brick_fields
returns c = writes_step (writes_step (writes_step c.push_three.ensures c.push.ensures) c.push_u32.ensures) c.push_u32-2.ensures
