use Rattle.text.proofs.Pour.{writes_step}
use Rattle.making.specs.Making.{id_fields}
use Rattle.making.proofs.push_id_fields.Goals as goal

pub returns : goal.returns
unfolding id_fields
returns c = writes_step (writes_step (writes_step c.push_id.ensures c.push_id-2.ensures) c.push_id-3.ensures) c.push.ensures
