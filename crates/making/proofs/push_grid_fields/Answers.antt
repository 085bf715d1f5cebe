use Rattle.text.proofs.Pour.{writes_step}
use Rattle.making.specs.Making.{grid_fields}
use Rattle.making.proofs.push_grid_fields.Goals as goal

pub returns : goal.returns
unfolding grid_fields
returns c = writes_step (writes_step c.push_three.ensures c.push_three-2.ensures) c.push_three-3.ensures
