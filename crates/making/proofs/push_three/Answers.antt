use Rattle.text.proofs.Pour.{writes_step}
use Rattle.making.proofs.push_three.Goals as goal

pub returns : goal.returns
returns c = writes_step (writes_step c.push_u32.ensures c.push_u32-2.ensures) c.push_u32-3.ensures
