use Rattle.text.proofs.Pour.{writes_step}
use Rattle.making.specs.Making.{file_header}
use Rattle.making.proofs.push_file_header.Goals as goal

pub returns : goal.returns
unfolding file_header
returns c = writes_step (writes_step c.push_bytes.ensures c.push_u32.ensures) c.push.ensures
