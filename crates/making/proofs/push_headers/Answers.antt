use Rattle.text.proofs.Pour.{writes_step}
use Rattle.making.specs.Plan.{headed}
use Rattle.making.proofs.push_headers.Goals as goal

pub returns : goal.returns
unfolding headed
returns c =
    writes_step (writes_step (writes_step c.push_file_header.ensures c.push_info_header.ensures) c.push_bytes.ensures) c.push_zeros.ensures
