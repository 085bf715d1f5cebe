use native.Mathlib.Omega.{arith}
use Rattle.text.proofs.Pour.{writes_step}
use Rattle.making.specs.Making.{info_header}
use Rattle.making.proofs.Sizes.{text_few}
use Rattle.making.proofs.push_info_header.Goals as goal

pub overflow_cast-cube : goal.overflow_cast-cube
overflow_cast-cube c = record { fits = omega (arith, text_few _ _ c.args.cube.taken) }

pub returns : goal.returns
unfolding info_header
returns c =
    let grid = writes_step (writes_step c.push_brick_fields.ensures c.push_id_fields.ensures) c.push_grid_fields.ensures in
    let current = writes_step grid c.push_current_fields.ensures in
    let zeros = writes_step (writes_step current c.push_survey_fields.ensures) c.push_zeros.ensures in
    writes_step (writes_step zeros c.push_unit_fields.ensures) c.push_u32.ensures
