use Rattle.text.proofs.Pour.{writes_step}
use Rattle.making.proofs.Pieces.{surveyed}
use Rattle.making.proofs.push_survey_fields.Goals as goal

pub returns : goal.returns
returns c =
    rw (← surveyed c.args.cube.d _ c.survey_sizes-sizes.ensures) (writes_step (writes_step c.push_three.ensures c.push_three-2.ensures) c.push.ensures)
