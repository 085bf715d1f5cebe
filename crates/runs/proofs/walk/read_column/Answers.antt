use mathlib.Core.Path.{◌≡◌, ◌∙◌}
use native.Mathlib.Omega.{arith}
use Rattle.runs.proofs.Boxes.{boxed_more0}
use Rattle.runs.proofs.Rows.{along_part}
use Rattle.runs.proofs.walk.read_column.Goals as goal

pub read_boxes-requires : goal.read_boxes-requires
read_boxes-requires g c =
    record {
      fits = c.requires.fits;
      room = c.loop-t.invariant.0.size ∙ c.requires.room;
      through = (along_part _ _ 0 _ c.args.i.n _ _ c.requires.through.0 (omega (arith, c.min.ensures, c.at_once-step.ensures, c.loop-t-test.true)) (omega (arith, c.min.ensures, c.loop-t-test.true)), c.requires.through.1);
    }

pub loop-t-preserved : goal.loop-t-preserved
loop-t-preserved g c =
    let whole-step : c.min.result ≡ c.at_once-step.result = omega (arith, c.min.ensures, c) in
    (boxed_more0 c.loop-t.invariant.0 (rw whole-step at c.read_boxes.ensures), omega (arith, c))
