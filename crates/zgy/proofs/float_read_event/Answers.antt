use mathlib.Core.Path.{sym}
use Rattle.cube.proofs.Calls.{float_cube}
use Rattle.zgy.proofs.float_read_event.Goals as goal

pub returns : goal.returns
returns c =
    record { answer-is = c.read_float.ensures.answer; cube-is = sym (float_cube _ _ _ _); buffers_are = c.read_float.ensures.buffer }
