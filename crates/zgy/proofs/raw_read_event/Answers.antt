use mathlib.Core.Path.{sym}
use Rattle.cube.proofs.Calls.{raw-cube}
use Rattle.zgy.proofs.raw_read_event.Goals as goal

pub returns : goal.returns
returns c =
    record { answer-is = c.read_raw.ensures.answer; cube-is = sym (raw-cube _ _ _ _); buffers_are = c.read_raw.ensures.buffer }
