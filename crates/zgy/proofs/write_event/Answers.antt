use mathlib.Core.Path.{sym}
use Rattle.cube.proofs.Calls.{write-buffers}
use Rattle.zgy.proofs.write_event.Goals as goal

pub returns : goal.returns
returns c =
    record { answer-is = c.write.ensures.answer; cube-is = c.write.ensures.cube; buffers_are = sym (write-buffers _ _ _ _) }
