use Prim.Native.Nat.{◌*◌}
use Rattle.endian.specs.Bytes.{peek}
use Rattle.subtiles.specs.Runs.{source_run}
use Rattle.endian.proofs.Parts.{Turns}
use Rattle.subtiles.proofs.move_runs.Given as goal

abbrev pub invariant-loop-r : goal.invariant-loop-r
invariant-loop-r g l = Turns l.initial.out (λ t. peek l.brick (source_run g.W.Way.plain l.n1 t * l.run) l.run) l.runs l.run l.out (l.r * l.run) l.r
