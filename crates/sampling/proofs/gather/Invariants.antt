use Prim.Native.Nat.{◌+◌, ◌*◌}
use Rattle.endian.specs.Bytes.{peek}
use Rattle.endian.proofs.Parts.{Turns}
use Rattle.sampling.proofs.gather.Given as goal

abbrev pub invariant-loop-t : goal.invariant-loop-t
invariant-loop-t g l = Turns l.initial.out (λ s. peek l.file (l.from + s * l.step) g.row.W) l.n g.row.W l.out (l.t * g.row.W) l.t
