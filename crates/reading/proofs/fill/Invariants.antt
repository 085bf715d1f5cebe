use Prim.Native.Nat.{◌*◌}
use Rattle.endian.specs.Bytes.{lows}
use Rattle.endian.proofs.Parts.{Turns}
use Rattle.reading.proofs.fill.Given as goal

abbrev pub invariant-loop-t : goal.invariant-loop-t
invariant-loop-t g l = Turns l.initial.out (λ _. lows g.row.W l.value) l.n g.row.W l.out (l.t * g.row.W) l.t
