use lib.ListN.{take}
use Rattle.endian.proofs.Parts.{Filled}
use Rattle.endian.proofs.copy_bytes.Given as goal

abbrev pub invariant-loop-t : goal.invariant-loop-t
invariant-loop-t l = Filled l.initial.out (take l.t l.src) l.out l.t
