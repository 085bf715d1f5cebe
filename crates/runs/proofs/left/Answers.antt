use native.Mathlib.Omega.{arith}
use native.Mathlib.Nat.{mod-lt}
use Prim.Native.Nat.{◌+◌}
use Rattle.runs.proofs.Lattices.{side-pos}
use Rattle.runs.proofs.left.Goals as goal

pub overflow_sub-rest : goal.overflow_sub-rest
overflow_sub-rest c = omega (arith, mod-lt (c.args.start + c.args.at) (side-pos c.args.side c.requires.0), c.beyond.ensures)
