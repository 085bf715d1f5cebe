use mathlib.Core.List.{◌∷◌, []}
use Prim.Native.Nat.{◌*◌}
use Rattle.endian.specs.Loops.{cat}
use Rattle.endian.specs.Bytes.{le}
use Rattle.floats.specs.Rules.{scaled_of}
use Rattle.endian.proofs.Parts.{Filled}
use Rattle.decoding.proofs.decode_scaled.Given as goal

abbrev pub invariant-loop-n : goal.invariant-loop-n
invariant-loop-n g l = Filled l.initial.out (cat l.n (λ k. scaled_of g.row.HALF l.min l.max (le g.row.WIDTH l.bytes (k * g.row.WIDTH)) ∷ [])) l.out l.n
