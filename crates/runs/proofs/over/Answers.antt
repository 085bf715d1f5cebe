use Prim.Native.Nat.{ℕ, ◌/◌}
use mathlib.Core.Path.{ap}
use native.Mathlib.Omega.{arith}
use Rattle.checks.proofs.Described.{side-power}
use Rattle.runs.proofs.over.Goals as goal

pub overflow_shr-result : goal.overflow_shr-result
overflow_shr-result c = omega (arith, (side-power c.args.side c.requires).small)

pub returns : goal.returns
returns c = ap (λ (s : ℕ). c.args.x / s) (side-power c.args.side c.requires).exponent
