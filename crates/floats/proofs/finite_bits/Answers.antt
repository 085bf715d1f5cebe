use Rattle.floats.proofs.Patterns.{finite_pattern}
use Rattle.floats.proofs.finite_bits.Goals as goal

pub returns : goal.returns
returns c = rw c.unsigned.ensures (finite_pattern c.args.bits)
