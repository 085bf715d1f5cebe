use Rattle.std.proofs.Common.{sym}
use lib.Ieee.{of_bits, div}
use Rattle.std.proofs.lemmas.Float.{not_nan_f32_bits}
use Rattle.floats.proofs.Patterns.{nan_pattern}
use Rattle.floats.proofs.float_of.Goals as goal

pub returns-then-unsigned-gt-INFINITY : goal.returns-then-unsigned-gt-INFINITY
unfolding of_bits div
returns-then-unsigned-gt-INFINITY c = sym (nan_pattern c.args.bits (rw c.unsigned.ensures at c.if-unsigned-gt-INFINITY.true))

pub float_from_bits-result : goal.float_from_bits-result
float_from_bits-result c = not_nan_f32_bits c.args.bits (rw c.unsigned.ensures at c.if-unsigned-gt-INFINITY.false)
