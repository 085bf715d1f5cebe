use Rattle.std.proofs.Common.{sym, refl}
use lib.Ieee.{of_bits, div}
use Rattle.floats.specs.Rules.{widened_of}
use Rattle.std.proofs.lemmas.Float.{not_nan_f32_bits}
use Rattle.floats.proofs.Patterns.{nan_pattern}
use Rattle.floats.proofs.widen_bits.Goals as goal

pub returns-then-unsigned-gt-INFINITY : goal.returns-then-unsigned-gt-INFINITY
unfolding widened_of of_bits div
returns-then-unsigned-gt-INFINITY c = sym (nan_pattern c.args.bits (rw c.unsigned.ensures at c.if-unsigned-gt-INFINITY.true))

pub float_from_bits-result : goal.float_from_bits-result
float_from_bits-result c = not_nan_f32_bits c.args.bits (rw c.unsigned.ensures at c.if-unsigned-gt-INFINITY.false)

pub returns : goal.returns
unfolding widened_of
returns c = refl
