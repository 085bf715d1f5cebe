use Rattle.std.proofs.Common.{pos, refl, le_trans, lit≤}
use lib.Ieee.{binary32, of_int}
use Rattle.floats.specs.Rules.{survey_size}
use Rattle.floats.proofs.Patterns.{mul_no_nan, int_finite}
use Rattle.floats.proofs.survey_size.Goals as goal

pub float_to_bits-result : goal.float_to_bits-result
float_to_bits-result c =
    mul_no_nan binary32 c.args.inc (of_int binary32 (pos c.args.size)) c.requires.0
    (int_finite binary32 c.args.size (le_trans c.requires.1 (lit≤ tt)))

pub returns : goal.returns
unfolding survey_size
returns c = refl
