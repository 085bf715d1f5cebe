use mathlib.Core.Bool.{and_assoc}
use lib.Ieee.{binary32, of_bits, lt}
use Rattle.floats.specs.Rules.{finite_bits, range_ok}
use Rattle.floats.proofs.range_ok.Goals as goal

pub returns : goal.returns
unfolding range_ok
returns c =
    rw (c.finite_bits.ensures, c.finite_bits-2.ensures, c.float_of.ensures, c.float_of-2.ensures)
    (and_assoc (finite_bits c.args.min) (finite_bits c.args.max) (lt (of_bits binary32 c.args.min) (of_bits binary32 c.args.max)))
