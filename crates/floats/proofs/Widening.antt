-- The widening of a 32-bit float, in bits. Assumes nothing.
use Rattle.std.proofs.Common.{◌≡◌, refl, ap, ◌∙◌}
use lib.Ieee.{nan, binary32, binary64, of_bits, to_bits}
use lib.Ieee.Fits.{fits_widens}
use lib.Ieee.Bits.{of_bits-to_bits, of_bits-fits, to_bits-of_bits}
use Rattle.floats.specs.Rules.{widened_of}
use Rattle.floats.specs.Widening.{nan64, WideningRule}
use Rattle.floats.proofs.Patterns.{nan_pattern, no_nan_value}

nan_bits_lem : to_bits binary64 nan ≡ nan64
unfolding to_bits
nan_bits_lem = refl

pub widening : WideningRule
unfolding widened_of of_bits to_bits
widening = record {
  nans = λ b h. ap (to_bits binary64) (nan_pattern b h) ∙ nan_bits_lem;
  infinite = refl;
  minus_infinite = refl;
  exact = λ b l h. (
    of_bits-to_bits binary64 (of_bits binary32 b) (fits_widens (of_bits binary32 b) (of_bits-fits binary32 b)),
    to_bits-of_bits binary32 b l (no_nan_value b h),
  );
}
