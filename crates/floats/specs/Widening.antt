-- What the widening of a 32-bit float owes, in bits (FORMAT 11.2).
use Rattle.std.specs.Prelude.{◌≡◌, ℕ, ◌+◌, ◌%◌, ◌^◌, ◌<◌, ◌≤◌, from_bits, to_bits}
use Rattle.std.specs.Float.{binary32, binary64}
use Rattle.floats.specs.Rules.{widened_of}

-- infinity's bits: 0x7F800000, and 0x7FF0000000000000 in 64 bits. Without its sign, a NaN's bits are above them
abbrev pub infinity32 : ℕ
infinity32 = 2139095040

abbrev pub infinity64 : ℕ
infinity64 = 9218868437227405312

-- the one pattern of a NaN: 0x7FF8000000000000
abbrev pub nan64 : ℕ
nan64 = 9221120237041090560

pub record WideningRule : Type 0 where
  -- a NaN, of either sign and with any payload, becomes the one pattern
  pub nans : (b : ℕ) → infinity32 < b % 2 ^ 31 → to_bits binary64 (widened_of b) ≡ nan64
  -- infinity stays infinite, and so does minus infinity
  pub infinite : to_bits binary64 (widened_of infinity32) ≡ infinity64
  pub minus_infinite : to_bits binary64 (widened_of (2 ^ 31 + infinity32)) ≡ 2 ^ 63 + infinity64
  -- all else is widened exactly: the 64 bits have the value of the 32 bits, and that value has these 32 bits
  pub exact : (b : ℕ) → b < 2 ^ 32 → b % 2 ^ 31 ≤ infinity32
      → (from_bits binary64 (to_bits binary64 (widened_of b)) ≡ from_bits binary32 b) × (to_bits binary32 (widened_of b) ≡ b)
