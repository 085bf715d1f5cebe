-- The float rules (FORMAT 11), over the library's floats. `Float` is one type for 32 and 64 bits: widening keeps the value.
use Rattle.std.specs.Prelude.{ℕ, ◌-◌, ◌*◌, Bool, true, false, cond, not, ◌&&◌, ℤ, pos, ◌-ℤ◌, neg_ℤ, ◌==◌, from_bits, is_nan, nat_lt, to_bits, Float}
use Rattle.std.specs.Float.{nan, inf, fin, binary32, binary64}
use Rattle.std.specs.Float.Ieee.{add, sub, mul, div, of_int, fits, lt}

-- neither a NaN nor an infinity
unfoldable pub finite : Float → Bool
finite nan = false
finite (inf s) = false
finite (fin s m e) = true

-- the 32 bits of a field are those of a finite float
abbrev pub finite_bits : ℕ → Bool
finite_bits b = finite (from_bits binary32 b)

-- the 32-bit float x is no NaN and has the bits b
unfoldable pub same_bits : Float → ℕ → Bool
same_bits x b = fits binary32 x && (not (is_nan x) && to_bits binary32 x == b)

-- the coding range of an integer type, as bits: finite, and min below max
unfoldable pub range_ok : ℕ → ℕ → Bool
range_ok min max = finite_bits min && (finite_bits max && lt (from_bits binary32 min) (from_bits binary32 max))

-- max - min; times (s - lo); divided by (hi - lo); plus min: in 64-bit floats, in this order
abbrev pub convert : ℤ → ℤ → Float → Float → ℤ → Float
convert lo hi min max s =
    add binary64
    (div binary64 (mul binary64 (sub binary64 max min) (sub binary64 (of_int binary64 s) (of_int binary64 lo)))
    (sub binary64 (of_int binary64 hi) (of_int binary64 lo)))
    min

-- the signed number of an integer type, lowest -h and highest h - 1, that the unsigned number n < 2 h of its bytes stands for
abbrev pub signed_of : ℕ → ℕ → ℤ
signed_of h n = cond (nat_lt n h) (pos n) (pos n -ℤ pos (2 * h))

-- the storage value of an integer type as a float, unscaled
unfoldable pub integer_of : ℕ → ℕ → Float
integer_of h n = of_int binary64 (signed_of h n)

-- a sample of an integer type, scaled to the coding range
unfoldable pub scaled_of : ℕ → Float → Float → ℕ → Float
scaled_of h min max n = convert (neg_ℤ (pos h)) (pos (h - 1)) min max (signed_of h n)

-- a sample of the float type, from its 32 bits: widened exactly, a NaN as the one NaN
unfoldable pub widened_of : ℕ → Float
widened_of b = from_bits binary32 b

-- srvsize: inc x size by one 32-bit product, as its bits
unfoldable pub survey_size : Float → ℕ → ℕ
survey_size inc size = to_bits binary32 (mul binary32 inc (of_int binary32 (pos size)))
