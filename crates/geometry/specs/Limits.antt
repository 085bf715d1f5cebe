-- The limits that decide acceptance (FORMAT 9.1), and what the arithmetic has room for. Each number stands here once: checks, counts and proofs cite it.
use Rattle.std.specs.Prelude.{Bool, ◌||◌, ◌≡◌, refl, ℕ, zero, suc, ◌+◌, ◌-◌, ◌*◌, ◌/◌, ◌^◌, ◌≤◌, eqb}

-- where the text starts: after the file header and InfoHeader
abbrev pub text_start : ℕ
text_start = 346

-- a side is a power of two with an exponent from the least to the greatest
abbrev pub least_exponent : ℕ
least_exponent = 2

abbrev pub greatest_exponent : ℕ
greatest_exponent = 6

-- n is 2^a, or one of the next k powers of two
abbrev pub power_from : ℕ → ℕ → ℕ → Bool
power_from a zero n = eqb n (2 ^ a)
power_from a (suc k) n = eqb n (2 ^ a) || power_from (a + 1) k n

-- n is 2^e for an e from a to the greatest exponent
abbrev pub power_in : ℕ → ℕ → Bool
power_in a n = power_from a (greatest_exponent - a) n

-- the exponent that makes it so
pub record IsPower (a n : ℕ) : Type 0 where
  pub exponent : ℕ
  pub least : a ≤ exponent
  pub greatest : exponent ≤ greatest_exponent
  pub power : n ≡ 2 ^ exponent

-- the largest size
abbrev pub size_limit : ℕ
size_limit = 1048576

-- the levels that are searched for the last one: at level 20 one sample is left of the largest size
abbrev pub level_cap : ℕ
level_cap = 20

one-sample : 2 ^ level_cap ≡ size_limit
one-sample = refl

-- the most bricks of all levels
abbrev pub brick_limit : ℕ
brick_limit = 16384

-- the shortest text and the longest
abbrev pub shortest_text : ℕ
shortest_text = 5

abbrev pub longest_text : ℕ
longest_text = 65536

-- ---- room: what keeps sums and products from wrapping. The limits may grow up to it

-- the bricks of a direction: the largest size by the least side
abbrev pub count_room : ℕ
count_room = size_limit / 2 ^ least_exponent

-- the exponent of a side, a side, the bytes of a brick with items of 4, and the bricks or alpha tiles of all levels
abbrev pub exponent_room : ℕ
exponent_room = 8

abbrev pub side_room : ℕ
side_room = 2 ^ exponent_room

abbrev pub bytes_room : ℕ
bytes_room = side_room * side_room * side_room * 4

abbrev pub brick_room : ℕ
brick_room = 1048576
