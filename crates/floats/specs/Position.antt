-- Position (FORMAT 11.6, 11.7): its formula, and how far it may be from the exact value.
use Rattle.std.specs.Prelude.{ℕ, ◌*◌, ◌/◌, ◌%◌, ◌^◌, ◌≤◌, Bool, false, cond, T, ℤ, pos, ◌+ℤ◌, ◌-ℤ◌, ◌*ℤ◌, neg_ℤ, ◌==◌, unsigned_abs, Float}
use Rattle.std.specs.Float.{nan, inf, fin, binary64}
use Rattle.std.specs.Float.Ieee.{up, down, add, mul, of_int}

-- the position of index i: one product, one sum, in 64-bit floats
unfoldable pub position_of : Float → Float → ℕ → Float
position_of orig inc i = add binary64 orig (mul binary64 (of_int binary64 (pos i)) inc)

abbrev pub signed : Bool → ℕ → ℤ
signed s n = cond s (neg_ℤ (pos n)) (pos n)

-- x is finite and a whole number of units of 2 ^ -149
unfoldable pub whole149 : Float → Bool
whole149 nan = false
whole149 (inf s) = false
whole149 (fin s m e) = m * up e * 2 ^ 149 % down e == 0

-- that whole number
unfoldable pub units149 : Float → ℤ
units149 nan = pos 0
units149 (inf s) = pos 0
units149 (fin s m e) = signed s (m * up e * 2 ^ 149 / down e)

-- orig + i x inc, exactly
abbrev pub exact_at : Float → Float → ℕ → ℤ
exact_at orig inc i = units149 orig +ℤ pos i *ℤ units149 inc

-- r differs from the exact value by at most one part in 2 ^ 53 of that value, so not at all where that is zero
pub record Near (orig inc : Float) (i : ℕ) (r : Float) : Type 0 where
  pub orig-whole : T (whole149 orig)
  pub inc-whole : T (whole149 inc)
  pub whole : T (whole149 r)
  pub close : 2 ^ 53 * unsigned_abs (units149 r -ℤ exact_at orig inc i) ≤ unsigned_abs (exact_at orig inc i)
