-- A product of variables, for omega's list. Assumes nothing.
use Prim.Native.Nat.{ℕ, ◌*◌, ◌≤◌, ◌<◌}
use native.Mathlib.Nat.{mul_comm, le-mul_of_pos_right}

-- a factor above 0 keeps a product at least as large
pub le-mul-left : (m n : ℕ) → 0 < m → n ≤ m * n
le-mul-left m n p = rw (mul_comm m n) (le-mul_of_pos_right n p)
