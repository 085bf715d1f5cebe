-- A buffer whose front was lent on. Assumes nothing.
use Prim.Native.Nat.{ℕ}
use mathlib.Core.Path.{◌≡◌, sym, ap₂}
use mathlib.Core.List.{List, ◌++◌}
use lib.ListN.{length, drop}
use Rattle.cube.specs.Regions.{over}

module _ {A : Type 0} where
  -- the front of a buffer came back as s, its tail stayed
  pub front_over : (s ys b : List A) (n : ℕ) → ys ≡ s → length s ≡ n → ys ++ drop n b ≡ over s b
  front_over s ys b n e l = ap₂ (λ (x : List A) (m : ℕ). x ++ drop m b) e (sym l)
