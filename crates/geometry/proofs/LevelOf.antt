-- A level below the last of a cube, and the entries before it: what `Volume::level` cites. Assumes nothing.
use Prim.Native.Nat.{ℕ, ◌+◌, ◌≤◌, ◌<◌}
use mathlib.Core.List.{List}
use mathlib.Core.Path.{◌≡◌, sym, ◌∙◌}
use native.Mathlib.Omega.{arith}
use Rattle.endian.specs.Loops.{sum_to}
use Rattle.geometry.specs.Limits.{level_cap}
use Rattle.geometry.specs.Geometry.{count_in, bricks_in, shape_in, level_at}
use Rattle.geometry.proofs.Levels.{levels-le}
use Rattle.geometry.proofs.Entries.{base_rest}

module _ (size side : List ℕ) (l : ℕ) (h : l < (shape_in size side).levels) where
  pub level-few : l ≤ level_cap
  level-few = omega (arith, h, levels-le (count_in size side 0) (count_in size side 1) (count_in size side 2))

  -- the entries before the level and those up to it are all
  pub base-all : {total : ℕ} → total ≡ (shape_in size side).bricks
      → (level_at size side l).base + sum_to (bricks_in size side) (l + 1) ≡ total
  base-all e = base_rest _ _ _ l h ∙ sym e
