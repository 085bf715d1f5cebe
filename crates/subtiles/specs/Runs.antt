-- Both orders keep the n2 items of a column (i, j) together. These are the numbers of such runs.
use Rattle.std.specs.Prelude.{Bool, cond, ◌≡◌, List, ℕ, ◌+◌, ◌*◌, ◌/◌, ◌%◌, ◌≤◌, ◌<◌}
use Rattle.geometry.specs.Limits.{side_room}
use Rattle.subtiles.specs.Answers.{plain_in, subtiled_in}

-- the number in the version 1 order of run r of the plain order: 64 runs a subtile, and n1 / 8 subtiles in a row of them
unfoldable pub tiled_run : ℕ → ℕ → ℕ
tiled_run n1 r = (r / n1 / 8 * (n1 / 8) + r % n1 / 8) * 64 + (r / n1 % 8 * 8 + r % n1 % 8)

-- the number in the plain order of run r of the version 1 order: r / 64 is its subtile, r % 64 its place there
unfoldable pub plain_run : ℕ → ℕ → ℕ
plain_run n1 r = (r / 64 / (n1 / 8) * 8 + r % 64 / 8) * n1 + (r / 64 % (n1 / 8) * 8 + r % 64 % 8)

-- where run r is taken from, on the way to plain order or back
abbrev pub source_run : Bool → ℕ → ℕ → ℕ
source_run plain n1 r = cond plain (tiled_run n1 r) (plain_run n1 r)

-- a brick moved to plain order or back
abbrev pub moved_in : Bool → List ℕ → ℕ → List ℕ → List ℕ
moved_in plain side w brick = cond plain (plain_in side w brick) (subtiled_in side w brick)

-- so many runs, of so many bytes, are the whole buffer, and each is taken from inside the brick
pub record Movable (plain : Bool) (n1 runs run from into : ℕ) : Type 0 where
  pub low : 8 ≤ n1
  pub high : n1 ≤ side_room
  pub few : runs ≤ side_room * side_room
  pub inside : (r : ℕ) → r < runs → source_run plain n1 r < runs
  pub whole : into ≡ runs * run
  pub enough : runs * run ≤ from
