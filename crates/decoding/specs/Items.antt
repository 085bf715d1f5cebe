-- Items of an integer type.
use Rattle.std.specs.Prelude.{◌≡◌, ℕ, ◌*◌, ◌^◌, ◌<◌, ◌≤◌}
use Rattle.table.specs.Entries.{Width}

-- a type of signed integers: w bytes, from -h to h - 1
pub record Integers (w h : ℕ) : Type 0 where
  pub wide : Width w
  pub some : 0 < h
  pub few : h ≤ 32768
  pub all : 2 * h ≡ 256 ^ w
