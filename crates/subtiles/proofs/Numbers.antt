-- The run numbers of the two orders undo each other, below the number of runs. Assumes nothing.
use mathlib.Core.Path.{◌≡◌, ◌∙◌}
use Prim.Native.Nat.{ℕ, ◌+◌, ◌*◌, ◌/◌, ◌%◌, ◌<◌}
use native.Mathlib.Nat.{div-add-mod', mod-lt, div-lt_iff_lt-mul}
use native.Mathlib.Omega.{arith}
use lib.Arith.{digits_lt, digits_div, digits_mod}
use Rattle.subtiles.specs.Runs.{tiled_run, plain_run}
use Rattle.subtiles.proofs.Sides.{Tiled}

-- the run of column (i, j) in the version 1 order
abbrev pub tile_of : ℕ → ℕ → ℕ → ℕ
tile_of n1 i j = (i / 8 * (n1 / 8) + j / 8) * 64 + (i % 8 * 8 + j % 8)

pub tiled_at : (n1 i j : ℕ) → j < n1 → tiled_run n1 (i * n1 + j) ≡ tile_of n1 i j
unfolding tiled_run
tiled_at n1 i j l = rw (digits_div i l, digits_mod i l)

-- the row and the column of run r of the version 1 order
abbrev pub row_of : ℕ → ℕ → ℕ
row_of n1 r = r / 64 / (n1 / 8) * 8 + r % 64 / 8

abbrev pub column_of : ℕ → ℕ → ℕ
column_of n1 r = r / 64 % (n1 / 8) * 8 + r % 64 % 8

-- row a of the subtiles in row x, column b of those in column y
tile_split : (n1 x a y b : ℕ) → a < 8 → b < 8 → tile_of n1 (x * 8 + a) (y * 8 + b) ≡ (x * (n1 / 8) + y) * 64 + (a * 8 + b)
tile_split n1 x a y b ha hb = rw (digits_div x ha, digits_div y hb, digits_mod x ha, digits_mod y hb)

plain-split : (n1 x a y b : ℕ) → y < n1 / 8 → a < 8 → b < 8 → plain_run n1 ((x * (n1 / 8) + y) * 64 + (a * 8 + b)) ≡ (x * 8 + a) * n1 + (y * 8 + b)
unfolding plain_run
plain-split n1 x a y b hy ha hb =
    let h : a * 8 + b < 64 = omega arith in
    rw (digits_div (x * (n1 / 8) + y) h, digits_mod (x * (n1 / 8) + y) h, digits_div x hy, digits_mod x hy, digits_div a hb, digits_mod a hb)

-- the runs of a brick, subtile by subtile
pub runs_tiled : (n0 n1 : ℕ) → Tiled n0 → Tiled n1 → n0 / 8 * (n1 / 8) * 64 ≡ n0 * n1
runs_tiled n0 n1 t0 t1 = rw (t0.eights, t1.eights) at (eights (n0 / 8) (n1 / 8))
  where
    eights : (p m : ℕ) → p * m * 64 ≡ p * 8 * (m * 8)
    eights p m = omega arith

-- a row or a column, by its subtile and its place there
below-side : {n x a : ℕ} → Tiled n → x < n / 8 → a < 8 → x * 8 + a < n
below-side t h l = rw t.eights at (digits_lt h l)

in_subtile : {n i : ℕ} → Tiled n → i < n → i / 8 < n / 8
in_subtile {n} {i} t h = omega (arith, t.eights)

module _ (n0 n1 : ℕ) (t0 : Tiled n0) (t1 : Tiled n1) where
  pub tile_lt : (i j : ℕ) → i < n0 → j < n1 → tile_of n1 i j < n0 * n1
  tile_lt i j a b =
      let inside : i % 8 * 8 + j % 8 < 64 = omega arith in
      rw (runs_tiled n0 n1 t0 t1) at (digits_lt (digits_lt (in_subtile t0 a) (in_subtile t1 b)) inside)

  pub tiled_lt : (r : ℕ) → r < n0 * n1 → tiled_run n1 r < n0 * n1
  unfolding tiled_run
  tiled_lt r l = tile_lt (r / n1) (r % n1) ((div-lt_iff_lt-mul (omega arith)).1 l) (mod-lt r (omega arith))

  pub row_lt : (r : ℕ) → r < n0 * n1 → row_of n1 r < n0
  row_lt r l =
      let tile : r / 64 < n0 / 8 * (n1 / 8) = omega (arith, runs_tiled n0 n1 t0 t1) in
      below-side t0 ((div-lt_iff_lt-mul (omega arith)).1 tile) (omega arith)

  pub column_lt : (r : ℕ) → column_of n1 r < n1
  column_lt r = below-side t1 (mod-lt (r / 64) (omega arith)) (omega arith)

  pub plain-lt : (r : ℕ) → r < n0 * n1 → plain_run n1 r < n0 * n1
  unfolding plain_run
  plain-lt r l = digits_lt (row_lt r l) (column_lt r)

  pub tiled_plain : (r : ℕ) → tiled_run n1 (plain_run n1 r) ≡ r
  unfolding plain_run
  tiled_plain r =
      tiled_at n1 _ _ (column_lt r)
      ∙ tile_split n1 (r / 64 / (n1 / 8)) (r % 64 / 8) (r / 64 % (n1 / 8)) (r % 64 % 8) (omega arith) (omega arith)
      ∙ rw (div-add-mod' (r / 64) (n1 / 8), div-add-mod' (r % 64) 8, div-add-mod' r 64)

  pub plain_tiled : (r : ℕ) → plain_run n1 (tiled_run n1 r) ≡ r
  unfolding tiled_run
  plain_tiled r =
      plain-split n1 (r / n1 / 8) (r / n1 % 8) (r % n1 / 8) (r % n1 % 8) (in_subtile t1 (mod-lt r (omega arith))) (omega arith) (omega arith)
      ∙ rw (div-add-mod' (r / n1) 8, div-add-mod' (r % n1) 8, div-add-mod' r n1)
