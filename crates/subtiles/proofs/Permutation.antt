-- The version 1 order is a permutation of a brick's places. Assumes nothing.
use mathlib.Core.Path.{◌≡◌, sym, ap, ◌∙◌}
use mathlib.Core.List.{[], ◌∷◌}
use Prim.Native.Nat.{ℕ, ◌+◌, ◌*◌, ◌/◌, ◌%◌, ◌<◌}
use native.Mathlib.Nat.{div-add-mod', mod-lt, div-lt_iff_lt-mul}
use native.Mathlib.Omega.{arith}
use lib.Arith.{digits_lt}
use Rattle.endian.proofs.Digits.{pair_inj}
use Rattle.subtiles.specs.Subtiles.{subtiled_of}
use Rattle.subtiles.specs.Runs.{plain_run}
use Rattle.subtiles.specs.Laws.{Allowed, Place, IsPermutation}
use Rattle.subtiles.proofs.Sides.{Sides, sides}
use Rattle.subtiles.proofs.Numbers.{tile_of, row_of, column_of, tiled_at, tile_lt, row_lt, column_lt, tiled_plain, plain_tiled}
use Rattle.subtiles.proofs.Orders.{subtiled_run}

module _ (n0 n1 n2 w : ℕ) (allowed : Allowed n0 n1 n2 w) where
  s : Sides n0 n1 n2 w
  s = sides (n0 ∷ n1 ∷ n2 ∷ []) w allowed

  below : (i j k : ℕ) → Place n0 n1 n2 i j k → subtiled_of n1 n2 i j k < n0 * n1 * n2
  below i j k p =
      rw (subtiled_run n1 n2 i j k s.crossline)
      (digits_lt (tile_lt n0 n1 s.inline s.crossline i j p.inline p.crossline) p.vertical)

  -- a column's run in the plain order is known from the one in the version 1 order
  column : (i j : ℕ) → j < n1 → plain_run n1 (tile_of n1 i j) ≡ i * n1 + j
  column i j h = rw (← tiled_at n1 i j h) (plain_tiled n0 n1 s.inline s.crossline (i * n1 + j))

  same : (i j k i' j' k' : ℕ) → Place n0 n1 n2 i j k → Place n0 n1 n2 i' j' k' → subtiled_of n1 n2 i j k ≡ subtiled_of n1 n2 i' j' k'
      → (i ≡ i') × (j ≡ j') × (k ≡ k')
  same i j k i' j' k' p p' e =
      let run = pair_inj n2 (tile_of n1 i j) k (tile_of n1 i' j') k' p.vertical p'.vertical (sym (subtiled_run n1 n2 i j k s.crossline) ∙ e ∙ subtiled_run n1 n2 i' j' k' s.crossline) in
      let place = pair_inj n1 i j i' j' p.crossline p'.crossline (sym (column i j p.crossline) ∙ ap (plain_run n1) run.0 ∙ column i' j' p'.crossline) in
      (place.0, place.1, run.1)

  -- the row and the column of a run of the version 1 order have this run
  row_column : (r : ℕ) → tile_of n1 (row_of n1 r) (column_of n1 r) ≡ r
  unfolding plain_run
  row_column r = sym (tiled_at n1 (row_of n1 r) (column_of n1 r) (column_lt n0 n1 s.inline s.crossline r)) ∙ tiled_plain n0 n1 s.inline s.crossline r

  every : (m : ℕ) → m < n0 * n1 * n2 → (i : ℕ) × (j : ℕ) × (k : ℕ) × Place n0 n1 n2 i j k × (subtiled_of n1 n2 i j k ≡ m)
  every m h =
      let deep : 0 < n2 = omega (arith, s.deep) in
      let place : Place n0 n1 n2 (row_of n1 (m / n2)) (column_of n1 (m / n2)) (m % n2) = record {
        inline = row_lt n0 n1 s.inline s.crossline (m / n2) ((div-lt_iff_lt-mul deep).1 h);
        crossline = column_lt n0 n1 s.inline s.crossline (m / n2);
        vertical = mod-lt m deep;
      } in
      let number : subtiled_of n1 n2 (row_of n1 (m / n2)) (column_of n1 (m / n2)) (m % n2) ≡ m =
      subtiled_run n1 n2 (row_of n1 (m / n2)) (column_of n1 (m / n2)) (m % n2) s.crossline ∙ ap (λ (r : ℕ). r * n2 + m % n2) (row_column (m / n2)) ∙ div-add-mod' m n2 in
      (row_of n1 (m / n2), column_of n1 (m / n2), m % n2, place, number)

pub is_permutation : IsPermutation
is_permutation = record {
  below = λ n0 n1 n2 w i j k a. below n0 n1 n2 w a i j k;
  same = λ n0 n1 n2 w i j k i' j' k' a. same n0 n1 n2 w a i j k i' j' k';
  every = λ n0 n1 n2 w m a. every n0 n1 n2 w a m;
}
