-- Both orders as runs laid end to end, and that a move there and back gives the brick again. Assumes nothing.
use mathlib.Core.Bool.{Bool, true, false, cond}
use mathlib.Core.Path.{◌≡◌, sym, ap, ◌∙◌}
use mathlib.Core.List.{List, [], ◌∷◌, ◌++◌}
use Prim.Native.Nat.{ℕ, ◌+◌, ◌-◌, ◌*◌, ◌/◌, ◌%◌, ◌≤◌, ◌<◌}
use native.Mathlib.Nat.{mul-le-mul, add-mul, mul_assoc, zero-add, mul_comm, add-sub_cancel_left}
use native.Mathlib.Omega.{arith}
use lib.ListN.{length, take, drop, length-drop}
use lib.Seq.{take_all, length-take-le}
use Rattle.endian.specs.Loops.{cat}
use Rattle.endian.specs.Bytes.{peek}
use Rattle.endian.proofs.Digits.{next_item}
use Rattle.geometry.specs.Geometry.{item_of, brick_bytes}
use Rattle.subtiles.specs.Subtiles.{subtiled_of, item_at, plain_from, subtiled_from}
use Rattle.subtiles.specs.Runs.{tiled_run, plain_run, source_run, Movable}
use Rattle.subtiles.specs.Laws.{Allowed, ThereAndBack}
use Rattle.endian.proofs.Cats.{cat-same, cat-cat, cat_part, cat-peek}
use Rattle.subtiles.proofs.Sides.{Tiled, Sides, sides}
use Rattle.subtiles.proofs.Numbers.{tile_of, runs_tiled, tiled_lt, plain-lt, tiled_plain, plain_tiled}

-- a lent part of one run, from the run's number on
pub run_at : (xs : List ℕ) (w : ℕ) {s s' : ℕ} → s ≡ s' → take (s * w + w - s * w) (drop (s * w) xs) ≡ peek xs (s' * w) w
run_at xs w {s} e = rw (add-sub_cancel_left (s * w) w, e)

-- the items of one run
run_items : (n2 w s : ℕ) (brick : List ℕ) → cat n2 (λ k. item_at w brick (s * n2 + k)) ≡ peek brick (s * (n2 * w)) (n2 * w)
run_items n2 w s brick =
    cat-same n2 _ _ (λ k l. ap (λ (p : ℕ). peek brick p w) (add-mul (s * n2) k w ∙ ap (λ (q : ℕ). q + k * w) (mul_assoc s n2 w)))
    ∙ cat-peek brick (s * (n2 * w)) w n2

-- a place's number in the version 1 order, by its run
pub subtiled_run : (n1 n2 i j k : ℕ) → Tiled n1 → subtiled_of n1 n2 i j k ≡ tile_of n1 i j * n2 + k
subtiled_run n1 n2 i j k t = rw t.eights at (strides (i / 8) (j / 8) (i % 8) (j % 8) (n1 / 8))
  where
    strides : (x y a b m : ℕ) → x * (8 * (m * 8) * n2) + y * (64 * n2) + a * (8 * n2) + b * n2 + k ≡ ((x * m + y) * 64 + (a * 8 + b)) * n2 + k
    strides x y a b m = omega arith

-- a brick as so many runs
abbrev pub runs_from : (ℕ → ℕ) → ℕ → ℕ → List ℕ → List ℕ
runs_from source runs run brick = cat runs (λ r. peek brick (source r * run) run)

pub plain_runs : (n0 n1 n2 w : ℕ) (brick : List ℕ) → Tiled n1 → plain_from n0 n1 n2 w brick ≡ runs_from (tiled_run n1) (n0 * n1) (n2 * w) brick
unfolding plain_from tiled_run
plain_runs n0 n1 n2 w brick t =
    cat-same n0 _ _ (λ i l. cat-same n1 _ _ (λ j h. cat-same n2 _ _ (λ k g. rw (subtiled_run n1 n2 i j k t)) ∙ run_items n2 w (tile_of n1 i j) brick))
    ∙ cat-cat n0 n1 (λ i j. peek brick (tile_of n1 i j * (n2 * w)) (n2 * w))

-- column j of row i of a subtile, as a run of the plain order
abbrev column_at : ℕ → ℕ → List ℕ → ℕ → ℕ → ℕ → ℕ → List ℕ
column_at n1 run brick x y i j = peek brick (((x * 8 + i) * n1 + (y * 8 + j)) * run) run

column_items : (n1 n2 w : ℕ) (brick : List ℕ) (x y i j : ℕ) → cat n2 (λ k. item_at w brick (item_of n1 n2 (8 * x + i) (8 * y + j) k)) ≡ column_at n1 (n2 * w) brick x y i j
column_items n1 n2 w brick x y i j = run_items n2 w ((8 * x + i) * n1 + (8 * y + j)) brick ∙ rw (mul_comm 8 x, mul_comm 8 y)

pub subtiled_runs : (n0 n1 n2 w : ℕ) (brick : List ℕ) → Tiled n0 → Tiled n1 → subtiled_from n0 n1 n2 w brick ≡ runs_from (plain_run n1) (n0 * n1) (n2 * w) brick
unfolding subtiled_from plain_run
subtiled_runs n0 n1 n2 w brick t0 t1 =
    cat-same (n0 / 8) _ _ (λ x l. cat-same (n1 / 8) _ _ (λ y h. cat-same 8 _ _ (λ i g. cat-same 8 _ _ (λ j f. column_items n1 n2 w brick x y i j)) ∙ cat-cat 8 8 (column_at n1 (n2 * w) brick x y)))
    ∙ cat-cat (n0 / 8) (n1 / 8) (λ x y. cat 64 (λ u. column_at n1 (n2 * w) brick x y (u / 8) (u % 8)))
    ∙ cat-cat (n0 / 8 * (n1 / 8)) 64 (λ s u. column_at n1 (n2 * w) brick (s / (n1 / 8)) (s % (n1 / 8)) (u / 8) (u % 8))
    ∙ ap (λ (n : ℕ). cat n (λ r. column_at n1 (n2 * w) brick (r / 64 / (n1 / 8)) (r / 64 % (n1 / 8)) (r % 64 / 8) (r % 64 % 8))) (runs_tiled n0 n1 t0 t1)

-- the runs, moved either way into the front of a buffer
pub moved_front : (plain : Bool) (n0 n1 n2 w : ℕ) (brick rest : List ℕ) {front : List ℕ} → Tiled n0 → Tiled n1 → front ≡ runs_from (source_run plain n1) (n0 * n1) (n2 * w) brick
    → front ++ rest ≡ cond plain (plain_from n0 n1 n2 w brick) (subtiled_from n0 n1 n2 w brick) ++ rest
moved_front true n0 n1 n2 w brick rest t0 t1 e = rw (e, plain_runs n0 n1 n2 w brick t1)
moved_front false n0 n1 n2 w brick rest t0 t1 e = rw (e, subtiled_runs n0 n1 n2 w brick t0 t1)

-- each run is taken from inside the brick
pub source_lt : (plain : Bool) (n0 n1 : ℕ) → Tiled n0 → Tiled n1 → (r : ℕ) → r < n0 * n1 → source_run plain n1 r < n0 * n1
source_lt true n0 n1 t0 t1 = tiled_lt n0 n1 t0 t1
source_lt false n0 n1 t0 t1 = plain-lt n0 n1 t0 t1

-- the runs of a brick of n bytes, lent whole, and a buffer of n bytes
pub movable : (plain : Bool) (n0 n1 n2 w n from into : ℕ) → Sides n0 n1 n2 w → n ≡ brick_bytes n0 n1 n2 w → n ≤ from → into ≡ n → Movable plain n1 (n0 * n1) (n2 * w) from into
movable plain n0 n1 n2 w n from into s e f i =
    let runs : n ≡ n0 * n1 * (n2 * w) = e ∙ mul_assoc (n0 * n1) n2 w in
    record {
      low = s.crossline.low;
      high = s.crossline.high;
      few = mul-le-mul s.inline.high s.crossline.high;
      inside = source_lt plain n0 n1 s.inline s.crossline;
      whole = i ∙ runs;
      enough = omega arith;
    }

-- ---- there and back

-- a move by one numbering of the runs, and then by one that undoes it
back : (f g : ℕ → ℕ) (runs run : ℕ) (brick : List ℕ) → length brick ≡ runs * run → ((r : ℕ) → r < runs → f r < runs) → ((r : ℕ) → r < runs → g r < runs)
    → ((r : ℕ) → f (g r) ≡ r) → runs_from g runs run (runs_from f runs run brick) ≡ brick
back f g runs run brick e hf hg u =
    cat-same runs _ _ (λ r l. cat_part runs run (g r) (λ t. peek brick (f t * run) run) sized (hg r l) ∙ ap (λ (x : ℕ). peek brick (x * run) run) (u r))
    ∙ cat-same runs _ _ (λ r l. ap (λ (p : ℕ). peek brick p run) (sym (zero-add (r * run))))
    ∙ cat-peek brick 0 run runs
    ∙ take_all (runs * run) brick (omega arith)
  where
    sized : (t : ℕ) → t < runs → length (peek brick (f t * run) run) ≡ run
    sized t h = length-take-le run (drop (f t * run) brick) (rw length-drop (omega (arith, next_item run (f t) runs (hf t h))))

module _ (n0 n1 n2 w : ℕ) (brick : List ℕ) (a : Allowed n0 n1 n2 w) (e : length brick ≡ brick_bytes n0 n1 n2 w) where
  t0 : Tiled n0
  t0 = (sides (n0 ∷ n1 ∷ n2 ∷ []) w a).inline

  t1 : Tiled n1
  t1 = (sides (n0 ∷ n1 ∷ n2 ∷ []) w a).crossline

  long : length brick ≡ n0 * n1 * (n2 * w)
  long = e ∙ mul_assoc (n0 * n1) n2 w

  subtiled_back : subtiled_from n0 n1 n2 w (plain_from n0 n1 n2 w brick) ≡ brick
  subtiled_back =
      rw (plain_runs n0 n1 n2 w brick t1, subtiled_runs n0 n1 n2 w (runs_from (tiled_run n1) (n0 * n1) (n2 * w) brick) t0 t1)
      (back (tiled_run n1) (plain_run n1) (n0 * n1) (n2 * w) brick long (tiled_lt n0 n1 t0 t1) (plain-lt n0 n1 t0 t1) (tiled_plain n0 n1 t0 t1))

  plain_back : plain_from n0 n1 n2 w (subtiled_from n0 n1 n2 w brick) ≡ brick
  plain_back =
      rw (subtiled_runs n0 n1 n2 w brick t0 t1, plain_runs n0 n1 n2 w (runs_from (plain_run n1) (n0 * n1) (n2 * w) brick) t1)
      (back (plain_run n1) (tiled_run n1) (n0 * n1) (n2 * w) brick long (plain-lt n0 n1 t0 t1) (tiled_lt n0 n1 t0 t1) (plain_tiled n0 n1 t0 t1))

pub there_and_back : ThereAndBack
there_and_back = record { from_subtiled = subtiled_back; from-plain = plain_back }
