-- The block of entries that a region touches: its numbers, and that it lies in the table. Assumes nothing.
use Rattle.table.specs.Entries.{table_in, breaks12}
use mathlib.Core.List.{List}
use mathlib.Core.Bool.{Bool, cond}
use mathlib.Core.Path.{◌≡◌, refl, sym}
use Prim.Native.Nat.{ℕ, ◌+◌, ◌-◌, ◌*◌, ◌/◌, ◌≤◌, ◌<◌}
use native.Mathlib.Nat.{mul_comm, mul_assoc, mul-le-mul}
use native.Mathlib.Omega.{arith}
use borrow.Author.Tests.{lt-leb}
use Rattle.geometry.specs.Limits.{size_limit}
use Rattle.endian.specs.Loops.{tri}
use Rattle.geometry.specs.Geometry.{extent, entry_at, Brick}
use Rattle.geometry.specs.declared.Level.{Level}
use Rattle.geometry.proofs.Levels.{at_direct, half_le, halved-small, small-two}
use Rattle.geometry.proofs.Entries.{entry_is, entry_below}
use Rattle.record.specs.Record.{side_of, size_of, count_of, bricks_along, bricks_of, Sized}
use Rattle.record.specs.declared.Record.{Record}
use Rattle.record.proofs.Laws.{small}
use Rattle.checks.proofs.Described.{described_sized, described-few}
use Rattle.checks.proofs.Records.{Fit, fits_all}
use Rattle.runs.specs.Runs.{level_in}
use Rattle.cube.specs.declared.Region.{Region}
use Rattle.cube.specs.Places.{entry_in, kind_in}
use Rattle.cube.specs.Regions.{start_of, run_of, not_stored}
use Rattle.cube.proofs.Regions.{Within, within}
use Rattle.regions.specs.declared.Along.{Along}
use Rattle.regions.specs.Search.{fails, entries_in, Below, along_of, block_of, Passed}
use Rattle.regions.proofs.Lowest.{touched, brick_in}
use Rattle.endian.proofs.Cats.{cat-same}

-- a level's extent is at most the size
pub extent-le : (size l : ℕ) → extent size l ≤ size
extent-le size l = rw (← at_direct size l) (half_le size l)

module _ (r : Record) (g : Region) (p : Passed r g) where
  pub fit_of : Fit r
  fit_of = fits_all r p.fitting

  pub sized_of : Sized r.description
  sized_of = described_sized _ _ fit_of.is-described

  -- a region that passed check 16, by direction
  pub within_of : Within r g
  within_of = within r g fit_of (lt-leb _ _ p.leveled) p.inside

  runs_few : (run_of g 0 ≤ size_limit) × (run_of g 1 ≤ size_limit) × (run_of g 2 ≤ size_limit)
  runs_few =
      let s = sized_of in
      let w = within_of in (
        omega (arith, w.run0, extent-le (size_of r.description 0) g.level, s.size0.high),
        omega (arith, w.run1, extent-le (size_of r.description 1) g.level, s.size1.high),
        omega (arith, w.run2, extent-le (size_of r.description 2) g.level, s.size2.high),
      )

  -- no product of its counts and an item wraps
  pub room_small : (i : ℕ) → i ≤ 4
      → (run_of g 0 * run_of g 1 ≤ 1099511627776) × (run_of g 0 * run_of g 1 * run_of g 2 ≤ 1152921504606846976) × (run_of g 0 * run_of g 1 * run_of g 2 * i ≤ 4611686018427387904)
  room_small i hi =
      let two : run_of g 0 * run_of g 1 ≤ 1099511627776 = mul-le-mul runs_few.0 runs_few.1 in
      let three : run_of g 0 * run_of g 1 * run_of g 2 ≤ 1152921504606846976 = mul-le-mul two runs_few.2 in
      (two, three, mul-le-mul three hi)

-- three digits further on: so many entries further on
tri_step : (m n a b c x y z : ℕ) → tri m n (a + z) (b + y) (c + x) ≡ tri m n a b c + z * (n * m) + y * n + x
tri_step m n a b c x y z = omega (arith, mul_comm n m, mul_assoc z m n)

module _ (r : Record) (g : Region) where
  abbrev x₀ : ℕ
  x₀ = start_of g 0 / side_of r.description 0

  abbrev y₀ : ℕ
  y₀ = start_of g 1 / side_of r.description 1

  abbrev z₀ : ℕ
  z₀ = start_of g 2 / side_of r.description 2

  entry_step_lem : (x y z : ℕ) → entry_in r g.level (x₀ + x) (y₀ + y) (z₀ + z) ≡ (block_of r g).first + z * (block_of r g).layer + y * (block_of r g).row + x
  unfolding entry_in block_of
  entry_step_lem x y z = omega (arith, entry_is (count_of r.description 0) (count_of r.description 1) (count_of r.description 2) g.level (x₀ + x) (y₀ + y) (z₀ + z), entry_is (count_of r.description 0) (count_of r.description 1) (count_of r.description 2) g.level x₀ y₀ z₀, tri_step (bricks_along r.description g.level 1) (bricks_along r.description g.level 0) z₀ y₀ x₀ x y z)

  -- the block's entries are those that the region touches
  pub block_touched : entries_in (block_of r g) ≡ touched r g
  unfolding entries_in touched block_of
  block_touched = cat-same _ _ _ (λ z _. cat-same _ _ _ (λ y _. cat-same _ _ _ (λ x _. rw (entry_step_lem x y z))))

  block_pos : (1 ≤ (block_of r g).inline) × (1 ≤ (block_of r g).crossline)
  unfolding block_of
  block_pos = (omega arith, omega arith)

  pub block_high : 1 ≤ (block_of r g).vertical
  unfolding block_of
  block_high = omega arith

  -- each of them is one of the cube's
  block_brick : (x y z : ℕ) → Passed r g → x < (block_of r g).inline → y < (block_of r g).crossline → z < (block_of r g).vertical
      → Brick (count_of r.description 0) (count_of r.description 1) (count_of r.description 2) g.level (x₀ + x) (y₀ + y) (z₀ + z)
  unfolding block_of
  block_brick x y z p hx hy hz = brick_in r g (fit_of r g p) (within_of r g p) x y z hx hy hz

  block_entry : (x y z : ℕ) → Passed r g → x < (block_of r g).inline → y < (block_of r g).crossline → z < (block_of r g).vertical
      → entry_in r g.level (x₀ + x) (y₀ + y) (z₀ + z) < bricks_of r.description
  unfolding entry_in bricks_of
  block_entry x y z p hx hy hz = entry_below _ _ _ (block_brick x y z p hx hy hz)

  row_below : (y z : ℕ) → Passed r g → y < (block_of r g).crossline → z < (block_of r g).vertical
      → (block_of r g).first + z * (block_of r g).layer + y * (block_of r g).row + (block_of r g).inline ≤ bricks_of r.description
  row_below y z p hy hz =
      let last = (block_of r g).inline - 1 in
      omega (arith, block_pos, entry_step_lem last y z, block_entry last y z p (omega (arith, block_pos)) hy hz)

  pub block_below : Passed r g → Below (block_of r g) (bricks_of r.description)
  block_below p z hz = (omega (arith, row_below 0 z p block_pos.1 hz), λ y hy. row_below y z p hy hz)

-- the test of an entry is that of check 19, or of check 12
pub fails-is : (r : Record) (f : List ℕ) (stored : Bool) (e : ℕ) → fails stored (table_in r) f e ≡ cond stored (not_stored r f e) (breaks12 r f e)
unfolding fails kind_in breaks12
fails-is r f stored e = refl

-- ---- what the functions make

-- what a block is made of: the numbers of its level, and the bricks that the region touches in each direction
pub record BlockParts (r : Record) (g : Region) (v : Level) (x y z : Along) : Type 0 where
  pub level : v ≡ level_in r.description g.level
  pub inline : x ≡ along_of (side_of r.description 0) (start_of g 0) (run_of g 0)
  pub crossline : y ≡ along_of (side_of r.description 1) (start_of g 1) (run_of g 1)
  pub vertical : z ≡ along_of (side_of r.description 2) (start_of g 2) (run_of g 2)

pub block_parts : {r : Record} {g : Region} {v : Level} {x y z : Along} → v ≡ level_in r.description g.level → x ≡ along_of (side_of r.description 0) (start_of g 0) (run_of g 0)
    → y ≡ along_of (side_of r.description 1) (start_of g 1) (run_of g 1) → z ≡ along_of (side_of r.description 2) (start_of g 2) (run_of g 2) → BlockParts r g v x y z
block_parts ev ex ey ez = record { level = ev; inline = ex; crossline = ey; vertical = ez }

module _ {r : Record} {g : Region} {v : Level} {x y z : Along} (e : BlockParts r g v x y z) where
  first_made : entry_at v x.first y.first z.first ≡ (block_of r g).first
  unfolding block_of entry_in
  first_made =
      rw (e.level, e.inline, e.crossline, e.vertical) (sym (entry_is _ _ _ g.level (x₀ r g) (y₀ r g) (z₀ r g)))

  -- what the first entry asks, and the entries of a layer
  pub first_ok : Passed r g → (x.first < v.inline) × (entry_at v x.first y.first z.first ≤ 18446744073709551615)
  first_ok p = (
    rw (e.level, e.inline) (omega (arith, (block_brick r g 0 0 0 p (block_pos r g).0 (block_pos r g).1 (block_high r g)).inline)),
    omega (arith, first_made, block_below r g p 0 (block_high r g), described-few _ _ (fit_of r g p).is-described),
  )

  pub layer_small : Passed r g → v.inline * v.crossline ≤ 18446744073709551615
  layer_small p =
      let m = halved-small g.level (small r.description (sized_of r g p)) in
      rw e.level (omega (arith, small-two m.inline m.crossline))

  pub block_made : (n : ℕ) → n ≡ entry_at v x.first y.first z.first
      → record { first = n; inline = x.span; crossline = y.span; vertical = z.span; row = v.inline; layer = v.inline * v.crossline } ≡ block_of r g
  unfolding block_of
  block_made n q = rw (q, first_made, e.level, e.inline, e.crossline, e.vertical)
