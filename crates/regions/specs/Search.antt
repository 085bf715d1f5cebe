-- For the private functions of regions alone: the entries that a region touches as a block of entry numbers, and the search over them for
-- checks 12 and 19.
use Rattle.std.specs.Prelude.{Bool, true, not, cond, List, [], ◌∷◌, ◌≡◌, ℕ, suc, ◌+◌, ◌-◌, ◌*◌, ◌/◌, ◌≤◌, ◌<◌}
use Rattle.endian.specs.Loops.{cat}
use Rattle.record.specs.Record.{side_of, bricks_along}
use Rattle.record.specs.declared.Record.{Record}
use Rattle.record.specs.Answers.{Verdict, Taken}
use Rattle.checks.specs.Fits.{record_fits}
use Rattle.table.specs.Entries.{kind_at, outside_at}
use Rattle.table.specs.declared.Table.{Table}
use Rattle.cube.specs.declared.Region.{Region}
use Rattle.cube.specs.Places.{entry_in}
use Rattle.cube.specs.Regions.{start_of, run_of, in_extent, touches, unless_touched, is_stored, not_stored}
use Rattle.regions.specs.declared.Along.{Along}
use Rattle.regions.specs.declared.Block.{Block}
use Rattle.record.specs.declared.Refusal.TheVariants as refusal

-- ---- one entry

-- entry e fails: check 19 wants a stored brick, check 12 one that is not out of range
unfoldable pub fails : Bool → Table → List ℕ → ℕ → Bool
fails stored t f e = cond stored (not (is_stored (kind_at t f e))) (outside_at t f e)

-- ---- blocks of entries

-- n entries from a on
abbrev pub row_from : ℕ → ℕ → List ℕ
row_from a n = cat n (λ x. (a + x) ∷ [])

-- the rows of a layer, from entry a on
abbrev pub layer_from : Block → ℕ → List ℕ
layer_from b a = cat b.crossline (λ y. row_from (a + y * b.row) b.inline)

-- the layers of a block
unfoldable pub entries_in : Block → List ℕ
entries_in b = cat b.vertical (λ z. layer_from b (b.first + z * b.layer))

-- a layer's entries from a on are among n, and a block's
abbrev pub LayerBelow : Block → ℕ → ℕ → Type 0
LayerBelow b a n = (y : ℕ) → y < b.crossline → a + y * b.row + b.inline ≤ n

abbrev pub Below : Block → ℕ → Type 0
Below b n = (z : ℕ) → z < b.vertical → (b.first + z * b.layer ≤ n) × LayerBelow b (b.first + z * b.layer) n

-- ---- the block of a region

-- how many bricks of side s a run from a, c long, touches
abbrev pub span : ℕ → ℕ → ℕ → ℕ
span s a c = suc ((a + c - 1) / s - a / s)

-- the first of them, and how many
abbrev pub along_of : ℕ → ℕ → ℕ → Along
along_of s a c = record { first = a / s; span = span s a c }

-- the entries that a region touches
unfoldable pub block_of : Record → Region → Block
block_of r g = record {
  first = entry_in r g.level (start_of g 0 / side_of r.description 0) (start_of g 1 / side_of r.description 1) (start_of g 2 / side_of r.description 2);
  inline = span (side_of r.description 0) (start_of g 0) (run_of g 0);
  crossline = span (side_of r.description 1) (start_of g 1) (run_of g 1);
  vertical = span (side_of r.description 2) (start_of g 2) (run_of g 2);
  row = bricks_along r.description g.level 0;
  layer = bricks_along r.description g.level 0 * bricks_along r.description g.level 1;
}

-- checks 14, 15 and 16 do not apply
pub record Passed (r : Record) (g : Region) : Type 0 where
  pub fitting : record_fits r ≡ true
  pub leveled : g.level < r.levels
  pub inside : in_extent r g ≡ true

-- what is judged after check 12: check 19 for a write, nothing for a read
abbrev pub rest : Bool → Record → List ℕ → Region → Verdict
rest write r f g = cond write (unless_touched r refusal.NotStored (touches r g) (not_stored r f) Taken) Taken
