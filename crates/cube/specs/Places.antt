-- Sample places of an opened cube, and what each holds (FORMAT 8). r is the record that opening gave, f the cube's bytes.
use Rattle.std.specs.Prelude.{List, ℕ, ◌+◌, ◌*◌, ◌/◌, ◌%◌, ◌<◌, Float}
use Rattle.std.specs.Float.{binary64}
use Rattle.std.specs.Float.Ieee.{of_bits}
use Rattle.endian.specs.Bytes.{peek, le, lows}
use Rattle.geometry.specs.Geometry.{entry_of, item_of}
use Rattle.record.specs.Types.{width_of, decode_of}
use Rattle.record.specs.Record.{side_of, count_of, bricks_along, extent_along, levels_of}
use Rattle.record.specs.declared.Record.{Record}
use Rattle.table.specs.declared.Kind.{Kind}
use Rattle.table.specs.declared.Kind.TheVariants.{Missing, Constant, Stored}
unfoldable pub use Rattle.table.specs.Entries.{kind_in}
use Rattle.cube.specs.declared.MissingBrick.{MissingBrick}

-- a sample place: a level and an index of three numbers in that level's bricks
pub record Place : Type 0 where
  pub lvl : ℕ
  pub i : ℕ
  pub j : ℕ
  pub k : ℕ

-- what a place holds: a row of the ledger (FORMAT 12.4), its bytes or the word missing
pub data Row : Type 0 where
  missing : Row
  bytes : List ℕ → Row

module _ (r : Record) where
  -- the bytes of an item
  abbrev pub item_bytes : ℕ
  item_bytes = width_of r.description.datatype

  -- the entry of brick (x, y, z) of level l
  unfoldable pub entry_in : ℕ → ℕ → ℕ → ℕ → ℕ
  entry_in l x y z = entry_of (count_of r.description 0) (count_of r.description 1) (count_of r.description 2) l x y z

  -- the entry of a place's brick: the index divided by the sides names it
  unfoldable pub brick_of : Place → ℕ
  brick_of p = entry_in p.lvl (p.i / side_of r.description 0) (p.j / side_of r.description 1) (p.k / side_of r.description 2)

  -- a place's item number in its brick: from the remainders
  unfoldable pub item_no : Place → ℕ
  item_no p = item_of (side_of r.description 1) (side_of r.description 2) (p.i % side_of r.description 0) (p.j % side_of r.description 1) (p.k % side_of r.description 2)

  -- where a place's bytes start, in a stored brick at offset o
  unfoldable pub byte_of : ℕ → Place → ℕ
  byte_of o p = o + item_no p * item_bytes

  -- what a place holds, its brick being of this kind
  abbrev pub row_in : Kind → List ℕ → Place → Row
  row_in Missing f p = missing
  row_in (Constant v) f p = bytes (lows item_bytes v)
  row_in (Stored o) f p = bytes (peek f (byte_of o p) item_bytes)

  -- the cube's bytes, read as a ledger
  unfoldable pub rows_of : List ℕ → Place → Row
  rows_of f p = row_in (kind_in r f (brick_of p)) f p

  -- what a missing brick reads as: storage zero, the unsigned number of an item's bytes, and the float +0.0
  unfoldable pub missing_brick : MissingBrick
  missing_brick = record { value = 0; float = of_bits binary64 0 }

  -- the storage bytes that a row reads as
  unfoldable pub raw_of : Row → List ℕ
  raw_of missing = lows item_bytes missing_brick.value
  raw_of (bytes b) = b

  -- the float that a row reads as, by the float rules
  unfoldable pub float_of : Row → Float
  float_of missing = missing_brick.float
  float_of (bytes b) = decode_of r.description.datatype r.grid.min r.grid.max (le item_bytes b 0)

  -- what a raw and a float read of a row give
  abbrev pub reading_of : Row → List ℕ × Float
  reading_of row = (raw_of row, float_of row)

  -- a place of the level's bricks, padding included
  pub record Inside (p : Place) : Type 0 where
    pub has-level : p.lvl < levels_of r.description
    pub has_i : p.i < bricks_along r.description p.lvl 0 * side_of r.description 0
    pub has_j : p.j < bricks_along r.description p.lvl 1 * side_of r.description 1
    pub has-k : p.k < bricks_along r.description p.lvl 2 * side_of r.description 2

  -- a place within its level's extent
  pub record Extent (p : Place) : Type 0 where
    pub in_level : p.lvl < levels_of r.description
    pub in_i : p.i < extent_along r.description p.lvl 0
    pub in_j : p.j < extent_along r.description p.lvl 1
    pub in_k : p.k < extent_along r.description p.lvl 2
