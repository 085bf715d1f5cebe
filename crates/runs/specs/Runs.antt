-- A region among the bricks of its level, and what holds of its samples once the checks are passed.
use Rattle.std.specs.Prelude.{true, List, ◌≡◌, ℕ, ◌+◌, ◌≤◌, ◌<◌, length}
use Rattle.geometry.specs.Limits.{size_limit}
use Rattle.geometry.specs.Geometry.{level_at}
use Rattle.geometry.specs.declared.Level.{Level}
use Rattle.record.specs.Record.{side_of, header_of, brick_bytes_of}
use Rattle.record.specs.declared.Description.{Description}
use Rattle.record.specs.declared.Record.{Record}
use Rattle.checks.specs.Fits.{record_fits}
use Rattle.table.specs.Entries.{table_in}
use Rattle.table.specs.declared.Kind.TheVariants.{Stored}
use Rattle.cube.specs.declared.Region.{Region}
use Rattle.cube.specs.Places.{item_bytes, kind_in, brick_of, missing_brick, Inside}
use Rattle.cube.specs.Regions.{start_of, run_of, place}
use Rattle.runs.specs.declared.Lattice.{Lattice}

-- what numbers the bricks of level l
abbrev pub level_in : Description → ℕ → Level
level_in d = level_at d.size d.side

-- the lattice of a region
unfoldable pub lattice_of : Record → Region → Lattice
lattice_of r g = record {
  table = table_in r;
  level = level_in r.description g.level;
  side0 = side_of r.description 0;
  side1 = side_of r.description 1;
  side2 = side_of r.description 2;
  width = item_bytes r;
  missing = missing_brick r;
  start0 = start_of g 0;
  start1 = start_of g 1;
  start2 = start_of g 2;
  count0 = run_of g 0;
  count1 = run_of g 1;
  count2 = run_of g 2;
}

-- checks 14 and 15 do not apply
pub record Allowed (r : Record) (g : Region) : Type 0 where
  pub fitting : record_fits r ≡ true
  pub leveled : g.level < r.levels

-- the lattice is the region's, and the sample that is i, j, k past its start lies in the level's bricks
pub record Placed (r : Record) (g : Region) (q : Lattice) (i j k : ℕ) : Type 0 where
  pub laid : q ≡ lattice_of r g
  pub fitting : record_fits r ≡ true
  pub inside : Inside r (place g i j k)

-- a stored brick lies after the headers, in a file of n bytes
pub record Ends (r : Record) (n o : ℕ) : Type 0 where
  pub low : header_of r.description r.text ≤ o
  pub high : o + brick_bytes_of r.description ≤ n

-- what a taken verdict on the region leaves of the file f: every sample lies in the level's bricks, and a stored brick in the file
pub record Ready (r : Record) (f : List ℕ) (g : Region) (q : Lattice) : Type 0 where
  pub laid : q ≡ lattice_of r g
  pub fitting : record_fits r ≡ true
  pub same_length : r.length ≡ length f
  pub few : (run_of g 0 ≤ size_limit) × (run_of g 1 ≤ size_limit) × (run_of g 2 ≤ size_limit)
  pub inside : (i j k : ℕ) → i < run_of g 0 → j < run_of g 1 → k < run_of g 2 → Inside r (place g i j k)
  pub ends : (i j k : ℕ) → i < run_of g 0 → j < run_of g 1 → k < run_of g 2 → (o : ℕ) → kind_in r f (brick_of r (place g i j k)) ≡ Stored o → Ends r (length f) o

-- a sample of the region, by how far it is past its start
pub record Holds (g : Region) (i j k : ℕ) : Type 0 where
  pub inline : i < run_of g 0
  pub crossline : j < run_of g 1
  pub vertical : k < run_of g 2

-- the lattice is the region's, of a record that fits together
pub record Laid (r : Record) (g : Region) (q : Lattice) : Type 0 where
  pub laid : q ≡ lattice_of r g
  pub fitting : record_fits r ≡ true
