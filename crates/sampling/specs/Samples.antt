-- For the private functions of sampling alone, the parts of a float read: the coding range, the samples of a brick, and strips of them.
use Rattle.std.specs.Prelude.{false, List, [], ◌∷◌, ◌≡◌, ℕ, ◌+◌, ◌*◌, Float}
use Rattle.endian.specs.Loops.{cat}
use Rattle.endian.specs.Bytes.{le}
use Rattle.record.specs.Types.{coding_of, no_type, decode_of}
use Rattle.record.specs.declared.Record.{Record}
use Rattle.table.specs.declared.Kind.{Kind}
use Rattle.table.specs.declared.Kind.TheVariants.{Missing, Constant, Stored}
use Rattle.cube.specs.declared.Region.{Region}
use Rattle.cube.specs.Places.{item_bytes, rows_of, missing_brick, float_of}
use Rattle.cube.specs.Regions.{place}
use Rattle.runs.specs.declared.Lattice.{Lattice}
use Rattle.sampling.specs.declared.Range.{Range}

-- the coding range of the record's grid
abbrev pub range_of : Record → Range
range_of r = record { min = r.grid.min; max = r.grid.max }

-- the type is one of the format's, and the lattice has its width and what a missing brick reads as
pub record Fitting (r : Record) (q : Lattice) : Type 0 where
  pub typed : no_type (coding_of r.description.datatype) ≡ false
  pub width : q.width ≡ item_bytes r
  pub missing : q.missing ≡ missing_brick r

-- the float of a region's sample, by how far it is past the region's start: one element of a buffer
abbrev pub float_at : Record → List ℕ → Region → ℕ → ℕ → ℕ → List Float
float_at r f g x y z = float_of r (rows_of r f (place g x y z)) ∷ []

abbrev pub one : Record → ℕ
one r = 1

-- n samples of a brick of this kind from item m on: the float of a missing or a constant brick again and again, decoded parts of the file of a stored one
abbrev pub floats_of : Record → List ℕ → Kind → ℕ → ℕ → List Float
floats_of r f Missing m n = cat n (λ t. (missing_brick r).float ∷ [])
floats_of r f (Constant v) m n = cat n (λ t. decode_of r.description.datatype r.grid.min r.grid.max v ∷ [])
floats_of r f (Stored o) m n = cat n (λ t. decode_of r.description.datatype r.grid.min r.grid.max (le (item_bytes r) f (o + (m + t) * item_bytes r)) ∷ [])

-- n samples of it, each s items after the one before
abbrev pub strip_of : Record → List ℕ → Kind → ℕ → ℕ → ℕ → List Float
strip_of r f κ m s n = cat n (λ t. floats_of r f κ (m + t * s) 1)
