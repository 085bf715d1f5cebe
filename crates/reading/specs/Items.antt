-- For the private functions of reading alone: the items of one brick, as bytes, and when an inline of a box is one run.
use Rattle.std.specs.Prelude.{List, ◌≡◌, ◌⊎◌, ℕ, ◌+◌, ◌*◌}
use Rattle.endian.specs.Loops.{cat}
use Rattle.endian.specs.Bytes.{peek, lows}
use Rattle.record.specs.declared.Record.{Record}
use Rattle.table.specs.declared.Kind.{Kind}
use Rattle.table.specs.declared.Kind.TheVariants.{Missing, Constant, Stored}
use Rattle.cube.specs.declared.Region.{Region}
use Rattle.cube.specs.Places.{item_bytes, missing_brick, rows_of, raw_of}
use Rattle.cube.specs.Regions.{place}
use Rattle.runs.specs.declared.site.BrickBox.{BrickBox}
use Rattle.runs.specs.declared.site.View.{View}

-- n items of w bytes from item m on: the value of a missing or a constant brick again and again, a part of the file of a stored one
abbrev pub items_of : List ℕ → ℕ → ℕ → Kind → ℕ → ℕ → List ℕ
items_of f w missing Missing m n = cat n (λ t. lows w missing)
items_of f w missing (Constant v) m n = cat n (λ t. lows w v)
items_of f w missing (Stored o) m n = peek f (o + m * w) (n * w)

-- and of a record's brick
abbrev pub raw_items : Record → List ℕ → Kind → ℕ → ℕ → List ℕ
raw_items r f = items_of f (item_bytes r) (missing_brick r).value

-- the bytes of a region's sample, by how far it is past the region's start
abbrev pub raw_at : Record → List ℕ → Region → ℕ → ℕ → ℕ → List ℕ
raw_at r f g x y z = raw_of r (rows_of r f (place g x y z))

-- each inline of a box is one run, in its brick and in the region: it has one row, or its columns are whole ones of both
abbrev pub OneRun : View → BrickBox → Type 0
OneRun v b = (b.j.n ≡ 1) ⊎ ((b.k.n ≡ v.site.lattice.side2) × (b.k.n ≡ v.site.lattice.count2))
