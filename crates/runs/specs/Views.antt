-- What a read of a view is said in: spans of a region's samples that lie in one brick, and a buffer of which a box is filled.
-- w is the number of elements that an item takes in the buffer, s what a record, a file and a region have at a sample.
use Rattle.std.specs.Prelude.{List, ◌≡◌, ℕ, ◌*◌, length}
use Rattle.record.specs.declared.Record.{Record}
use Rattle.cube.specs.declared.Region.{Region}
use Rattle.cube.specs.Regions.{run_of, size_of}
use Rattle.runs.specs.declared.site.Span.{Span}
use Rattle.runs.specs.declared.site.BrickBox.{BrickBox}
use Rattle.runs.specs.declared.site.Corner.{Corner}
use Rattle.runs.specs.declared.site.View.{View}
use Rattle.runs.specs.Boxes.{Along, Boxed, Rows, Block}

-- all samples in direction d
abbrev pub whole : View → ℕ → Span
whole v d = record { at = 0; n = run_of v.site.region.now d }

-- one inline
abbrev pub only : ℕ → Span
only i = record { at = i; n = 1 }

-- samples in direction d that lie in one brick
abbrev pub Through : View → ℕ → Span → Type 0
Through v d s = Along v.site.record.now v.site.region.now d s.at s.n

pub record InBrick (v : View) (b : BrickBox) : Type 0 where
  pub inline : Through v 0 b.i
  pub crossline : Through v 1 b.j
  pub vertical : Through v 2 b.k

-- the corner is that of a box, or of its rows on the inline i
abbrev pub IsCorner : View → Corner → BrickBox → Type 0
IsCorner v c b = Block v.site.record.now v.file.now v.site.region.now v.site.lattice c.kind c.item b.i.at b.i.n b.j.at b.j.n b.k.at b.k.n

abbrev pub IsRowCorner : View → Corner → ℕ → Span → Span → Type 0
IsRowCorner v c i j k = Rows v.site.record.now v.file.now v.site.region.now v.site.lattice c.kind c.item i j.at k.at j.n k.n

module _ {A : Type 0} (w : Record → ℕ) where
  -- a buffer has room for the region's items
  abbrev pub Roomy : View → List A → Type 0
  Roomy v d = length d ≡ size_of v.site.region.now * w v.site.record.now

  -- new is old, but that a box of the region holds what its samples have
  abbrev pub Filled : (Record → List ℕ → Region → ℕ → ℕ → ℕ → List A) → View → Span → Span → Span → List A → List A → Type 0
  Filled s v i j k old new =
      Boxed (w v.site.record.now) (run_of v.site.region.now 0) (run_of v.site.region.now 1) (run_of v.site.region.now 2) (s v.site.record.now v.file.now v.site.region.now) i.at i.n j.at j.n k.at k.n old new
